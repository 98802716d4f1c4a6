use Rattle.std.proofs.Common.{Result, subst, sym}
use Rattle.cert_check.specs.declared.checker.Verdict as told
use Rattle.cert_check.specs.declared.fault.CertFault.{CertFault}
use Rattle.dpoly.specs.Join.{IsToldJoint}
use Rattle.dpoly.proofs.join.told.Goals as goal

pub returns-in-Err : goal.returns-in-Err
returns-in-Err c = subst (λ (r : Result told.Verdict CertFault). IsToldJoint r c.refused.result) (sym c.in-Err.is) c.refused.ensures
