use Rattle.std.proofs.Common.{Result, subst}
use Rattle.cert_check.specs.declared.fault.CertFault.{CertFault}
use Rattle.dpoly.specs.declared.answers.SearchAnswer.{SearchAnswer}
use Rattle.dpoly.specs.Resume.{IsToldMore}
use Rattle.dpoly.proofs.Resuming.{told-ends, refused-ends}
use Rattle.dpoly.proofs.resume.end_resumed.Goals as goal

pub returns-in-Ok-clause-ends : goal.returns-in-Ok-clause-ends
returns-in-Ok-clause-ends g c p b words cert o t =
    told-ends p b words cert c.args.out.now _ _ c.in-Ok.told _ _ _ o c.deref.ensures.value c.deref-in-Ok.ensures.value (subst (λ (r : Result SearchAnswer CertFault). IsToldMore p b words cert r) c.in-Ok.is t) c.finish.ensures.ends

pub returns-in-Err-clause-ends : goal.returns-in-Err-clause-ends
returns-in-Err-clause-ends g c p b words cert o t =
    refused-ends p b words cert c.in-Err.fault _ _ _ (subst (λ (r : Result SearchAnswer CertFault). IsToldMore p b words cert r) c.in-Err.is t) c.refuse.ensures.refuses
