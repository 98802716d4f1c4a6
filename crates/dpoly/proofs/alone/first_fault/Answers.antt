use Rattle.std.proofs.Common.{◌+◌, ℕ, List, Some, Err, IfSome, subst, sym, arith}
use Rattle.desk.specs.Sight.{part_in}
use Rattle.poly_graph.specs.ProblemViews.{problem_of}
use Rattle.cert_model.specs.Accepted.{verdict}
use Rattle.cert_check.specs.declared.fault.CertFault.{CertFault}
use Rattle.check_run.specs.declared.check.Unconfirmed.{Unconfirmed}
use Rattle.dpoly.specs.Join.{IsFirstFaultOn, IsToldAlone}
use Rattle.dpoly.proofs.ReadAlone.{accepted_one, fault_first}
use Rattle.dpoly.proofs.alone.first_fault.Goals as goal

pub loop-number-preserved : goal.loop-number-preserved
loop-number-preserved g c =
    accepted_one (problem_of c.args.problem.now) c.args.bound c.loop-number.number c.args.count (g.D.Desk.sight c.args.desk.now) (g.D.Desk.sight c.loop-number.desk) (g.D.Desk.sight c.told_alone.new.desk) c.loop-number.invariant c.loop-number-test.true
    c.in-Ok.field-0 _ (omega arith) c.in-Ok.ensures.read c.in-Ok.ensures.told

pub returns-in-Err-Fault-clause-told : goal.returns-in-Err-Fault-clause-told
returns-in-Err-Fault-clause-told g c =
    let T : Unconfirmed → Type 0 = λ x. IfSome (part_in c.loop-number.number (g.D.Desk.sight c.loop-number.desk)) (λ (cert : List ℕ). IsToldAlone (verdict (problem_of c.args.problem.now) c.args.bound cert) (Err x)) in
    subst (λ (f : CertFault). IsFirstFaultOn (problem_of c.args.problem.now) c.args.bound c.args.count (g.D.Desk.sight c.args.desk.now) (Some (c.loop-number.number + 1, f))) (sym c.in-Err-Fault.fault-is)
    (fault_first (problem_of c.args.problem.now) c.args.bound c.loop-number.number c.args.count (g.D.Desk.sight c.args.desk.now) (g.D.Desk.sight c.loop-number.desk) (g.D.Desk.sight c.told_alone.new.desk) c.loop-number.invariant c.loop-number-test.true
    c.in-Err-Fault.fault (c.loop-number.number + 1) (omega arith) (subst T c.in-Err-Fault.field-0-is c.in-Err-Fault.ensures.told))
