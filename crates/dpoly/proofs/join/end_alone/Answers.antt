use Rattle.std.proofs.Common.{ℕ, Option, subst}
use Rattle.poly_graph.specs.ProblemViews.{problem_of}
use Rattle.cert_check.specs.declared.fault.CertFault.{CertFault}
use Rattle.dpoly.specs.Join.{IsFirstFaultOn}
use Rattle.dpoly.proofs.Joining.{alone_accepted, alone_refused}
use Rattle.dpoly.proofs.join.end_alone.Goals as goal

pub returns-in-Ok-Some-clause-ends : goal.returns-in-Ok-Some-clause-ends
returns-in-Ok-Some-clause-ends g c =
    alone_refused (problem_of c.args.problem.now) c.args.bound c.args.count c.args.joint (g.D.Desk.sight c.args.desk.now) c.in-Ok-Some.number c.in-Ok-Some.fault c.refused_part.result (g.D.Desk.sight c.first_fault.new.desk) (g.D.Desk.sight c.refuse_with.new.desk) c.refuse_with.result
    (subst (λ (x : Option (ℕ × CertFault)). IsFirstFaultOn (problem_of c.args.problem.now) c.args.bound c.args.count (g.D.Desk.sight c.args.desk.now) x) c.in-Ok-Some.field-0-is c.in-Ok-Some.ensures.told)
    c.in-Ok-Some.ensures.read c.refused_part.ensures c.refuse_with.ensures.ends

pub returns-in-Ok-None-clause-ends : goal.returns-in-Ok-None-clause-ends
returns-in-Ok-None-clause-ends g c =
    alone_accepted (problem_of c.args.problem.now) c.args.bound c.args.count c.args.joint (g.D.Desk.sight c.args.desk.now) (g.D.Desk.sight c.first_fault.new.desk) (g.D.Desk.sight c.end_accepted.new.desk) c.end_accepted.result
    (subst (λ (x : Option (ℕ × CertFault)). IsFirstFaultOn (problem_of c.args.problem.now) c.args.bound c.args.count (g.D.Desk.sight c.args.desk.now) x) c.in-Ok-None.field-0-is c.in-Ok-None.ensures.told)
    c.in-Ok-None.ensures.read c.end_accepted.ensures.ends
