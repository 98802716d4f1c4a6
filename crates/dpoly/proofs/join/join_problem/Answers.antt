use Rattle.std.proofs.Common.{ap, subst, ◌∙◌}
use Rattle.desk.specs.Sight.{Sight}
use Rattle.poly_graph.specs.ProblemViews.{problem_of}
use Rattle.dpoly.specs.declared.join.Joint.{Joint}
use Rattle.dpoly.specs.Join.{IsDraftedJoint}
use Rattle.dpoly.proofs.Joining.{cause_drafted, joint_ends, whole_ends}
use Rattle.dpoly.proofs.join.join_problem.Goals as goal

pub returns-in-Ok-Whole-clause-ends : goal.returns-in-Ok-Whole-clause-ends
returns-in-Ok-Whole-clause-ends g c =
    let d = subst (λ (j : Joint). IsDraftedJoint (problem_of c.args.problem.now) c.args.bound c.args.count j (g.D.Desk.sight c.args.desk.now) (g.D.Desk.sight c.joint_of.new.desk)) c.in-Ok-Whole.field-0-is c.in-Ok-Whole.ensures in
    whole_ends (problem_of c.args.problem.now) c.args.bound c.args.count (g.D.Desk.sight c.args.desk.now) c.in-Ok-Whole.verdict (g.D.Desk.sight c.joint_of.new.desk) (g.D.Desk.sight c.keep_joined.new.desk) c.keep_joined.result d c.keep_joined.ensures.ends

pub returns-in-Ok-Whole-clause-cause : goal.returns-in-Ok-Whole-clause-cause
returns-in-Ok-Whole-clause-cause g c =
    cause_drafted (g.D.Desk.sight c.args.desk.now) (g.D.Desk.sight c.joint_of.new.desk) (g.D.Desk.sight c.keep_joined.new.desk) c.in-Ok-Whole.ensures.text c.keep_joined.result c.in-Ok-Whole.ensures.drafted c.keep_joined.ensures.cause

pub returns-in-Ok : goal.returns-in-Ok
returns-in-Ok g c = record {
  ends = joint_ends (problem_of c.args.problem.now) c.args.bound c.args.count (g.D.Desk.sight c.args.desk.now) c.in-Ok.joint (g.D.Desk.sight c.joint_of.new.desk) (g.D.Desk.sight c.end_alone.new.desk) c.end_alone.result c.in-Ok.ensures c.end_alone.ensures.ends;
  cause = cause_drafted (g.D.Desk.sight c.args.desk.now) (g.D.Desk.sight c.joint_of.new.desk) (g.D.Desk.sight c.end_alone.new.desk) c.in-Ok.ensures.text c.end_alone.result c.in-Ok.ensures.drafted c.end_alone.ensures.cause;
  script = c.end_alone.ensures.script ∙ ap (λ (d : Sight). d.script) c.in-Ok.ensures.drafted;
}
