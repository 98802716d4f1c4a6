use Rattle.std.proofs.Common.{sym, subst}
use Rattle.cert_read.specs.Views.{line_of}
use Rattle.cert_model.specs.Accepted.{next}
use Rattle.poly_graph.specs.ProblemViews.{problem_of}
use Rattle.cert_check.specs.declared.due.Due.{Due}
use Rattle.cert_check.specs.Dues.{IsOutcome, due_of}
use Rattle.cert_check.proofs.next.next.Goals as goal

pub returns-in-Version-clause-comes : goal.returns-in-Version-clause-comes
returns-in-Version-clause-comes c = let p = c.args.problem.now in
    subst (λ (d : Due). IsOutcome p c.version_line.result (next (problem_of p) c.args.bound (due_of p d) (line_of c.args.line.now))) (sym c.in-Version.is) (c.version_line.ensures.comes p c.args.bound)

pub returns-in-Version-clause-sound : goal.returns-in-Version-clause-sound
returns-in-Version-clause-sound c = c.version_line.ensures.sound c.args.problem.now

pub returns-in-Margin-clause-comes : goal.returns-in-Margin-clause-comes
returns-in-Margin-clause-comes c = let p = c.args.problem.now in
    subst (λ (d : Due). IsOutcome p c.margin_line.result (next (problem_of p) c.args.bound (due_of p d) (line_of c.args.line.now))) (sym c.in-Margin.is) (c.margin_line.ensures.comes p c.args.bound)

pub returns-in-Margin-clause-sound : goal.returns-in-Margin-clause-sound
returns-in-Margin-clause-sound c = c.margin_line.ensures.sound c.args.problem.now

pub returns-in-Delta-clause-comes : goal.returns-in-Delta-clause-comes
returns-in-Delta-clause-comes c = let p = c.args.problem.now in
    subst (λ (d : Due). IsOutcome p c.delta_line.result (next (problem_of p) c.args.bound (due_of p d) (line_of c.args.line.now))) (sym c.in-Delta.is) (c.delta_line.ensures.comes p c.args.bound)

pub returns-in-Delta-clause-sound : goal.returns-in-Delta-clause-sound
returns-in-Delta-clause-sound c = c.delta_line.ensures.sound c.args.problem.now

pub returns-in-Bound-clause-comes : goal.returns-in-Bound-clause-comes
returns-in-Bound-clause-comes c = let p = c.args.problem.now in
    subst (λ (d : Due). IsOutcome p c.bound_line.result (next (problem_of p) c.args.bound (due_of p d) (line_of c.args.line.now))) (sym c.in-Bound.is) (c.bound_line.ensures.comes p)

pub returns-in-Bound-clause-sound : goal.returns-in-Bound-clause-sound
returns-in-Bound-clause-sound c = c.bound_line.ensures.sound c.args.problem.now

pub returns-in-Kind-clause-comes : goal.returns-in-Kind-clause-comes
returns-in-Kind-clause-comes c = let p = c.args.problem.now in
    subst (λ (d : Due). IsOutcome p c.kind_line.result (next (problem_of p) c.args.bound (due_of p d) (line_of c.args.line.now))) (sym c.in-Kind.is) (c.kind_line.ensures.comes c.args.bound)

pub returns-in-Next-clause-comes : goal.returns-in-Next-clause-comes
returns-in-Next-clause-comes c = let p = c.args.problem.now in
    subst (λ (d : Due). IsOutcome p c.next_line.result (next (problem_of p) c.args.bound (due_of p d) (line_of c.args.line.now))) (sym c.in-Next.is) (c.next_line.ensures.comes c.args.bound)

pub returns-in-Axis-clause-comes : goal.returns-in-Axis-clause-comes
returns-in-Axis-clause-comes c = let p = c.args.problem.now in
    subst (λ (d : Due). IsOutcome p c.axis_line.result (next (problem_of p) c.args.bound (due_of p d) (line_of c.args.line.now))) (sym c.in-Axis.is) (c.axis_line.ensures.comes c.args.bound)

pub returns-in-No-clause-comes : goal.returns-in-No-clause-comes
returns-in-No-clause-comes c = let p = c.args.problem.now in
    subst (λ (d : Due). IsOutcome p c.no_line.result (next (problem_of p) c.args.bound (due_of p d) (line_of c.args.line.now))) (sym c.in-No.is) (c.no_line.ensures.comes c.args.bound)

pub returns-in-Lemma-clause-comes : goal.returns-in-Lemma-clause-comes
returns-in-Lemma-clause-comes c = let p = c.args.problem.now in
    subst (λ (d : Due). IsOutcome p c.lemma_line.result (next (problem_of p) c.args.bound (due_of p d) (line_of c.args.line.now))) (sym c.in-Lemma.is) (c.lemma_line.ensures.comes c.args.bound)

pub returns-in-Root-clause-comes : goal.returns-in-Root-clause-comes
returns-in-Root-clause-comes c = let p = c.args.problem.now in
    subst (λ (d : Due). IsOutcome p c.root_line.result (next (problem_of p) c.args.bound (due_of p d) (line_of c.args.line.now))) (sym c.in-Root.is) (c.root_line.ensures.comes c.args.bound)

pub returns-in-Tree-clause-comes : goal.returns-in-Tree-clause-comes
returns-in-Tree-clause-comes c = let p = c.args.problem.now in
    subst (λ (d : Due). IsOutcome p c.tree_line.result (next (problem_of p) c.args.bound (due_of p d) (line_of c.args.line.now))) (sym c.in-Tree.is) (c.tree_line.ensures.comes c.args.bound)

pub returns-in-Coordinate-clause-comes : goal.returns-in-Coordinate-clause-comes
returns-in-Coordinate-clause-comes c = let p = c.args.problem.now in
    subst (λ (d : Due). IsOutcome p c.point_line.result (next (problem_of p) c.args.bound (due_of p d) (line_of c.args.line.now))) (sym c.in-Coordinate.is) (c.point_line.ensures.comes c.args.bound)

pub returns-in-End-clause-comes : goal.returns-in-End-clause-comes
returns-in-End-clause-comes c = let p = c.args.problem.now in
    subst (λ (d : Due). IsOutcome p c.end_line.result (next (problem_of p) c.args.bound (due_of p d) (line_of c.args.line.now))) (sym c.in-End.is) (c.end_line.ensures.comes p c.args.bound)
