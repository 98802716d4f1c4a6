use Rattle.std.proofs.Common.{List, ap, map, subst, sym, ◌∙◌}
use Rattle.std.specs.Prelude.{reverse}
use Rattle.std.proofs.lemmas.List.{reverse-reverse}
use Rattle.std.proofs.lemmas.Result.{err_from_is_err_and}
use Rattle.sort_check.proofs.Lengths.{no_items}
use Rattle.std.proofs.Common.{Bool}
use Rattle.poly_graph.specs.ProblemViews.{Parts}
use Rattle.script_reading.specs.Session.{AreBuilt, not_carried}
use Rattle.smt_script.specs.Levels.{Step, checks_of}
use Rattle.smt_script.specs.Views.{step_of, steps_in}
use Rattle.problem_session.specs.Session.{problems_of}
use Rattle.problem_build.specs.WithRoots.{GoesWithRoots, rewritten_checks}
use Rattle.problem_build.proofs.GoingWithRoots.{rooted_begun, rooted_finished, rooted_taken}
use Rattle.problem_build.proofs.with_roots.all_rewritten.Goals as goal

pub loop-step-init : goal.loop-step-init
loop-step-init c =
    let s = c.args.course.sexps.now in (
      c.new-force.ensures.sexps,
      subst (λ (xs : List Step). GoesWithRoots c.args.bound (steps_in c.args.course) c.new-force.result c.new-checks.result.items xs)
          (ap (map (step_of s)) (sym (reverse-reverse c.args.course.steps.items) ∙ ap reverse (sym c.reverse.ensures.items)))
          (rooted_begun c.args.bound (steps_in c.args.course) c.new-force.result c.new-checks.result.items c.new-force.ensures.nothing c.new-checks.ensures.items),
    )

pub loop-step-preserved : goal.loop-step-preserved
loop-step-preserved c =
    let s = c.args.course.sexps.now in
    let i = c.loop-step.invariant in
    let next = rooted_taken c.args.bound (steps_in c.args.course) c.loop-step.force c.loop-step.checks.items s c.loop-step.left.items c.pop.new.self.items c.in-Some.step i.0 c.in-Some.ensures.items i.1 in
    let t = c.in_ok-take.ensures (steps_in c.args.course) (map (step_of s) (reverse c.pop.new.self.items)) next in
    (t.1 ∙ i.0, t.0)

pub returns-in_err-take : goal.returns-in_err-take
returns-in_err-take c =
    let s = c.args.course.sexps.now in
    let i = c.loop-step.invariant in
    let next = rooted_taken c.args.bound (steps_in c.args.course) c.loop-step.force c.loop-step.checks.items s c.loop-step.left.items c.pop.new.self.items c.in-Some.step i.0 c.in-Some.ensures.items i.1 in
    let p = err_from_is_err_and c.from_residual.result c.from_residual.ensures.1 in
    rw (p.1, p.2) (c.in_err-take.ensures (steps_in c.args.course) (map (step_of s) (reverse c.pop.new.self.items)) next)

pub returns : goal.returns
returns c =
    let s = c.args.course.sexps.now in
    let i = c.loop-step.invariant in
    let left = c.loop-step.left in
    let asked = checks_of (steps_in c.args.course) in
    let all = rooted_finished c.args.bound (steps_in c.args.course) c.loop-step.force c.loop-step.checks.items
    (subst (λ xs. GoesWithRoots c.args.bound (steps_in c.args.course) c.loop-step.force c.loop-step.checks.items (map (step_of s) (reverse xs)))
    (no_items left.len left.items left.ok.0 c.in_default.ensures.cases.0) i.1) in
    (all.0, subst (λ (ps : List (Parts × Bool)). AreBuilt c.args.bound (rewritten_checks c.args.bound asked) (map not_carried asked) (problems_of ps)) (sym c.of.ensures) all.1)

pub of-requires : goal.of-requires
of-requires c = c.loop-step.invariant.1.changes
