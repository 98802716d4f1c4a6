use Rattle.std.proofs.Common.{sym, ◌∙◌}
use Rattle.poly_graph.specs.ProblemViews.{problem_of}
use Rattle.cover_model.specs.State.{state_of}
use Rattle.form_truth.proofs.CombinableAtoms.{combinable_fails, combinable_next}
use Rattle.form_truth.proofs.combinable.are_combinable.Goals as goal

pub returns-then-not-is_combinable : goal.returns-then-not-is_combinable
returns-then-not-is_combinable c = λ space.
    let e = combinable_fails (problem_of c.args.problem.now) (state_of space c.args.lits.now) c.args.multipliers.now c.loop-pair.pair-index c.pair-item.result c.loop-pair-test.true c.pair-item.is
    (sym (c.is_combinable.ensures space) ∙ c.if-not-is_combinable.true) in
    sym (c.loop-pair.invariant space ∙ e)

pub loop-pair-preserved : goal.loop-pair-preserved
loop-pair-preserved c = λ space.
    let e = combinable_next (problem_of c.args.problem.now) (state_of space c.args.lits.now) c.args.multipliers.now c.loop-pair.pair-index c.pair-item.result c.loop-pair-test.true c.pair-item.is
    (sym (c.is_combinable.ensures space) ∙ c.if-not-is_combinable.false) in
    c.loop-pair.invariant space ∙ e
