use Rattle.std.proofs.Common.{◌∙◌, ap, sym, subst, length}
use Rattle.cover_line.specs.Views.{blocks_of, multipliers_of}
use Rattle.interval_model.specs.Space.{Space, middle}
use Rattle.poly_graph.specs.ProblemViews.{problem_of}
use Rattle.cover_model.specs.Combination.{marked_range}
use Rattle.cover_model.specs.State.{margin_of}
use Rattle.cover_data.specs.Margins.{loosenings_of}
use Rattle.cover_rule.specs.Serves.{HasCentre}
use Rattle.cover_rule.proofs.Axes.{fits_length}
use Rattle.cover_rule.proofs.Squarings.{positive_shaped, with_centre}
use Rattle.cover_rule.proofs.squaring.test_end.Goals as goal

pub find_centre-requires-clause-space : goal.find_centre-requires-clause-space
find_centre-requires-clause-space c = ap length c.space.ensures ∙ fits_length (problem_of c.args.problem.now).axes c.args.kept.now.reached.space c.requires.held.run.sound.reached.axes

pub returns-in-Ok-true-clause-shaped : goal.returns-in-Ok-true-clause-shaped
returns-in-Ok-true-clause-shaped c =
    let p = problem_of c.args.problem.now in let s = loosenings_of c.args.margins.now in let S = c.args.kept.now.reached in let d = c.args.difference.now in
    positive_shaped p (marked_range p (margin_of s) S.marks) S.space (middle S.space) (multipliers_of d.pairs.items) (blocks_of d.blocks.items) (sym c.in-Ok-true.ensures ∙ c.in-Ok-true.field-0-test)

pub returns-in-Ok-true-clause-ready : goal.returns-in-Ok-true-clause-ready
returns-in-Ok-true-clause-ready c =
    let p = c.args.problem.now in let space = c.args.kept.now.reached.space in let k = c.find_centre.new.centre in
    with_centre p c.args.margins.now space c.args.work.now k c.requires.held.ready (subst (λ (s : Space). HasCentre p s k) c.space.ensures c.find_centre.ensures.centre)

pub returns-in-Ok-false-clause-ready : goal.returns-in-Ok-false-clause-ready
returns-in-Ok-false-clause-ready c =
    let p = c.args.problem.now in let space = c.args.kept.now.reached.space in let k = c.find_centre.new.centre in
    with_centre p c.args.margins.now space c.args.work.now k c.requires.held.ready (subst (λ (s : Space). HasCentre p s k) c.space.ensures c.find_centre.ensures.centre)
