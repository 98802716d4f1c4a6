use Rattle.std.proofs.Common.{◌∙◌, ap, subst, sym}
use Rattle.poly_graph.specs.ProblemViews.{Parts, problem_of}
use Rattle.cover_model.specs.Root.{root_space}
use Rattle.cover_model.specs.State.{State}
use Rattle.cover_model.proofs.Within.{space_through}
use Rattle.ival.specs.SpaceViews.{space_of}
use Rattle.cover_rule.specs.Middle.{LiesInRoot}
use Rattle.box_worker.proofs.Inside.{within_first, found_in}
use Rattle.box_worker.proofs.found.tried.Goals as goal

pub of_middle-requires-clause-space : goal.of_middle-requires-clause-space
of_middle-requires-clause-space c =
    let P = c.args.patch.now in let space = space_of c.args.space.now in let q = c.problem-problem.result.now in
    space_through space P.kept.first.space (root_space (problem_of q))
    (within_first P space (space_of c.space-reached.result.now) (c.space-reached.ensures ∙ ap (λ (S : State). S.space) c.reached.ensures.state) c.reached.ensures.run.sound.within (sym c.within.ensures ∙ c.if-not-within.false))
    (subst (λ (r : Parts). LiesInRoot (problem_of r) P.kept.first.space) (sym c.problem-problem.ensures.problem) c.requires.root)

pub returns : goal.returns
returns c =
    let P = c.args.patch.now in let space = space_of c.args.space.now in
    found_in P c.problem-problem.result.now c.margins-margins.result.now c.args.space.now c.of_middle.result (sym c.problem-problem.ensures.problem) (sym c.margins-margins.ensures.margins)
    (within_first P space (space_of c.space-reached.result.now) (c.space-reached.ensures ∙ ap (λ (S : State). S.space) c.reached.ensures.state) c.reached.ensures.run.sound.within (sym c.within.ensures ∙ c.if-not-within.false))
    c.of_middle.ensures.middle c.of_middle.ensures.shown
