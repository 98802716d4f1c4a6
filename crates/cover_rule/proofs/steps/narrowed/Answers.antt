use Rattle.std.proofs.Common.{sym, subst, Option, ◌∙◌}
use Rattle.interval_model.specs.Space.{Space}
use Rattle.cover_model.specs.Fits.{FitsAxes}
use Rattle.poly_graph.specs.ProblemViews.{problem_of}
use Rattle.ival.specs.SpaceViews.{space_of}
use Rattle.cover_rule.specs.Patch.{space_or}
use Rattle.cover_rule.proofs.Narrowings.{within_length}
use Rattle.cover_rule.proofs.Narrowers.{can_narrow, narrows_within}
use Rattle.cover_rule.proofs.Helds.{code_fits}
use Rattle.cover_rule.proofs.steps.narrowed.Goals as goal

pub narrow_by-requires-clause-can : goal.narrow_by-requires-clause-can
narrow_by-requires-clause-can c = can_narrow c.args.problem.now c.args.margins.now c.args.kept.now.reached c.args.by c.requires.atom (sym c.may_narrow.ensures.may ∙ c.if-not-may_narrow.false)

pub returns-in-Less-clause-length : goal.returns-in-Less-clause-length
returns-in-Less-clause-length c =
    let N = space_of c.narrow_by.new.work.spare in let S = c.args.kept.now.reached in
    within_length N S.space (narrows_within c.args.problem.now c.requires.held.whole.problem c.args.margins.now S c.args.by N c.in-Less.ensures.narrowed.0)

pub returns-in-Less-clause-fits : goal.returns-in-Less-clause-fits
returns-in-Less-clause-fits c =
    let p = problem_of c.args.problem.now in let N = space_of c.narrow_by.new.work.spare in let S = c.args.kept.now.reached in
    let e = c.in-Less.ensures.narrowed.0 in
    let w = narrows_within c.args.problem.now c.requires.held.whole.problem c.args.margins.now S c.args.by N e in
    subst (λ (o : Option Space). FitsAxes p.axes (space_or S.space o)) (sym e) (code_fits p.axes c.narrow_by.new.work.spare S.space w c.requires.held.run.sound.reached.axes)
