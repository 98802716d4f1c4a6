use Rattle.std.proofs.Common.{Some, subst, sym, ◌∙◌}
use Rattle.least_search.specs.declared.bounds.Bounds.{Bounds}
use Rattle.least_search.specs.declared.found.Ending.TheVariants as ending
use Rattle.least_search.specs.Found.{IsEndingAt}
use Rattle.least_search.proofs.Ends.{narrow_ending}
use Rattle.least_search.proofs.Searches.{budget_no_point, width_no_point}
use Rattle.least_search.proofs.search.take_by_verdict.Goals as goal

pub take_undecided-requires-clause-no_point : goal.take_undecided-requires-clause-no_point
take_undecided-requires-clause-no_point c = budget_no_point c.args.book (sym c.verdict.ensures ∙ c.in-UnknownBudget.is)

pub take_undecided-requires-in-UnknownWidth-clause-no_point : goal.take_undecided-requires-in-UnknownWidth-clause-no_point
take_undecided-requires-in-UnknownWidth-clause-no_point c = width_no_point c.args.book (sym c.verdict.ensures ∙ c.in-UnknownWidth.is)

pub returns-in-Halving-clause-ending : goal.returns-in-Halving-clause-ending
returns-in-Halving-clause-ending c =
    let a = c.args.aim.now in let b = c.args.bounds.now in
    subst (λ (x : Bounds). IsEndingAt a x (Some ending.Width)) (sym c.take_undecided-in-UnknownWidth.ensures.same)
    (narrow_ending a b c.args.limited c.args.book _ c.requires.far c.requires.search (sym c.verdict.ensures ∙ c.in-UnknownWidth.is))
