use Rattle.std.proofs.Common.{◌∙◌, ap, subst, sym}
use Rattle.cover_data.specs.declared.margins.Options.{Options}
use Rattle.least_search.specs.Found.{AreBoundsOf, IsNextSearch, IsVersionAfter}
use Rattle.least_search.specs.declared.bounds.Bounds.{Bounds}
use Rattle.least_search.proofs.Searches.{planned_bounds, planned_far, planned_search}
use Rattle.least_search.proofs.Versions.{bounds_over, far_over, search_over}
use Rattle.least_search.proofs.search.take_book.Goals as goal
use Rattle.least_search.proofs.search.take_book.Goals.{After-plan_next}

-- behind the change of the version
after : (c : After-plan_next) → IsVersionAfter c.args.bounds.now.version c.options.result.now.version
after c = subst (λ (o : Options). IsVersionAfter c.args.bounds.now.version o.version) (sym c.options.ensures.options) c.requires.version

over : (c : After-plan_next) → AreBoundsOf c.args.aim.now c.go_over.new.bounds
over c = bounds_over c.args.aim.now c.args.bounds.now c.go_over.new.bounds c.options.result.now.version c.requires.bounds (after c) c.go_over.ensures

search : (c : After-plan_next) → IsNextSearch c.args.aim.now c.go_over.new.bounds c.args.limited c.args.book
search c = search_over c.args.aim.now c.args.bounds.now c.go_over.new.bounds c.options.result.now.version c.args.limited c.args.book c.requires.search c.go_over.ensures

pub take_by_verdict-requires-clause-bounds : goal.take_by_verdict-requires-clause-bounds
take_by_verdict-requires-clause-bounds c =
    let here = (goal.at.take_by_verdict-requires-clause-bounds c).After-plan_next in
    planned_bounds c.args.aim.now c.go_over.new.bounds c.plan_next.new.bounds c.args.limited (over here) c.plan_next.ensures.same c.plan_next.ensures.above (search here).between

pub take_by_verdict-requires-clause-far : goal.take_by_verdict-requires-clause-far
take_by_verdict-requires-clause-far c =
    planned_far c.args.aim.now c.go_over.new.bounds c.plan_next.new.bounds
    (far_over c.args.aim.now c.args.bounds.now c.go_over.new.bounds c.options.result.now.version c.requires.far c.go_over.ensures) c.plan_next.ensures.same

pub take_by_verdict-requires-clause-search : goal.take_by_verdict-requires-clause-search
take_by_verdict-requires-clause-search c =
    let here = (goal.at.take_by_verdict-requires-clause-search c).After-plan_next in
    planned_search c.args.aim.now c.go_over.new.bounds c.plan_next.new.bounds c.args.limited c.args.book (search here) c.plan_next.ensures.same

pub take_by_verdict-requires-clause-version : goal.take_by_verdict-requires-clause-version
take_by_verdict-requires-clause-version c =
    sym (ap (λ (b : Bounds). b.version) c.plan_next.ensures.same ∙ ap (λ (b : Bounds). b.version) c.go_over.ensures ∙ ap (λ (o : Options). o.version) c.options.ensures.options)

pub take_by_verdict-requires-clause-tried : goal.take_by_verdict-requires-clause-tried
take_by_verdict-requires-clause-tried c h = c.plan_next.ensures.closed (c.verdict.ensures ∙ h)
