use Rattle.std.proofs.Common.{◌≡◌, true, ap, sym, subst, Option}
use Rattle.std.specs.Prelude.{option_map}
use Rattle.dyadic.specs.Rounding.{ext_at_most}
use Rattle.dyadic.specs.Views.{dyadic_of}
use Rattle.cert_model.specs.Least.{lower_end}
use Rattle.goal_limit.specs.Tries.{Span}
use Rattle.least_search.specs.declared.limits.Limited.{Limited}
use Rattle.least_search.specs.declared.limits.Phase.TheVariants as phase
use Rattle.least_search.specs.Limits.{IsNext, IsNextLimit, IsNotBelow, span_in}
use Rattle.least_search.proofs.Ends.{lighter_if}
use Rattle.least_search.proofs.Searches.{next_search, phased_bounds}
use Rattle.least_search.proofs.search.probe.Goals as goal
use Rattle.least_search.proofs.search.probe.Goals.{In-Some}

pub probe_from-requires : goal.probe_from-requires
probe_from-requires g c = subst (λ (s : Span). IsNotBelow (lower_end s.low) c.args.bounds.now.tried) (sym c.requires.between) c.requires.bounds.tried

next : (g : _) (c : In-Some g) → IsNext c.args.aim.now.problem.now c.args.aim.now.goal phase.Probing (span_in (record c.args.between { lower = c.probe_from.result })) c.in-Some.limited
next g c =
    subst (λ (o : Option Limited). IsNextLimit c.args.aim.now.problem.now c.args.aim.now.goal phase.Probing (span_in (record c.args.between { lower = c.probe_from.result })) o) c.in-Some.is c.in_ok-limited.ensures

pub take_book-requires-clause-search : goal.take_book-requires-clause-search
take_book-requires-clause-search g c =
    let here = next g (goal.at.take_book-requires-clause-search g c).In-Some in
    let a = c.args.aim.now in let b = c.args.bounds.now in
    next_search a b c.in-Some.limited c.in_ok-book.book (span_in (record c.args.between { lower = c.probe_from.result })) here.here.limited c.in_ok-book.ensures.book
    (subst (λ (s : Span). ext_at_most (lower_end s.low) (lower_end (option_map dyadic_of c.probe_from.result)) ≡ true) c.requires.between c.probe_from.ensures)
    (ap (λ (s : Span). s.high) c.requires.between) here.here.between c.in_ok-book.ensures.less

pub returns-in_default-clause-bounds : goal.returns-in_default-clause-bounds
returns-in_default-clause-bounds g c = phased_bounds c.args.aim.now c.args.bounds.now _ c.requires.bounds

pub returns-clause-less : goal.returns-clause-less
returns-clause-less g c = lighter_if c.take_book.result c.args.bounds.now c.take_book.new.bounds c.take_book.ensures.less
