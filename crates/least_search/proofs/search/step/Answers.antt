use Rattle.std.proofs.Common.{◌≡◌, true, Option, ap, subst, refl}
use Rattle.std.specs.Prelude.{option_map}
use Rattle.dyadic.specs.Rounding.{finite}
use Rattle.dyadic.specs.Views.{dyadic_of, ext_of}
use Rattle.dyadic.specs.declared.dy.Dy.{Dy}
use Rattle.goal_limit.specs.Tries.{Span, is_between}
use Rattle.cert_model.specs.Least.{IsSettled}
use Rattle.least_search.specs.declared.found.Ending.TheVariants as ending
use Rattle.least_search.specs.declared.limits.Limited.{Limited}
use Rattle.least_search.specs.Found.{span_of}
use Rattle.least_search.specs.Limits.{HasNoLimit, IsNext, IsNextLimit, span_in}
use Rattle.least_search.proofs.Ends.{far_by, far_ending, lighter_if, near_ending}
use Rattle.least_search.proofs.Near.{at_most_itself}
use Rattle.least_search.proofs.Searches.{next_search}
use Rattle.least_search.proofs.search.step.Goals as goal

pub returns-then-is_settled-clause-ending : goal.returns-then-is_settled-clause-ending
returns-then-is_settled-clause-ending g c =
    let a = c.args.aim.now in let b = c.args.bounds.now in
    near_ending a.problem.now a.goal a.options.now b.budget (span_of a.gap_bits b)
    (subst (λ (low : Option Dy). IsSettled a.gap_bits (option_map dyadic_of low) (ext_of b.upper)) c.bound.ensures (c.is_settled.ensures.near c.if-is_settled.true))

pub returns-then-bounds-eq0-clause-ending : goal.returns-then-bounds-eq0-clause-ending
returns-then-bounds-eq0-clause-ending g c =
    let a = c.args.aim.now in let b = c.args.bounds.now in
    far_ending a.problem.now a.goal a.options.now b.budget (span_of a.gap_bits b) ending.Budget (far_by a.gap_bits b c.bound.result c.is_settled.result c.bound.ensures c.is_settled.ensures.far c.if-is_settled.false)
    c.if-bounds-eq0.true

pub probe-requires-clause-far : goal.probe-requires-clause-far
probe-requires-clause-far g c = far_by c.args.aim.now.gap_bits c.args.bounds.now c.bound.result c.is_settled.result c.bound.ensures c.is_settled.ensures.far c.if-is_settled.false

pub probe-requires-clause-between : goal.probe-requires-clause-between
probe-requires-clause-between g c =
    let with_low : Option Dy → Span = λ low. record { low = option_map dyadic_of low; high = ext_of c.args.bounds.now.upper; gap = c.args.aim.now.gap_bits } in ap with_low c.bound.ensures

pub take_book-requires-clause-far : goal.take_book-requires-clause-far
take_book-requires-clause-far g c = far_by c.args.aim.now.gap_bits c.args.bounds.now c.bound.result c.is_settled.result c.bound.ensures c.is_settled.ensures.far c.if-is_settled.false

pub take_book-requires-clause-search : goal.take_book-requires-clause-search
take_book-requires-clause-search g c =
    let a = c.args.aim.now in let b = c.args.bounds.now in let s : Span = span_in (record { lower = c.bound.result; upper = b.upper; gap_bits = a.gap_bits }) in
    let next : IsNext a.problem.now a.goal b.phase s c.in-Some.limited = subst (λ (o : Option Limited). IsNextLimit a.problem.now a.goal b.phase s o) c.in-Some.is c.in_ok-limited-in-Closing.ensures in
    let with_low : Option Dy → Span = λ low. record { low = option_map dyadic_of low; high = ext_of b.upper; gap = a.gap_bits } in
    let same : s ≡ span_of a.gap_bits b = ap with_low c.bound.ensures in
    next_search a b c.in-Some.limited c.in_ok-book-in-Closing.book (span_of a.gap_bits b) next.here.limited c.in_ok-book-in-Closing.ensures.book (at_most_itself _) refl
    (subst (λ (t : Span). is_between t (finite (dyadic_of c.in-Some.limited.limit)) ≡ true) same next.here.between) c.in_ok-book-in-Closing.ensures.less

pub returns-in_default-clause-ending : goal.returns-in_default-clause-ending
returns-in_default-clause-ending g c =
    let a = c.args.aim.now in let b = c.args.bounds.now in
    let none = subst (λ (o : Option Limited). IsNextLimit a.problem.now a.goal b.phase (span_in (record { lower = c.bound.result; upper = b.upper; gap_bits = a.gap_bits })) o) c.in_default.is c.in_ok-limited-in-Closing.ensures in
    far_ending a.problem.now a.goal a.options.now b.budget (span_of a.gap_bits b) ending.Limit (far_by a.gap_bits b c.bound.result c.is_settled.result c.bound.ensures c.is_settled.ensures.far c.if-is_settled.false)
    (b.phase, subst (λ (low : Option Dy). HasNoLimit a.problem.now b.phase (record { low = option_map dyadic_of low; high = ext_of b.upper; gap = a.gap_bits })) c.bound.ensures none)

pub returns-in_ok-book-in-Closing-clause-less : goal.returns-in_ok-book-in-Closing-clause-less
returns-in_ok-book-in-Closing-clause-less g c = lighter_if c.take_book.result c.args.bounds.now c.take_book.new.bounds c.take_book.ensures.less
