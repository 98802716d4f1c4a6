use Rattle.std.proofs.Common.{◌≡◌, ℕ, List, Some, ap, sym, subst, ◌∙◌}
use Rattle.interval_model.specs.Interval.{Interval}
use Rattle.interval_model.specs.Space.{Space}
use Rattle.cover_model.specs.Combination.{with_intervals}
use Rattle.ival.specs.SpaceViews.{space_of}
use Rattle.combine.specs.Parts.{AreKept}
use Rattle.combine.proofs.Keeping.{kept_same, parts_kept}
use Rattle.combine.proofs.axes.narrow.Goals as goal

pub returns-then-are_kept-clause-narrowed : goal.returns-then-are_kept-clause-narrowed
returns-then-are_kept-clause-narrowed c =
    let s = space_of c.args.space.now in let t = space_of c.set_axes.new.space in let ps = c.args.parts.now in
    let same : t ≡ s = kept_same ps c.tighten.new.lefts s (space_of c.args.centre.now) t c.requires.parts c.set_axes.ensures (c.are_kept.ensures.same c.if-are_kept.true) in
    (ap (λ (xs : List (ℕ × Interval)). with_intervals xs s) (c.tighten.ensures.some c.if-not-tighten.false) ∙ c.set_axes.ensures ∙ ap (λ (x : Space). Some x) same, same)

pub returns-else-are_kept-clause-narrowed : goal.returns-else-are_kept-clause-narrowed
returns-else-are_kept-clause-narrowed c =
    let s = space_of c.args.space.now in let ps = c.args.parts.now in (
      ap (λ (xs : List (ℕ × Interval)). with_intervals xs s) (c.tighten.ensures.some c.if-not-tighten.false) ∙ c.set_axes.ensures,
      λ e. c.are_kept.ensures.changed c.if-are_kept.false (subst (λ (x : Space). AreKept x ps) (sym e) (parts_kept ps s (space_of c.args.centre.now) c.requires.parts)),
    )
