use Rattle.std.proofs.Common.{◌≡◌, ◌<◌, ◌-◌, ℕ, suc, List, length, drop, Option, Some, false, ap, ap₂, sym, ◌∙◌, arith}
use Rattle.std.proofs.lemmas.List.{get_or_read}
use Rattle.interval_model.specs.Interval.{Interval, is_nothing}
use Rattle.interval_model.specs.Space.{Space}
use Rattle.cover_model.specs.Combination.{with_axis, with_intervals}
use Rattle.ival.specs.declared.ends.Ival.{Ival}
use Rattle.ival.specs.declared.ends.Ival.TheVariants.{Empty}
use Rattle.ival.specs.Views.{interval_of}
use Rattle.ival.specs.SpaceViews.{space_of}
use Rattle.combine.specs.declared.part.Part.{Part}
use Rattle.combine.specs.Lefts.{pairs}
use Rattle.combine.proofs.Tightening.{pairs_here, pairs_end, axis_set}
use Rattle.combine.proofs.axes.set_axes.Goals as goal

pub loop-k-init : goal.loop-k-init
loop-k-init c = ap (λ (xs : List (ℕ × Interval)). with_intervals xs (space_of c.args.space.now)) (pairs_end c.args.parts.now c.args.lefts.now)

pub loop-k-preserved : goal.loop-k-preserved
loop-k-preserved c =
    let ps = c.args.parts.now in let ls = c.args.lefts.now in let k : ℕ = c.loop-k.k - 1 in let s = space_of c.args.space.now in let t = space_of c.loop-k.space in
    let part = c.index-parts-k.result in let left = c.index-lefts-k.result in
    let inside : k < length ps = omega (arith, c.loop-k.auto.k, c.loop-k-test.true) in
    let more : k < length ls = omega (arith, inside, c.requires.room) in
    let some : is_nothing (interval_of left) ≡ false = ap (λ (i : Ival). is_nothing (interval_of i)) (get_or_read ls k left more c.index-lefts-k.is Empty) ∙ c.requires.left k inside in
    let next : suc k ≡ c.loop-k.k = omega (arith, c.loop-k-test.true) in
    ap (λ (xs : List (ℕ × Interval)). with_intervals xs s) (pairs_here ps ls k part left inside c.requires.room)
    ∙ ap₂ (λ (x : Part) (i : Ival). with_axis x.axis (interval_of i) (with_intervals (drop (suc k) (pairs ps ls)) s)) (sym c.index-parts-k.is) (sym c.index-lefts-k.is)
    ∙ ap (λ (n : ℕ). with_axis part.axis (interval_of left) (with_intervals (drop n (pairs ps ls)) s)) next
    ∙ ap (λ (o : Option Space). with_axis part.axis (interval_of left) o) c.loop-k.invariant ∙ axis_set part.axis (interval_of left) t some
    ∙ ap (λ (x : Space). Some x) (sym c.set_axis.ensures)
