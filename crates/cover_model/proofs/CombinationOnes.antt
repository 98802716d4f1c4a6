-- Products with 1.
use Rattle.std.proofs.Common.{◌≡◌, ℕ, ◌*◌, ◌^◌, Bool, true, false, cond, IsTrue, ℤ, pos, ◌*ℤ◌, ◌≤ℤ◌, refl, ap, ap₂, ◌∙◌, arith, lit<}
use Rattle.dyadic.specs.Fraction.{IsFraction, zero_fraction, at_most, product_of}
use Rattle.dyadic.specs.Rounding.{Dyadic, exact, IsExtOnGrid, End, at, Ext, below_all, finite, above_all, end_of, end_at_most}
use Rattle.dyadic.specs.End.{end_product, lesser, greater, rounded_down, rounded_up}
use Rattle.dyadic.proofs.Equal.{le_holds}
use Rattle.dyadic.proofs.Ring
use Rattle.dyadic.proofs.Ring.{atom, natural, times}
use Rattle.dyadic.proofs.RoundsMove.{down_of_equal, up_of_equal}
use Rattle.interval_model.specs.Interval.{Interval, nothing, between, rounded, interval_product, IsKept, IsProper}
use Rattle.interval_model.proofs.Ends.{◌⊑◌}
use Rattle.interval_model.proofs.EndsProducts.{scale_up_second}
use Rattle.interval_model.proofs.EndsSums.{good_ext}
use Rattle.cover_model.specs.CombinationConstants.{one_alone}

abbrev one : Dyadic
one = record { units = pos (2 ^ 120) }

-- ---- an end times 1

low-at : (u : ℤ) (d : ℕ) → (u *ℤ pos (d * d)) ≤ℤ ((pos d *ℤ u) *ℤ pos d)
low-at u d = Ring.below (times (atom u) (natural (d * d))) (times (times (natural d) (atom u)) (natural d)) (omega arith)

high-at : (u : ℤ) (d : ℕ) → ((pos d *ℤ u) *ℤ pos d) ≤ℤ (u *ℤ pos (d * d))
high-at u d = Ring.below (times (times (natural d) (atom u)) (natural d)) (times (atom u) (natural (d * d))) (omega arith)

itself : (d : Dyadic) → IsTrue (at_most (exact d) (product_of (exact one) (exact d))) × IsTrue (at_most (product_of (exact one) (exact d)) (exact d))
unfolding at_most product_of
itself d = (le_holds _ _ (low-at d.units (2 ^ 120)), le_holds _ _ (high-at d.units (2 ^ 120)))

product-fraction : (d e : Dyadic) → IsFraction (product_of (exact d) (exact e))
unfolding product_of
product-fraction d e = lit< tt

abbrev times-one : Ext → End
times-one e = end_product (at (exact one)) (end_of e)

low-end : (e : Ext) → IsExtOnGrid e → rounded_down (times-one e) ≡ e
low-end below_all g = refl
low-end (finite d) g = let s = itself d in down_of_equal (product_of (exact one) (exact d)) d (product-fraction one d) g s.0 s.1
low-end above_all g = refl

high-end : (e : Ext) → IsExtOnGrid e → rounded_up (times-one e) ≡ e
high-end below_all g = refl
high-end (finite d) g = let s = itself d in up_of_equal (product_of (exact one) (exact d)) d (product-fraction one d) g s.0 s.1
high-end above_all g = refl

-- ---- an interval times 1

from-zero : ◌⊑◌ (at zero_fraction) (at (exact one))
unfolding at_most
from-zero = le_holds _ _ (Ring.below (times (natural 0) (natural (2 ^ 120))) (times (natural (2 ^ 120)) (natural 1)) (omega arith))

either : (t : Bool) (e : End) → cond t e e ≡ e
either true e = refl
either false e = refl

least : (e f : End) → ◌⊑◌ e f → lesser (lesser e f) (lesser e f) ≡ e
least e f h = either (end_at_most (lesser e f) (lesser e f)) (lesser e f) ∙ ap (λ (t : Bool). cond t e f) h

greatest : (e f : End) → ◌⊑◌ e f → greater (greater e f) (greater e f) ≡ f
greatest e f h = either (end_at_most (greater e f) (greater e f)) (greater e f) ∙ ap (λ (t : Bool). cond t f e) h

pub one_product : (i : Interval) → IsKept i → IsProper i → interval_product one_alone i ≡ i
one_product nothing k p = refl
one_product (between l h) k p =
    let rise = scale_up_second (end_of l) (end_of h) (at (exact one)) (good_ext l) (good_ext h) from-zero p.0 in
    ap₂ (λ (e f : End). rounded e f) (least (times-one l) (times-one h) rise) (greatest (times-one l) (times-one h) rise)
    ∙ ap₂ between (low-end l k.0) (high-end h k.1)
