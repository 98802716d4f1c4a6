-- Differences, products and sums with 0.
use Rattle.std.proofs.Common.{◌≡◌, ℕ, ◌*◌, ◌^◌, Bool, true, false, cond, IsTrue, ℤ, pos, ◌+ℤ◌, ◌*ℤ◌, neg_ℤ, ◌≤ℤ◌, refl, ap, ap₂, subst, ◌∙◌, arith, true≢false, lit<}
use Rattle.dyadic.specs.Fraction.{Fraction, IsFraction, zero_fraction, at_most, sum_of, product_of}
use Rattle.dyadic.specs.Rounding.{Dyadic, exact, IsExtOnGrid, End, at, Ext, below_all, finite, above_all, end_of, end_at_most, down, up}
use Rattle.dyadic.specs.End.{negated_dyadic, end_sum, end_product, lesser, greater, rounded_down, rounded_up}
use Rattle.dyadic.proofs.Equal.{le_holds}
use Rattle.dyadic.proofs.Ring
use Rattle.dyadic.proofs.Ring.{atom, natural, plus, minus, times}
use Rattle.dyadic.proofs.RoundsMove.{down_of_equal, up_of_equal}
use Rattle.dyadic.proofs.Signs.{zero_representable}
use Rattle.interval_model.specs.Interval.{Interval, nothing, between, rounded, interval_sum, interval_product, is_nothing, IsKept}
use Rattle.interval_model.proofs.Ends.{end_comm}
use Rattle.cover_model.specs.Combination.{only, nought_alone, interval_difference}

abbrev zero : Dyadic
zero = record { units = pos 0 }

-- ---- fractions that are the same as a number

abbrev IsAt : Fraction → Dyadic → Type 0
IsAt q d = IsTrue (at_most (exact d) q) × IsTrue (at_most q (exact d))

less-low : (u : ℤ) (d : ℕ) → (pos 0 *ℤ pos (d * d)) ≤ℤ (((u *ℤ pos d) +ℤ (neg_ℤ u *ℤ pos d)) *ℤ pos d)
less-low u d = Ring.below (times (natural 0) (natural (d * d))) (times (plus (times (atom u) (natural d)) (times (minus (atom u)) (natural d))) (natural d)) (omega arith)

less-high : (u : ℤ) (d : ℕ) → (((u *ℤ pos d) +ℤ (neg_ℤ u *ℤ pos d)) *ℤ pos d) ≤ℤ (pos 0 *ℤ pos (d * d))
less-high u d = Ring.below (times (plus (times (atom u) (natural d)) (times (minus (atom u)) (natural d))) (natural d)) (times (natural 0) (natural (d * d))) (omega arith)

-- a number less itself
less-itself : (d : Dyadic) → IsAt (sum_of (exact d) (exact (negated_dyadic d))) zero
unfolding at_most sum_of
less-itself d = (le_holds _ _ (less-low d.units (2 ^ 120)), le_holds _ _ (less-high d.units (2 ^ 120)))

more-low : (u : ℤ) (d : ℕ) → (u *ℤ pos (d * d)) ≤ℤ (((u *ℤ pos d) +ℤ (pos 0 *ℤ pos d)) *ℤ pos d)
more-low u d = Ring.below (times (atom u) (natural (d * d))) (times (plus (times (atom u) (natural d)) (times (natural 0) (natural d))) (natural d)) (omega arith)

more-high : (u : ℤ) (d : ℕ) → (((u *ℤ pos d) +ℤ (pos 0 *ℤ pos d)) *ℤ pos d) ≤ℤ (u *ℤ pos (d * d))
more-high u d = Ring.below (times (plus (times (atom u) (natural d)) (times (natural 0) (natural d))) (natural d)) (times (atom u) (natural (d * d))) (omega arith)

-- a number and 0
more-nought : (d : Dyadic) → IsAt (sum_of (exact d) (exact zero)) d
unfolding at_most sum_of
more-nought d = (le_holds _ _ (more-low d.units (2 ^ 120)), le_holds _ _ (more-high d.units (2 ^ 120)))

times-low : (u : ℤ) (d e : ℕ) → (pos 0 *ℤ pos e) ≤ℤ ((u *ℤ pos 0) *ℤ pos d)
times-low u d e = Ring.below (times (natural 0) (natural e)) (times (times (atom u) (natural 0)) (natural d)) (omega arith)

times-high : (u : ℤ) (d e : ℕ) → ((u *ℤ pos 0) *ℤ pos d) ≤ℤ (pos 0 *ℤ pos e)
times-high u d e = Ring.below (times (times (atom u) (natural 0)) (natural d)) (times (natural 0) (natural e)) (omega arith)

-- a number times 0
times-nought : (d : Dyadic) → IsAt (product_of (exact d) (exact zero)) zero
unfolding at_most product_of
times-nought d = (le_holds _ _ (times-low d.units (2 ^ 120) (2 ^ 120 * 2 ^ 120)), le_holds _ _ (times-high d.units (2 ^ 120) (2 ^ 120 * 2 ^ 120)))

sum-fraction : (d e : Dyadic) → IsFraction (sum_of (exact d) (exact e))
unfolding sum_of
sum-fraction d e = lit< tt

product-fraction : (d e : Dyadic) → IsFraction (product_of (exact d) (exact e))
unfolding product_of
product-fraction d e = lit< tt

-- ---- differences

low-less : (d : Dyadic) → down (sum_of (exact d) (exact (negated_dyadic d))) ≡ finite zero
low-less d = let s = less-itself d in down_of_equal (sum_of (exact d) (exact (negated_dyadic d))) zero (sum-fraction d (negated_dyadic d)) zero_representable s.0 s.1

high-less : (d : Dyadic) → up (sum_of (exact d) (exact (negated_dyadic d))) ≡ finite zero
high-less d = let s = less-itself d in up_of_equal (sum_of (exact d) (exact (negated_dyadic d))) zero (sum-fraction d (negated_dyadic d)) zero_representable s.0 s.1

-- a number less itself is 0
pub point_difference : (d : Dyadic) → interval_difference (only d) (only d) ≡ nought_alone
point_difference d = ap₂ between (low-less d) (high-less d)

pub some_difference : (i j : Interval) → is_nothing i ≡ false → is_nothing j ≡ false → is_nothing (interval_difference i j) ≡ false
some_difference nothing j h k = absurd (true≢false h)
some_difference (between l h') nothing h k = absurd (true≢false k)
some_difference (between l h') (between a b) h k = refl

-- ---- sums

low-more : (e : Ext) → IsExtOnGrid e → rounded_down (end_sum (end_of e) (at (exact zero))) ≡ e
low-more below_all g = refl
low-more (finite d) g = let s = more-nought d in down_of_equal (sum_of (exact d) (exact zero)) d (sum-fraction d zero) g s.0 s.1
low-more above_all g = refl

high-more : (e : Ext) → IsExtOnGrid e → rounded_up (end_sum (end_of e) (at (exact zero))) ≡ e
high-more below_all g = refl
high-more (finite d) g = let s = more-nought d in up_of_equal (sum_of (exact d) (exact zero)) d (sum-fraction d zero) g s.0 s.1
high-more above_all g = refl

-- 0 adds nothing
pub sum_nought : (i : Interval) → IsKept i → interval_sum i nought_alone ≡ i
sum_nought nothing k = refl
sum_nought (between l h) k = ap₂ between (low-more l k.0) (high-more h k.1)

-- ---- products

-- an end that is rounded to 0
record IsNought (e : End) : Type 0 where
  low : rounded_down e ≡ finite zero
  high : rounded_up e ≡ finite zero

chosen : (t : Bool) (e f : End) → IsNought e → IsNought f → IsNought (cond t e f)
chosen true e f h k = h
chosen false e f h k = k

nought-end : IsNought (at zero_fraction)
nought-end = record { low = refl; high = refl }

end-times : (e : Ext) → IsNought (end_product (end_of e) (at (exact zero)))
end-times below_all = nought-end
end-times (finite d) = let s = times-nought d in let f = product-fraction d zero in record {
  low = down_of_equal (product_of (exact d) (exact zero)) zero f zero_representable s.0 s.1;
  high = up_of_equal (product_of (exact d) (exact zero)) zero f zero_representable s.0 s.1;
}
end-times above_all = nought-end

times-end : (e : Ext) → IsNought (end_product (at (exact zero)) (end_of e))
times-end e = subst IsNought (end_comm (end_of e) (at (exact zero))) (end-times e)

four : (a b c d : End) → IsNought a → IsNought b → IsNought c → IsNought d → rounded (lesser (lesser a b) (lesser c d)) (greater (greater a b) (greater c d)) ≡ nought_alone
four a b c d ha hb hc hd =
    let least = chosen (end_at_most (lesser a b) (lesser c d)) (lesser a b) (lesser c d) (chosen (end_at_most a b) a b ha hb) (chosen (end_at_most c d) c d hc hd) in
    let most = chosen (end_at_most (greater a b) (greater c d)) (greater c d) (greater a b) (chosen (end_at_most c d) d c hd hc) (chosen (end_at_most a b) b a hb ha) in
    ap₂ between least.low most.high

pub product_nought : (i : Interval) → is_nothing i ≡ false → interval_product i nought_alone ≡ nought_alone
product_nought nothing h = absurd (true≢false h)
product_nought (between l h') h = four _ _ _ _ (end-times l) (end-times l) (end-times h') (end-times h')

pub nought_product : (i : Interval) → is_nothing i ≡ false → interval_product nought_alone i ≡ nought_alone
nought_product nothing h = absurd (true≢false h)
nought_product (between l h') h = four _ _ _ _ (times-end l) (times-end h') (times-end l) (times-end h')

-- ---- what is left over of a product

pub exact_first : (w a b : Interval) → is_nothing w ≡ false → a ≡ nought_alone → is_nothing b ≡ false → interval_product w (interval_product a b) ≡ nought_alone
exact_first w a b some e h = ap (λ (i : Interval). interval_product w (interval_product i b)) e ∙ ap (interval_product w) (nought_product b h) ∙ product_nought w some

pub exact_second : (w a b : Interval) → is_nothing w ≡ false → b ≡ nought_alone → is_nothing a ≡ false → interval_product w (interval_product a b) ≡ nought_alone
exact_second w a b some e h = ap (λ (i : Interval). interval_product w (interval_product a i)) e ∙ ap (interval_product w) (product_nought a h) ∙ product_nought w some
