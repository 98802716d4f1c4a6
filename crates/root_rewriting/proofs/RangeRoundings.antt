-- Fractions that are the same number are rounded to the same ends.
use Rattle.std.proofs.Common.{◌≡◌, ℕ, ◌*◌, ◌^◌, ◌≤◌, List, length, Bool, true, false, IsTrue, ℤ, pos, negsuc, neg_ℤ, refl, ap, ap₂, sym, ◌∙◌, cond, arith, true≢false}
use native.Mathlib.Nat.{one-le-pow}
use Rattle.std.proofs.lemmas.Int.{ints}
use Rattle.dyadic.specs.Fraction.{Fraction, IsFraction, at_most, negated, whole}
use Rattle.dyadic.specs.Lowest.{reduced}
use Rattle.dyadic.specs.Rounding.{Dyadic, exact, IsOnGrid, Ext, below_all, finite, above_all, negative, ext_at_most, down, up, down_of, up_of, positive}
use Rattle.dyadic.proofs.Rounds.{at_most_from, exact_read, same_units, down_exact, down_isotone, up_isotone}
use Rattle.ival.specs.Proper.{is_low, is_high}
use Rattle.ival.specs.Views.{around}
use Rattle.interval_model.specs.Interval.{between}
use Rattle.script_model.specs.Reading.{literal_value}
use Rattle.script_roots.specs.Ranges.{whole_ext}
use Rattle.script_forms.proofs.Lowest.{lowest_same}

-- ends that are at most each other are one
pub ext_same : (e f : Ext) → IsTrue (ext_at_most e f) → IsTrue (ext_at_most f e) → e ≡ f
ext_same below_all below_all h k = refl
ext_same above_all above_all h k = refl
ext_same (finite r) (finite s) h k = ap finite (same_units r s (exact_read r s h) (exact_read s r k))
ext_same below_all (finite s) h k = absurd (true≢false (sym k))
ext_same below_all above_all h k = absurd (true≢false (sym k))
ext_same (finite r) below_all h k = absurd (true≢false (sym h))
ext_same (finite r) above_all h k = absurd (true≢false (sym k))
ext_same above_all below_all h k = absurd (true≢false (sym h))
ext_same above_all (finite s) h k = absurd (true≢false (sym h))

pub down_same : (p q : Fraction) → IsFraction p → IsFraction q → IsTrue (at_most p q) → IsTrue (at_most q p) → down p ≡ down q
down_same p q f g h k = ext_same (down p) (down q) (down_isotone p q f g h) (down_isotone q p g f k)

pub up_same : (p q : Fraction) → IsFraction p → IsFraction q → IsTrue (at_most p q) → IsTrue (at_most q p) → up p ≡ up q
up_same p q f g h k = ext_same (up p) (up q) (up_isotone p q f g h) (up_isotone q p g f k)

around_reduced : (q : Fraction) → IsFraction q → around (reduced q) ≡ around q
around_reduced q f = let r = lowest_same q f in
    ap₂ (λ (l h : Ext). between l h) (down_same (reduced q) q r.0 f r.2 r.1) (up_same (reduced q) q r.0 f r.2 r.1)

-- the interval of a literal, from its number in lowest terms
pub literal_around : (digits decimals : List ℕ) → around (reduced (literal_value digits decimals)) ≡ around (literal_value digits decimals)
literal_around digits decimals = around_reduced (literal_value digits decimals) (one-le-pow (length decimals) 10 (omega arith))

-- a whole number of at most 62 bits is kept
pub whole_kept : (n : ℕ) → n ≤ 2 ^ 62 → down (whole (pos n)) ≡ whole_ext n
whole_kept n h =
    let r : Dyadic = record { units = pos (n * 2 ^ 120) } in
    let g : IsOnGrid r = record { whole = n; power = 120; few_bits = h; in_range = omega arith; value = refl } in
    down_same (whole (pos n)) (exact r) (omega arith) (omega arith)
    (at_most_from (whole (pos n)) (exact r) (omega (arith, ints))) (at_most_from (exact r) (whole (pos n)) (omega (arith, ints)))
    ∙ down_exact r g

-- ---- ends are not the infinity of the other side

low-of : (b : Bool) (n : ℕ) → IsTrue (is_low (cond b (negative n) below_all))
low-of true n = refl
low-of false n = refl

high-of : (b : Bool) (n : ℕ) → IsTrue (is_high (cond b (positive n) above_all))
high-of true n = refl
high-of false n = refl

down-of-low : (z : ℤ) (d : ℕ) → IsTrue (is_low (down_of z d))
down-of-low (pos n) d = refl
down-of-low (negsuc n) d = low-of _ _

up-of-high : (z : ℤ) (d : ℕ) → IsTrue (is_high (up_of z d))
up-of-high (pos n) d = high-of _ _
up-of-high (negsuc n) d = refl

pub down_low : (q : Fraction) → IsTrue (is_low (down q))
down_low q = down-of-low q.num q.den

pub up_high : (q : Fraction) → IsTrue (is_high (up q))
up_high q = up-of-high q.num q.den

pub down_negated : (n : ℕ) → down (negated (whole (pos n))) ≡ down (whole (neg_ℤ (pos n)))
unfolding negated
down_negated n = refl
