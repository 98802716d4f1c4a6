-- The ends that are written for a fresh constant lie outside its interval, or are too wide a bound.
use Rattle.std.proofs.Common.{◌≡◌, ℕ, suc, ◌*◌, ◌/◌, ◌^◌, ◌<◌, ◌≤◌, [], ◌++◌, true, IsTrue, refl, ap, ap₂, sym, ◌∙◌, subst, arith, ℤ, pos, negsuc, nat_abs}
use Rattle.std.specs.Fmt.{decimal as digits_of}
use Rattle.std.specs.Str.Parse.{digits_value}
use Rattle.std.proofs.lemmas.Fmt.{decimal_is_IsNumeral_wide}
use Rattle.std.proofs.lemmas.List.{append-nil}
use Rattle.dyadic.specs.Fraction.{Fraction, at_most, negated, quotient_of, whole}
use Rattle.dyadic.specs.Rounding.{Dyadic, exact, IsOnGrid, below_all, finite, ceiling}
use Rattle.dyadic.proofs.Equal.{le_holds}
use Rattle.dyadic.proofs.Nearest.{representable_le}
use Rattle.dyadic.proofs.Ring
use Rattle.dyadic.proofs.Ring.{natural, minus, times}
use Rattle.script_model.specs.Sexp.{Place}
use Rattle.script_model.specs.Declared.{too_wide_end}
use Rattle.script_roots.specs.Rewritten.{number_at, parts_at, negative_parts_at, parts_below, parts_above, low_at, high_at, too_wide}
use Rattle.script_roots.proofs.Ends.{end_value}

-- ---- numerals

-- a numeral stands for its number
written : (n : ℕ) → n < 10 ^ 64 → digits_value 10 (digits_of n ++ []) ≡ n
written n h = ap (digits_value 10) (append-nil (digits_of n)) ∙ (decimal_is_IsNumeral_wide n h).1

pub number_value : (p : Place) (n : ℕ) → n < 10 ^ 64 → end_value (number_at p n) ≡ whole (pos n)
number_value p n h = ap (λ (k : ℕ). whole (pos k)) (written n h)

-- so many 2^20ths
abbrev parts : ℕ → Fraction
parts n = quotient_of (whole (pos n)) (whole (pos (2 ^ 20)))

parts-value : (p : Place) (n : ℕ) → n < 10 ^ 64 → end_value (parts_at p n) ≡ parts n
parts-value p n h = ap₂ (λ (k l : ℕ). quotient_of (whole (pos k)) (whole (pos l))) (written n h) (written (2 ^ 20) (omega arith))

minus-value : (p : Place) (n : ℕ) → n < 10 ^ 64 → end_value (negative_parts_at p n) ≡ negated (parts n)
minus-value p n h = ap negated (parts-value p n h)

-- ---- 2^20ths and units

parts-below : (m n : ℕ) → m * 2 ^ 100 ≤ n → IsTrue (at_most (parts m) (exact (record { units = pos n })))
unfolding at_most quotient_of
parts-below m n h = le_holds _ _ (Ring.below (times (times (natural m) (natural 1)) (natural (2 ^ 120))) (times (natural n) (natural (1 * 2 ^ 20))) (omega (arith, h)))

parts-above : (m n : ℕ) → n ≤ m * 2 ^ 100 → IsTrue (at_most (exact (record { units = pos n })) (parts m))
unfolding at_most quotient_of
parts-above m n h = le_holds _ _ (Ring.below (times (natural n) (natural (1 * 2 ^ 20))) (times (times (natural m) (natural 1)) (natural (2 ^ 120))) (omega (arith, h)))

minus-below : (m n : ℕ) → suc n ≤ m * 2 ^ 100 → IsTrue (at_most (negated (parts m)) (exact (record { units = negsuc n })))
unfolding at_most negated quotient_of
minus-below m n h = le_holds _ _ (Ring.below (times (minus (times (natural m) (natural 1))) (natural (2 ^ 120))) (times (minus (natural (suc n))) (natural (1 * 2 ^ 20))) (omega (arith, h)))

minus-above : (m n : ℕ) → m * 2 ^ 100 ≤ suc n → IsTrue (at_most (exact (record { units = negsuc n })) (negated (parts m)))
unfolding at_most negated quotient_of
minus-above m n h = le_holds _ _ (Ring.below (times (minus (natural (suc n))) (natural (1 * 2 ^ 20))) (times (minus (times (natural m) (natural 1))) (natural (2 ^ 120))) (omega (arith, h)))

floor-few : (n : ℕ) → n ≤ 2 ^ 242 → n / 2 ^ 100 < 10 ^ 64
floor-few n h = omega (arith, h)

ceiling-few : (n : ℕ) → n ≤ 2 ^ 242 → ceiling n (2 ^ 100) < 10 ^ 64
ceiling-few n h = omega (arith, h)

floor-low : (n : ℕ) → n / 2 ^ 100 * 2 ^ 100 ≤ n
floor-low n = omega arith

ceiling-high : (n : ℕ) → n ≤ ceiling n (2 ^ 100) * 2 ^ 100
ceiling-high n = omega arith

-- a number rounded down to 2^20ths, and up
written-below : (p : Place) (z : ℤ) → nat_abs z ≤ 2 ^ 242 → IsTrue (at_most (end_value (parts_below p z)) (exact (record { units = z })))
written-below p (pos n) h = subst (λ (q : Fraction). IsTrue (at_most q (exact (record { units = pos n })))) (sym (parts-value p (n / 2 ^ 100) (floor-few n h))) (parts-below (n / 2 ^ 100) n (floor-low n))
written-below p (negsuc n) h =
    subst (λ (q : Fraction). IsTrue (at_most q (exact (record { units = negsuc n })))) (sym (minus-value p (ceiling (suc n) (2 ^ 100)) (ceiling-few (suc n) h))) (minus-below (ceiling (suc n) (2 ^ 100)) n (ceiling-high (suc n)))

written-above : (p : Place) (z : ℤ) → nat_abs z ≤ 2 ^ 242 → IsTrue (at_most (exact (record { units = z })) (end_value (parts_above p z)))
written-above p (pos n) h = subst (λ (q : Fraction). IsTrue (at_most (exact (record { units = pos n })) q)) (sym (parts-value p (ceiling n (2 ^ 100)) (ceiling-few n h))) (parts-above (ceiling n (2 ^ 100)) n (ceiling-high n))
written-above p (negsuc n) h =
    subst (λ (q : Fraction). IsTrue (at_most (exact (record { units = negsuc n })) q)) (sym (minus-value p (suc n / 2 ^ 100) (floor-few (suc n) h))) (minus-above (suc n / 2 ^ 100) n (floor-low (suc n)))

pub low_written : (p : Place) (d : Dyadic) → IsOnGrid d → IsTrue (at_most (end_value (low_at p (finite d))) (exact d))
low_written p d g = written-below p d.units (representable_le (nat_abs d.units) g)

pub high_written : (p : Place) (d : Dyadic) → IsOnGrid d → IsTrue (at_most (exact d) (end_value (high_at p (finite d))))
high_written p d g = written-above p d.units (representable_le (nat_abs d.units) g)

-- ---- where there is no end

2^62-too-wide : too_wide_end (whole (pos too_wide)) ≡ true
unfolding at_most
2^62-too-wide = refl

minus-2^62-too-wide : too_wide_end (negated (whole (pos too_wide))) ≡ true
unfolding at_most negated
minus-2^62-too-wide = refl

pub none_is_too_wide : (p : Place) → too_wide_end (end_value (number_at p too_wide)) ≡ true
none_is_too_wide p = ap too_wide_end (number_value p too_wide (omega arith)) ∙ 2^62-too-wide

minus-none : (p : Place) → end_value (low_at p below_all) ≡ negated (whole (pos too_wide))
minus-none p = ap negated (number_value p too_wide (omega arith))

pub no_low_is_too_wide : (p : Place) → too_wide_end (end_value (low_at p below_all)) ≡ true
no_low_is_too_wide p = ap too_wide_end (minus-none p) ∙ minus-2^62-too-wide
