-- The ranges of a combination's atoms, one after the other.
use Rattle.std.proofs.Common.{◌≡◌, ℕ, ◌+◌, ◌<◌, List, [], ◌∷◌, length, map, drop, get_or, refl, ap, ap₂, arith}
use Rattle.std.proofs.lemmas.List.{drop_more}
use Rattle.dyadic.specs.declared.dy.Dy.{Dy}
use Rattle.dyadic.specs.Views.{dyadic_of}
use Rattle.interval_model.specs.Interval.{Interval, interval_sum, interval_product}
use Rattle.ival.specs.declared.ends.Ival.{Ival}
use Rattle.ival.specs.Views.{interval_of}
use Rattle.cover_line.specs.Line.{Multipliers}
use Rattle.cover_line.specs.Views.{multipliers_of}
use Rattle.square_model.specs.Polynomial.{only}
use Rattle.square_model.specs.Positive.{allowed_range}
use Rattle.squares.specs.Pairs.{sum_of_ranges}

abbrev Pairs : Type 0
Pairs = List (ℕ × Dy)

pub sum_of_none : (xs : Pairs) (is : List Interval) → length xs ≡ 0 → sum_of_ranges (multipliers_of xs) is ≡ sum_of_ranges [] []
sum_of_none [] is h = refl
sum_of_none (x ∷ xs) is h = absurd (omega (arith, h))

-- with the pair before them
pub sum_of_more : (xs : Pairs) (is : List Ival) (k : ℕ) (d : ℕ × Dy) (i : Ival) → k < length xs → length is ≡ length xs →
    sum_of_ranges (multipliers_of (drop k xs)) (map interval_of (drop k is))
    ≡ interval_sum (sum_of_ranges (multipliers_of (drop (k + 1) xs)) (map interval_of (drop (k + 1) is))) (interval_product (only (dyadic_of (get_or xs k d).1)) (interval_of (get_or is k i)))
sum_of_more xs is k d i h e = ap₂ (λ (ys : Pairs) (js : List Ival). sum_of_ranges (multipliers_of ys) (map interval_of js)) (drop_more xs k d h) (drop_more is k i (omega (arith, h, e)))

-- where each is that of its atom
pub sum_of_allowed : (ranges : ℕ → Interval) (ms : Multipliers) → sum_of_ranges ms (map (λ x. ranges x.0) ms) ≡ allowed_range ranges ms
sum_of_allowed ranges [] = refl
sum_of_allowed ranges ((j, l) ∷ ms) = ap (λ (i : Interval). interval_sum i (interval_product (only l) (ranges j))) (sum_of_allowed ranges ms)
