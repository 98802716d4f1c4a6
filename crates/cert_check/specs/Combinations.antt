-- The pairs of a combination, one after the other.
use Rattle.std.specs.Prelude.{ℕ, List, [], ◌∷◌, Bool, true, ◌&&◌, nat_lt}
use Rattle.dyadic.specs.declared.dy.Dy.{Dy}
use Rattle.dyadic.specs.Views.{dyadic_of}
use Rattle.interval_model.specs.Interval.{misses_nought}
use Rattle.cover_model.specs.Combination.{only}

abbrev pub is_before : ℕ → List (ℕ × Dy) → Bool
is_before j [] = true
is_before j (x ∷ xs) = nat_lt j x.0

-- its multiplier is not 0, and its atom comes before the first of these
abbrev pub comes_before : (ℕ × Dy) → List (ℕ × Dy) → Bool
comes_before x xs = misses_nought (only (dyadic_of x.1)) && is_before x.0 xs
