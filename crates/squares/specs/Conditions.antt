-- What is asked of a monomial, one axis after the other, and among others.
use Rattle.std.specs.Prelude.{ℕ, List, [], ◌∷◌, Bool, true, not, ◌&&◌, nat_le}
use Rattle.interval_model.specs.Space.{Space}
use Rattle.square_model.specs.Block.{is_among, is_monomial}
use Rattle.square_model.specs.Polynomial.{Monomial}

-- at most the first of these axes
abbrev pub is_before : ℕ → Monomial → Bool
is_before axis [] = true
is_before axis (i ∷ m) = nat_le axis i

-- a monomial that is none of those after it
abbrev pub is_new_monomial : Space → Monomial → List Monomial → Bool
is_new_monomial space m after = is_monomial space m && not (is_among m after)
