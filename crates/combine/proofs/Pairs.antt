-- Pairs of an atom and a multiplier, one after the other.
use Rattle.std.proofs.Common.{◌≡◌, ℕ, zero, suc, ◌<◌, List, [], ◌∷◌, length, get_or, drop, ap, sym, refl, arith}
use Rattle.dyadic.specs.declared.dy.Dy.{Dy}
use Rattle.dyadic.specs.Rounding.{Dyadic}
use Rattle.dyadic.specs.Views.{dyadic_of}
use Rattle.cover_model.specs.Views.{multipliers_of}

pub pair_here : (ms : List (ℕ × Dy)) (k : ℕ) (x : ℕ × Dy) → k < length ms → x ≡ get_or ms k x → drop k (multipliers_of ms) ≡ (x.0, dyadic_of x.1) ∷ drop (suc k) (multipliers_of ms)
pair_here [] k x h e = absurd (omega arith)
pair_here (m ∷ ms) zero x h e = ap (λ (y : ℕ × Dy). (y.0, dyadic_of y.1) ∷ multipliers_of ms) (sym e)
pair_here (m ∷ ms) (suc k) x h e = pair_here ms k x (omega arith) e

pub no_pairs : (ms : List (ℕ × Dy)) → drop (length ms) (multipliers_of ms) ≡ []
no_pairs [] = refl
no_pairs (m ∷ ms) = no_pairs ms

pub pair_at : (ms : List (ℕ × Dy)) (k : ℕ) (x : ℕ × Dy) (d : ℕ × Dyadic) → k < length ms → x ≡ get_or ms k x → get_or (multipliers_of ms) k d ≡ (x.0, dyadic_of x.1)
pair_at [] k x d h e = absurd (omega arith)
pair_at (m ∷ ms) zero x d h e = ap (λ (y : ℕ × Dy). (y.0, dyadic_of y.1)) (sym e)
pair_at (m ∷ ms) (suc k) x d h e = pair_at ms k x d (omega arith) e

-- as many as there are pairs
pub length_pairs : (ms : List (ℕ × Dy)) → length (multipliers_of ms) ≡ length ms
length_pairs [] = refl
length_pairs (m ∷ ms) = ap suc (length_pairs ms)
