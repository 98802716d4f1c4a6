-- The range of a monomial, one axis after the other.
use Rattle.std.proofs.Common.{◌≡◌, ℕ, ◌∷◌, Bool, true, false, cond, Some, None, ap, arith, nat_eq}
use Rattle.std.proofs.lemmas.Bool.Decides.{nat_tests}
use Rattle.interval_model.specs.Interval.{Interval, interval_product, interval_square}
use Rattle.square_model.specs.Polynomial.{Monomial}
use Rattle.square_model.specs.Range.{range_times}

alike : (i j : ℕ) → i ≡ j → nat_eq i j ≡ true
alike i j e = grind (arith, nat_tests, e)

unlike : (i j : ℕ) → (i ≡ j → ⊥) → nat_eq i j ≡ false
unlike i j f = grind (arith, nat_tests, f)

pub same_step : (apart : ℕ → Interval) (v : Interval) (i j : ℕ) (m : Monomial) → i ≡ j → range_times apart v (Some i) (j ∷ m) ≡ range_times apart (interval_product v (interval_square (apart i))) None m
same_step apart v i j m e = ap (λ (t : Bool). range_times apart (interval_product v (cond t (interval_square (apart i)) (apart i))) (cond t None (Some j)) m) (alike i j e)

pub other_step : (apart : ℕ → Interval) (v : Interval) (i j : ℕ) (m : Monomial) → (i ≡ j → ⊥) → range_times apart v (Some i) (j ∷ m) ≡ range_times apart (interval_product v (apart i)) (Some j) m
other_step apart v i j m f = ap (λ (t : Bool). range_times apart (interval_product v (cond t (interval_square (apart i)) (apart i))) (cond t None (Some j)) m) (unlike i j f)
