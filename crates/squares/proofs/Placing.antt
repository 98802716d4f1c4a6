-- An axis in its place.
use Rattle.std.proofs.Common.{◌≡◌, ℕ, suc, zero, ◌<◌, ◌≤◌, [], ◌∷◌, ◌++◌, length, get_or, take, drop, cond, Bool, true, false, refl, ap, ◌∙◌, arith, nat_le}
use Rattle.std.proofs.lemmas.Bool.Decides.{nat_tests}
use Rattle.square_model.specs.Polynomial.{Monomial, with_axis}

is-before : (i j : ℕ) → i ≤ j → nat_le i j ≡ true
is-before i j h = grind (arith, nat_tests, h)

is-behind : (i j : ℕ) → j < i → nat_le i j ≡ false
is-behind i j h = grind (arith, nat_tests, h)

-- what stands before the place is less, and what stands there is not
pub inserted : (i : ℕ) (m : Monomial) (k : ℕ) → k ≤ length m → ((j : ℕ) → j < k → get_or m j 0 < i) → (k < length m → i ≤ get_or m k 0) → with_axis i m ≡ take k m ++ i ∷ drop k m
inserted i [] zero l f g = refl
inserted i [] (suc k) l f g = absurd (omega arith)
inserted i (j ∷ m) zero l f g = ap (λ (t : Bool). cond t (i ∷ j ∷ m) (j ∷ with_axis i m)) (is-before i j (g (omega arith)))
inserted i (j ∷ m) (suc k) l f g =
    ap (λ (t : Bool). cond t (i ∷ j ∷ m) (j ∷ with_axis i m)) (is-behind i j (f 0 (omega arith)))
    ∙ ap (λ (n : Monomial). j ∷ n) (inserted i m k (omega arith) (λ a b. f (suc a) (omega arith)) (λ a. g (omega arith)))
