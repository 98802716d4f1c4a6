-- A number has one form.
use Rattle.std.proofs.Common.{◌≡◌, ℕ, ◌-◌, ◌*◌, ◌^◌, ◌<◌, ◌≤◌, arith, sym, ap, ◌∙◌, ⊎_elim, mul-le-mul_right, ℤ, pos, ◌*ℤ◌, nat_abs}
use Rattle.std.proofs.Math.Nat.{eq_of_mul-eq-mul_right}
use Rattle.std.proofs.Math.Bridge.{le_prop}
use Rattle.std.proofs.lemmas.Int.{ints, unsigned_abs-mul}
use Rattle.std.proofs.lemmas.Nat.{pow_pos}
use Rattle.std.proofs.lemmas.Bool.{cases_lt}
use Rattle.dyadic.specs.Mantissa.{IsNormal}
use Rattle.dyadic.proofs.Ints.{le_of_*ℤ-le_right}
use Rattle.dyadic.proofs.Nearest.{pow_split}

-- the size of a mantissa in steps
pub size_in_steps : (m : ℤ) (i : ℕ) → nat_abs (m *ℤ pos (2 ^ i)) ≡ nat_abs m * 2 ^ i
size_in_steps m i = unsigned_abs-mul m (pos (2 ^ i))

not_finer : (m n : ℤ) (i j : ℕ) → IsNormal m i → IsNormal n j → i < j → m *ℤ pos (2 ^ i) ≡ n *ℤ pos (2 ^ j) → ⊥
not_finer m n i j a b h e =
    let split = pow_split i j (omega arith) in
    let same : nat_abs m * 2 ^ i ≡ nat_abs n * 2 ^ (j - i) * 2 ^ i =
    omega (arith, size_in_steps m i, size_in_steps n j, ap (λ (z : ℤ). nat_abs z) e, ap (λ k. nat_abs n * k) split) in
    let whole : nat_abs m ≡ nat_abs n * 2 ^ (j - i) = eq_of_mul-eq-mul_right (2 ^ i) (pow_pos i) (nat_abs m) (nat_abs n * 2 ^ (j - i)) same in
    let half = pow_split 1 (j - i) (omega arith) in
    let large = mul-le-mul_right (2 ^ (j - i)) (b.many_bits (omega arith)) in
    omega (arith, whole, half, large, pow_pos (j - i - 1), a.few_bits)

same_mantissa : (m n : ℤ) (k : ℕ) → 0 < k → m *ℤ pos k ≡ n *ℤ pos k → m ≡ n
same_mantissa m n k p e =
    let below = le_of_*ℤ-le_right m n k p (omega (arith, ints, e)) in
    let above = le_of_*ℤ-le_right n m k p (omega (arith, ints, e)) in
    omega (arith, ints, below, above)

pub same_normal : (m n : ℤ) (i j : ℕ) → IsNormal m i → IsNormal n j → m *ℤ pos (2 ^ i) ≡ n *ℤ pos (2 ^ j) → (m ≡ n) × (i ≡ j)
same_normal m n i j a b e =
    let same : i ≡ j = ⊎_elim (λ (l : i < j). absurd (not_finer m n i j a b l e)) (λ (g : j ≤ i). ⊎_elim (λ (l : j < i). absurd (not_finer n m j i b a l (sym e))) (λ (k : i ≤ j). let z : i ≡ j = omega arith in z) (cases_lt j i)) (cases_lt i j) in
    (same_mantissa m n (2 ^ i) (pow_pos i) (e ∙ ap (λ k. n *ℤ pos (2 ^ k)) (sym same)), same)

pub IsNormal_prop : (m : ℤ) (i : ℕ) → IsProp (IsNormal m i)
IsNormal_prop m i = hlevel (le_prop)
