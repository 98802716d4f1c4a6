-- Sums of two numbers, in the steps of the coarser one or in half of them.
use Rattle.std.proofs.Common.{◌≡◌, ℕ, ◌+◌, ◌*◌, ◌-◌, ◌^◌, ◌<◌, ◌≤◌, arith, sym, ap, ◌∙◌, subst, mul-le-mul_right, mul-lt-mul_of_pos_right, lit<, Bool, true, false, ltb, to_z, of_z, ℤ, pos, negsuc, ◌+ℤ◌, ◌*ℤ◌, nat_abs}
use Rattle.std.proofs.Math.Nat.{div-le_self}
use Rattle.std.specs.Int.{w64}
use Rattle.std.specs.Int.Signed.{shr_z, lt_z}
use Rattle.std.proofs.lemmas.Int.{ints, to_z-of_z, fits_signed_from_abs}
use Rattle.std.proofs.lemmas.Nat.{pow_pos}
use lib.Signed.{mag}
use mathlib.Core.Bool.{beq}
use Rattle.dyadic.specs.Mantissa.{IsNormal, IsWithinStep}
use Rattle.dyadic.proofs.Nearest.{pow_le, pow_split}
use Rattle.dyadic.proofs.Reduced.{not_below_zero}
use Rattle.dyadic.proofs.StepBounds.{within_sum, within_exact, regroup}
use Rattle.dyadic.proofs.Ints.{add-*ℤ}
use Rattle.dyadic.proofs.Unique.{size_in_steps}

-- what is passed is itself
pub word : (m : ℤ) → nat_abs m < 2 ^ 63 → to_z w64 (of_z w64 m) ≡ m
word m h = to_z-of_z w64 m (fits_signed_from_abs w64 m h)

pub fits_word : (m : ℤ) → nat_abs m < 2 ^ 63 → mag m < 2 ^ 63
fits_word m h = let f = fits_signed_from_abs w64 m h in f.sfits

-- whether two mantissas have one sign, as the code tests it
abbrev pub one_sign : ℤ → ℤ → Bool
one_sign m n = beq (lt_z m (pos 0)) (lt_z n (pos 0))

pub one_sign_plain : (a b : ℕ) → one_sign (pos a) (pos b) ≡ true
one_sign_plain a b = ap (λ x. beq x (ltb b 0)) (not_below_zero a) ∙ ap (λ x. beq false x) (not_below_zero b)

pub one_sign_left : (a b : ℕ) → one_sign (negsuc a) (pos b) ≡ false
one_sign_left a b = ap (λ x. beq true x) (not_below_zero b)

pub one_sign_right : (a b : ℕ) → one_sign (pos a) (negsuc b) ≡ false
one_sign_right a b = ap (λ x. beq x true) (not_below_zero a)

pub no_clash : (b : Bool) → b ≡ true → b ≡ false → ⊥
no_clash b e f = cc

-- a sum of one sign has at least the size of the first number
grown : (m n : ℤ) (p q : ℕ) → one_sign m n ≡ true → nat_abs (m *ℤ pos p) ≤ nat_abs ((m *ℤ pos p) +ℤ (n *ℤ pos q))
grown (pos a) (pos b) p q e = omega (arith, ints)
grown (negsuc a) (negsuc b) p q e = omega (arith, ints)
grown (pos a) (negsuc b) p q e = absurd (no_clash (one_sign (pos a) (negsuc b)) e (one_sign_right a b))
grown (negsuc a) (pos b) p q e = absurd (no_clash (one_sign (negsuc a) (pos b)) e (one_sign_left a b))

pub sum_of_one_sign : (m n : ℤ) (i j : ℕ) → IsNormal m i → j < i → one_sign m n ≡ true → IsWithinStep ((m *ℤ pos (2 ^ i)) +ℤ (n *ℤ pos (2 ^ j))) 1 (m +ℤ shr_z n (2 ^ (i - j))) i
sum_of_one_sign m n i j a h e = within_sum m n (i - j) j i (pow_split j i (omega arith))
    (λ some _.
    let large = mul-le-mul_right (2 ^ i) (a.many_bits some) in
    omega (arith, large, size_in_steps m i, grown m n (2 ^ i) (2 ^ j) e))

twice : (m : ℤ) (i : ℕ) → 0 < i → (pos 2 *ℤ m) *ℤ pos (2 ^ (i - 1)) ≡ m *ℤ pos (2 ^ i)
twice m i p =
    let turned : pos 2 *ℤ m ≡ m *ℤ pos 2 = omega (arith, ints) in
    let e : 2 * 2 ^ (i - 1) ≡ 2 ^ i = omega (arith, pow_split 1 i p) in
    ap (λ z. z *ℤ pos (2 ^ (i - 1))) turned ∙ regroup m 2 (2 ^ (i - 1)) ∙ ap (λ k. m *ℤ pos k) e

-- in half steps, whatever the signs
pub sum_of_two_signs : (m n : ℤ) (i j : ℕ) → IsNormal m i → IsNormal n j → j < i → IsWithinStep ((m *ℤ pos (2 ^ i)) +ℤ (n *ℤ pos (2 ^ j))) 1 ((pos 2 *ℤ m) +ℤ shr_z n (2 ^ (i - j - 1))) (i - 1)
sum_of_two_signs m n i j a b h =
    let s = i - 1 in
    let k = i - j - 1 in
    let same = twice m i (omega arith) in
    let split : 2 ^ s ≡ 2 ^ k * 2 ^ j = (let e : s - j ≡ k = omega arith in pow_split j s (omega arith) ∙ ap (λ x. 2 ^ x * 2 ^ j) e) in
    subst (λ z. IsWithinStep (z +ℤ (n *ℤ pos (2 ^ j))) 1 ((pos 2 *ℤ m) +ℤ shr_z n (2 ^ k)) s) same
    (within_sum (pos 2 *ℤ m) n k j s split
    (λ _ more.
    let large = mul-le-mul_right (2 ^ i) (a.many_bits (omega arith)) in
    let small = mul-lt-mul_of_pos_right b.few_bits (pow_pos j) in
    let half : 2 * 2 ^ j ≤ 2 ^ s = omega (arith, split, mul-le-mul_right (2 ^ j) (pow_le 1 k more)) in
    let whole = pow_split 1 i (omega arith) in
    let x = m *ℤ pos (2 ^ i) in
    let y = n *ℤ pos (2 ^ j) in
    let apart : nat_abs x ≤ nat_abs (x +ℤ y) + nat_abs y = between x y in
    subst (λ z. 2 ^ 61 * 2 ^ s ≤ nat_abs (z +ℤ y)) (sym same)
    (omega (arith, apart, size_in_steps m i, size_in_steps n j, large, small, half, whole))))
  where
    between : (x y : ℤ) → nat_abs x ≤ nat_abs (x +ℤ y) + nat_abs y
    between x y = omega (arith, ints)

pub sum_of_same_steps : (m n : ℤ) (i j : ℕ) → i ≡ j → IsWithinStep ((m *ℤ pos (2 ^ i)) +ℤ (n *ℤ pos (2 ^ j))) 1 (m +ℤ n) i
sum_of_same_steps m n i j e = within_exact ((m *ℤ pos (2 ^ i)) +ℤ (n *ℤ pos (2 ^ j))) 1 (m +ℤ n) i (lit< tt)
    (let f : n *ℤ pos (2 ^ j) ≡ n *ℤ pos (2 ^ i) = ap (λ k. n *ℤ pos (2 ^ k)) (sym e) in omega (arith, ints, f, add-*ℤ m n (pos (2 ^ i))))

-- there is room for both
pub shr_few : (n : ℤ) (k : ℕ) → nat_abs (shr_z n k) ≤ nat_abs n
shr_few (pos b) k = div-le_self b k
shr_few (negsuc b) k = omega (arith, div-le_self b k)

pub few_of_two_signs : (m n : ℤ) (k : ℕ) → nat_abs m < 2 ^ 62 → nat_abs n < 2 ^ 62 → one_sign m n ≡ false → nat_abs ((pos 2 *ℤ m) +ℤ shr_z n k) < 2 ^ 63
few_of_two_signs (pos a) (negsuc b) k h l e = omega (arith, ints, div-le_self b k, h, l)
few_of_two_signs (negsuc a) (pos b) k h l e = omega (arith, ints, div-le_self b k, h, l)
few_of_two_signs (pos a) (pos b) k h l e = absurd (no_clash (one_sign (pos a) (pos b)) (one_sign_plain a b) e)
few_of_two_signs (negsuc a) (negsuc b) k h l e = absurd (let f : true ≡ false = e in cc)

pub few_of_one_sign : (m n : ℤ) (k : ℕ) → nat_abs m < 2 ^ 62 → nat_abs n < 2 ^ 62 → nat_abs (m +ℤ shr_z n k) < 2 ^ 63
few_of_one_sign m (pos b) k h l = omega (arith, ints, div-le_self b k, h, l)
few_of_one_sign m (negsuc b) k h l = omega (arith, ints, div-le_self b k, h, l)
