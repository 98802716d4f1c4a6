-- The one spelling of a number of the grid, and that it is read as that number.
use Rattle.std.proofs.Common.{◌≡◌, ℕ, zero, suc, ◌+◌, ◌*◌, ◌/◌, ◌%◌, ◌^◌, ◌<◌, ◌≤◌, arith, refl, sym, ap, ◌∙◌, Bool, true, false, nat_eq, ◌∷◌, pos, neg_ℤ, min, mul-pos}
use Rattle.std.proofs.lemmas.Nat.{pow-add, pow_pos}
use Rattle.std.proofs.lemmas.Bool.{cond-true, cond-false, eq-eqb, ne_eqb}
use Rattle.dyadic.specs.declared.parts.Parts.{Parts}
use Rattle.dyadic.specs.NumberText.{parts_text, odd_text, units_text, number_spelling}
use Rattle.dyadic.specs.Grid.{IsSpelling}
use Rattle.dyadic.specs.Signed.{signed_of}
use Rattle.dyadic.specs.Text.{spelling}
use Rattle.dyadic.specs.Views.{parts_dyadic}

-- the twos are taken out
pub odd_text_is : (most m j k : ℕ) → m % 2 ≡ 1 → j ≤ most → odd_text most (m * 2 ^ j) k ≡ parts_text m (k + j)
odd_text_is zero m j k odd h =
    let none : j ≡ 0 = omega (arith, h) in
    ap (λ i. parts_text (m * 2 ^ i) k) none ∙ (let e : m * 2 ^ 0 ≡ m = omega arith in ap (λ n. parts_text n k) e) ∙ (let e : k ≡ k + j = omega (arith, h) in ap (parts_text m) e)
odd_text_is (suc most) m zero k odd h =
    let one : m * 2 ^ 0 ≡ m = omega arith in
    ap (λ n. odd_text (suc most) n k) one ∙ cond-true (nat_eq (m % 2) 1) (parts_text m k) (odd_text most (m / 2) (k + 1)) (eq-eqb (m % 2) 1 odd) ∙ (let e : k ≡ k + 0 = omega arith in ap (parts_text m) e)
odd_text_is (suc most) m (suc j) k odd h =
    let split : 2 ^ suc j ≡ 2 ^ j * 2 = (let e : suc j ≡ j + 1 = omega arith in ap (λ i. 2 ^ i) e ∙ pow-add 2 j 1) in
    let twice : m * 2 ^ suc j ≡ m * 2 ^ j * 2 = omega (arith, ap (λ n. m * n) split) in
    let even : m * 2 ^ suc j % 2 ≡ 0 = omega (arith, twice) in
    let half : m * 2 ^ suc j / 2 ≡ m * 2 ^ j = omega (arith, twice) in
    cond-false (nat_eq (m * 2 ^ suc j % 2) 1) (parts_text (m * 2 ^ suc j) k) (odd_text most (m * 2 ^ suc j / 2) (k + 1)) (ne_eqb (m * 2 ^ suc j % 2) 1 (λ e. omega (arith, even, e)))
    ∙ ap (λ n. odd_text most n (k + 1)) half ∙ odd_text_is most m j (k + 1) odd (omega (arith, h)) ∙ (let e : k + 1 + j ≡ k + suc j = omega arith in ap (parts_text m) e)

plus_text : (n : ℕ) → 0 < n → units_text (pos n) ≡ odd_text 242 n 0
plus_text zero h = absurd (omega (arith, h))
plus_text (suc n) h = refl

minus_text : (n : ℕ) → 0 < n → units_text (neg_ℤ (pos n)) ≡ 45 ∷ odd_text 242 n 0
minus_text zero h = absurd (omega (arith, h))
minus_text (suc n) h = refl

zero_plus : (m k : ℕ) → parts_text m (0 + k) ≡ parts_text m k
zero_plus m k = let e : 0 + k ≡ k = omega arith in ap (parts_text m) e

-- the parts that the code writes are the number's one spelling
pub spelling_is : (s : Bool) (m k : ℕ) → IsSpelling m k → (s ≡ true → 0 < m) → spelling s m k ≡ units_text (signed_of s (m * 2 ^ k))
spelling_is true zero k w p = absurd (omega (arith, p refl))
spelling_is false zero k w p = (let e : 0 ≡ 0 * 2 ^ k = omega arith in ap (λ n. units_text (pos n)) e)
spelling_is true (suc m) k w p =
    let odd : suc m % 2 ≡ 1 = odd_of (suc m) w.is_odd (omega arith) in
    sym (minus_text (suc m * 2 ^ k) (mul-pos (let h : 0 < suc m = omega arith in h) (pow_pos k)) ∙ ap (λ l. 45 ∷ l) (odd_text_is 242 (suc m) k 0 odd w.short ∙ zero_plus (suc m) k))
  where
    odd_of : (n : ℕ) → n % 2 ≡ min 1 n → 0 < n → n % 2 ≡ 1
    odd_of n e h = omega (arith, e, h)
spelling_is false (suc m) k w p =
    let odd : suc m % 2 ≡ 1 = odd_of (suc m) w.is_odd (omega arith) in
    sym (plus_text (suc m * 2 ^ k) (mul-pos (let h : 0 < suc m = omega arith in h) (pow_pos k)) ∙ odd_text_is 242 (suc m) k 0 odd w.short ∙ zero_plus (suc m) k)
  where
    odd_of : (n : ℕ) → n % 2 ≡ min 1 n → 0 < n → n % 2 ≡ 1
    odd_of n e h = omega (arith, e, h)

pub written_is : (a : Parts) → spelling a.negative a.size.odd a.size.shift ≡ number_spelling (parts_dyadic a)
written_is a = spelling_is a.negative a.size.odd a.size.shift a.size.spelled a.one_zero
