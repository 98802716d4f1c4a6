-- No fraction is the square root of 2.
use Rattle.std.proofs.Common.{◌≡◌, ℕ, zero, suc, ◌+◌, ◌*◌, ◌<◌, ◌≤◌, [], ◌∷◌, ◌⊎◌, inl, inr, refl, sym, ◌∙◌, arith, ℤ, pos, ◌*ℤ◌, ◌≤ℤ◌, nat_abs}
use Rattle.std.proofs.lemmas.Int.{ints}
use Rattle.dyadic.specs.Fraction.{Fraction, IsFraction, product_of, at_most}
use Rattle.dyadic.specs.Point.{at_fraction}
use Rattle.dyadic.proofs.Equal.{holds_le, both_true}
use Rattle.script_model.specs.Exact.{SatisfiesExactly}
use Rattle.real_points.specs.RootOfTwo.{root_script}
use Rattle.real_points.proofs.Sizes.{products, size_product}

halves : (a : ℕ) → ((c : ℕ) × (a ≡ 2 * c)) ⊎ ((c : ℕ) × (a ≡ 2 * c + 1))
halves zero = inl (0, refl)
halves (suc a) = elim (halves a) [ inl h ↦ inr (h.0, omega (arith, h.1)) | inr h ↦ inl (suc h.0, omega (arith, h.1)) ]

-- a^2 = 2 b^2 for a = 0 alone: then b^2 = 2 (a / 2)^2, and b is smaller
even-square : (a b c : ℕ) → a ≡ 2 * c → a * a ≡ 2 * (b * b) → b * b ≡ 2 * (c * c)
even-square a b c e h = let k : (2 * c) * (2 * c) ≡ 2 * (b * b) = rw e at h in omega (arith, k)

odd-square : (a b c : ℕ) → a ≡ 2 * c + 1 → a * a ≡ 2 * (b * b) → ⊥
odd-square a b c e h = let k : (2 * c + 1) * (2 * c + 1) ≡ 2 * (b * b) = rw e at h in omega (arith, k)

smaller : (n a b : ℕ) → a ≤ suc n → a * a ≡ 2 * (b * b) → b ≤ n
smaller n a b l h = grind (arith, products a b a b)

zero-square : (a : ℕ) → a * a ≡ 0 → a ≡ 0
zero-square zero h = refl
zero-square (suc a) h = absurd (omega (arith, h))

none : (n a b : ℕ) → a ≤ n → a * a ≡ 2 * (b * b) → a ≡ 0
none zero a b l h = omega arith
none (suc n) a b l h = elim (halves a) [
  | inl x ↦ let z : b ≡ 0 = none n b x.0 (smaller n a b l h) (even-square a b x.0 x.1 h) in zero-square a (let k : a * a ≡ 2 * (0 * 0) = rw z at h in omega (arith, k))
  | inr x ↦ absurd (odd-square a b x.0 x.1 h)
]

size-is : (z : ℤ) (t : ℕ) → (z *ℤ pos 1) ≤ℤ (pos 2 *ℤ pos t) → (pos 2 *ℤ pos t) ≤ℤ (z *ℤ pos 1) → nat_abs z ≡ 2 * t
size-is z t h k = omega (arith, ints, h, k)

no-square : (a : ℤ) (b : ℕ) → 0 < b → ((a *ℤ a) *ℤ pos 1) ≤ℤ (pos 2 *ℤ pos (b * b)) → (pos 2 *ℤ pos (b * b)) ≤ℤ ((a *ℤ a) *ℤ pos 1) → ⊥
no-square a b g h k =
    let e : nat_abs a * nat_abs a ≡ 2 * (b * b) = sym (size_product a a) ∙ size-is (a *ℤ a) (b * b) h k in
    let z : nat_abs a ≡ 0 = none (nat_abs a) (nat_abs a) b (omega arith) e in
    let y : 0 * 0 ≡ 2 * (b * b) = rw z at e in
    let w : b ≡ 0 = zero-square b (omega (arith, y)) in
    omega (arith, w, g)

pub no_fraction_satisfies : (q : Fraction) → IsFraction q → SatisfiesExactly (at_fraction q ∷ []) root_script → ⊥
unfolding at_most product_of
no_fraction_satisfies q f h =
    let t = both_true _ _ (both_true _ _ h.1.0).0 in
    no-square q.num q.den f (holds_le _ _ t.0) (holds_le _ _ t.1)
