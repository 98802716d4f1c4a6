-- From bounds within one step to rounding.
use Rattle.std.proofs.Common.{◌≡◌, ℕ, suc, ◌*◌, ◌^◌, ◌<◌, ◌≤◌, arith, sym, ap, ◌∙◌, subst, ⊎_elim, true, ℤ, pos, negsuc, neg_ℤ, ◌+ℤ◌, ◌*ℤ◌, ◌≤ℤ◌, ◌<ℤ◌, nat_abs}
use Rattle.std.proofs.Math.IntN.{pos-*ℤ-pos}
use Rattle.std.proofs.lemmas.Int.{ints, by_lt_z}
use Rattle.std.proofs.lemmas.Bool.{cases_lt}
use Rattle.dyadic.specs.declared.dy.Ext.{Ext}
use Rattle.dyadic.specs.declared.dy.Ext.TheVariants.{NegInf, Fin, PosInf}
use Rattle.dyadic.specs.InUnits.{IsDownAt}
use Rattle.dyadic.specs.Mantissa.{IsWithinStep}
use Rattle.dyadic.specs.Signed.{IsKept, IsFloor, IsBelowGrid}
use Rattle.dyadic.specs.Views.{units_of}
use Rattle.dyadic.proofs.Ints.{*ℤ-le_right, le_of_*ℤ-le_right}
use Rattle.dyadic.proofs.Nearest.{coarse_or_small, representable_le}
use Rattle.dyadic.proofs.Products.{signed_by}

pub lt_of_*ℤ-lt_right : (a b : ℤ) (k : ℕ) → (a *ℤ pos k) <ℤ (b *ℤ pos k) → a <ℤ b
lt_of_*ℤ-lt_right a b k h = by_lt_z a b (λ less. less) (λ more. absurd (let m = *ℤ-le_right b a k more in omega (arith, ints, m, h)))

-- a number of the grid is a whole number of steps of 2^k, or at most 2^61 steps in size
whole_or_small : (z : ℤ) (k : ℕ) {P : Type 0} → IsKept z → ((u : ℤ) → z ≡ u *ℤ pos (2 ^ k) → P) → (nat_abs z ≤ 2 ^ 61 * 2 ^ k → P) → P
whole_or_small (pos n) k g whole small = coarse_or_small n k g (λ u e. whole (pos u) (ap pos e ∙ sym (pos-*ℤ-pos u (2 ^ k)))) small
whole_or_small (negsuc n) k g whole small = coarse_or_small (suc n) k g (λ u e. whole (neg_ℤ (pos u)) (ap (λ x. neg_ℤ (pos x)) e ∙ signed_by true u (2 ^ k))) small

-- a number of whole steps that is at most n / d is at most t steps
whole_at_most : (n : ℤ) (d : ℕ) (t u z : ℤ) (s : ℕ) → IsWithinStep n d t s → z ≡ u *ℤ pos (2 ^ s) → (z *ℤ pos d) ≤ℤ n → z ≤ℤ (t *ℤ pos (2 ^ s))
whole_at_most n d t u z s w e h =
    let k : ((u *ℤ pos (2 ^ s)) *ℤ pos d) ≤ℤ n = subst (λ x. (x *ℤ pos d) ≤ℤ n) e h in
    let l = lt_of_*ℤ-lt_right (u *ℤ pos (2 ^ s)) ((t +ℤ pos 1) *ℤ pos (2 ^ s)) d (omega (arith, ints, k, w.below)) in
    let m = lt_of_*ℤ-lt_right u (t +ℤ pos 1) (2 ^ s) l in
    subst (λ x. x ≤ℤ (t *ℤ pos (2 ^ s))) (sym e) (*ℤ-le_right u t (2 ^ s) (omega (arith, ints, m)))

-- so is one of few steps, where n / d has many
small_at_most : (n : ℤ) (d : ℕ) (t z : ℤ) (s : ℕ) → 0 < d → IsWithinStep n d t s → 2 ^ 61 * 2 ^ s * d ≤ nat_abs n → nat_abs z ≤ 2 ^ 61 * 2 ^ s → (z *ℤ pos d) ≤ℤ n → z ≤ℤ (t *ℤ pos (2 ^ s))
small_at_most (pos a) d t z s p w large small h =
    let e = pos-*ℤ-pos (2 ^ 61) (2 ^ s) in
    let f = ap (λ x. x *ℤ pos d) e ∙ pos-*ℤ-pos (2 ^ 61 * 2 ^ s) d in
    let l = lt_of_*ℤ-lt_right (pos (2 ^ 61) *ℤ pos (2 ^ s)) ((t +ℤ pos 1) *ℤ pos (2 ^ s)) d (omega (arith, ints, f, large, w.below)) in
    let m = lt_of_*ℤ-lt_right (pos (2 ^ 61)) (t +ℤ pos 1) (2 ^ s) l in
    let k = *ℤ-le_right (pos (2 ^ 61)) t (2 ^ s) (omega (arith, ints, m)) in
    omega (arith, ints, e, k, small)
small_at_most (negsuc a) d t z s p w large small h =
    let e = sym (signed_by true (2 ^ 61) (2 ^ s)) in
    let f = ap (λ x. x *ℤ pos d) e ∙ sym (signed_by true (2 ^ 61 * 2 ^ s) d) in
    let l = le_of_*ℤ-le_right z (neg_ℤ (pos (2 ^ 61)) *ℤ pos (2 ^ s)) d p (omega (arith, ints, f, large, h)) in
    whole_at_most (negsuc a) d t (neg_ℤ (pos (2 ^ 61))) z s w (omega (arith, ints, e, l, small)) h

pub floor_within : (n : ℤ) (d : ℕ) (t : ℤ) (s : ℕ) → 0 < d → IsWithinStep n d t s → IsFloor n d (t *ℤ pos (2 ^ s))
floor_within n d t s p w = record {
  at_most = w.at_least;
  greatest = λ z g h. ⊎_elim
      (λ (none : s < 1).
      let s0 : 0 ≡ s = omega arith in
      whole_at_most n d t z z s w (subst (λ x. z ≡ z *ℤ pos (2 ^ x)) s0 (let e : z ≡ z *ℤ pos 1 = omega (arith, ints) in e)) h)
      (λ (some : 1 ≤ s). ⊎_elim
      (λ (few : nat_abs n < 2 ^ 61 * 2 ^ s * d). le_of_*ℤ-le_right z (t *ℤ pos (2 ^ s)) d p (subst (λ x. (z *ℤ pos d) ≤ℤ x) (w.many some few) h))
      (λ (large : 2 ^ 61 * 2 ^ s * d ≤ nat_abs n). whole_or_small z s g (λ u e. whole_at_most n d t u z s w e h) (λ small. small_at_most n d t z s p w large small h))
      (cases_lt (nat_abs n) (2 ^ 61 * 2 ^ s * d)))
      (cases_lt s 1);
}

-- ---- a floor of a floor

one_times : (z : ℤ) → z *ℤ pos 1 ≡ z
one_times z = omega (arith, ints)

floor_floor : (n : ℤ) (d : ℕ) (l r : ℤ) → IsFloor n d l → IsFloor l 1 r → IsFloor n d r
floor_floor n d l r f k = record {
  at_most =
      let less : r ≤ℤ l = subst (λ z. z ≤ℤ l) (one_times r) k.at_most in
      let more = *ℤ-le_right r l d less in
      omega (arith, ints, more, f.at_most);
  greatest = λ z g h. k.greatest z g (subst (λ x. x ≤ℤ l) (sym (one_times z)) (f.greatest z g h));
}

pub down_of_floor : (n : ℤ) (d : ℕ) (l : ℤ) (r : Ext) → IsFloor n d l → IsDownAt l 1 r → IsDownAt n d r
down_of_floor n d l NegInf f k = λ z g. by_lt_z n (z *ℤ pos d) (λ less. less)
    (λ more. absurd (let a = f.greatest z g more in let b = k z g in omega (arith, ints, a, b, one_times z)))
down_of_floor n d l (Fin r) f k = floor_floor n d l (units_of r) f k
down_of_floor n d l PosInf f k = absurd k

pub floor_self : (l : ℤ) → IsFloor l 1 l
floor_self l = record {
  at_most = omega (arith, ints, one_times l);
  greatest = λ z g h. subst (λ x. x ≤ℤ l) (one_times z) h;
}

-- ---- beyond the numbers

pub floor_top : (l : ℤ) → pos (2 ^ 242) ≤ℤ l → IsFloor l 1 (pos (2 ^ 242))
floor_top l h = record {
  at_most = omega (arith, ints, h);
  greatest = λ z g _. let k = representable_le (nat_abs z) g in omega (arith, ints, k);
}

pub below_all_numbers : (l : ℤ) → l <ℤ neg_ℤ (pos (2 ^ 242)) → IsBelowGrid l 1
below_all_numbers l h = λ z g. let k = representable_le (nat_abs z) g in omega (arith, ints, k, h)
