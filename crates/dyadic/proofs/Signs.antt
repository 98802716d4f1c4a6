-- The rounding of a size with a sign.
use Rattle.std.proofs.Common.{ℕ, suc, ◌+◌, ◌*◌, ◌^◌, ◌<◌, ◌≤◌, arith, subst, sym, ⊎_elim, ℤ, pos, negsuc, neg_ℤ, ◌*ℤ◌, ◌≤ℤ◌, ◌<ℤ◌, mul-le-mul_right, le_of_mul-le-mul_right}
use Rattle.std.proofs.lemmas.Int.{ints}
use Rattle.std.proofs.lemmas.Bool.{cases_lt}
use Rattle.dyadic.proofs.Ints.{neg-*ℤ, nat_abs-neg}
use Rattle.dyadic.specs.Rounding.{IsRepresentable}
use Rattle.dyadic.specs.Grid.{IsTight, IsRoundedDown, IsRoundedUp, IsAboveAll}
use Rattle.dyadic.specs.Signed.{IsKept, IsFloor, IsCeiling, IsBelowGrid, IsAboveGrid}

pub zero_representable : IsRepresentable 0
zero_representable = record { whole = 0; power = 0; few_bits = omega arith; in_range = omega arith; value = omega arith }

-- a size that is not negative rounds down as it is
pub floor_plus : (n d low high s r : ℕ) → IsTight n d low high s → IsRoundedDown (low * 2 ^ s) r → IsFloor (pos n) d (pos r)
floor_plus n d low high s r t f = record {
  at_most = let k : r * d ≤ n = omega (arith, t.below, mul-le-mul_right d f.at_most) in omega (arith, ints);
  greatest = greatest;
}
  where
    greatest : (z : ℤ) → IsKept z → (z *ℤ pos d) ≤ℤ pos n → z ≤ℤ pos r
    greatest (pos k) g h =
        let small : k * d ≤ n = omega (arith, ints) in
        let less : k ≤ r = f.greatest k g (t.greatest k g small) in
        omega (arith, ints)
    greatest (negsuc k) g h = omega (arith, ints)

-- a size with a minus is the opposite of the size rounded up
pub floor_minus : (n d low high s r : ℕ) → 0 < d → IsTight n d low high s → IsRoundedUp (high * 2 ^ s) r → IsFloor (neg_ℤ (pos n)) d (neg_ℤ (pos r))
floor_minus n d low high s r p t u = record {
  at_most = let k : n ≤ r * d = omega (arith, t.above, mul-le-mul_right d u.at_least) in omega (arith, ints, neg-*ℤ (pos r) (pos d));
  greatest = greatest;
}
  where
    greatest : (z : ℤ) → IsKept z → (z *ℤ pos d) ≤ℤ neg_ℤ (pos n) → z ≤ℤ neg_ℤ (pos r)
    greatest (pos k) g h =
        let both : k * d + n ≤ 0 = omega (arith, ints) in
        let k0 : k ≤ 0 = le_of_mul-le-mul_right (let e : k * d ≤ 0 * d = omega arith in e) p in
        let low_r : r ≤ 0 = u.least 0 zero_representable (t.least 0 zero_representable (omega arith)) in
        omega (arith, ints)
    greatest (negsuc k) g h =
        let large : n ≤ suc k * d = omega (arith, ints) in
        let more : r ≤ suc k = u.least (suc k) g (t.least (suc k) g large) in
        omega (arith, ints)

-- and where no size is that large, there is no number that low
pub below_minus : (n d low high s : ℕ) → IsTight n d low high s → IsAboveAll (high * 2 ^ s) → IsBelowGrid (neg_ℤ (pos n)) d
below_minus n d low high s t a (pos k) g =
    let some : 0 < n = ⊎_elim (λ (none : n < 1). absurd (let few = t.least 0 zero_representable (omega arith) in let many = a 0 zero_representable in omega arith)) (λ some. some) (cases_lt n 1) in
    omega (arith, ints)
below_minus n d low high s t a (negsuc k) g =
    let less : suc k * d < n = ⊎_elim (λ l. l) (λ h. absurd (let few = t.least (suc k) g h in let many = a (suc k) g in omega arith)) (cases_lt (suc k * d) n) in
    omega (arith, ints)

-- a floor of the opposite is the opposite of a ceiling
pub ceiling_from_floor : (n : ℤ) (d : ℕ) (r : ℤ) → IsFloor (neg_ℤ n) d r → IsCeiling n d (neg_ℤ r)
ceiling_from_floor n d r f = record {
  at_least = let k = f.at_most in omega (arith, ints, neg-*ℤ r (pos d));
  least = λ z g h.
      let small : (neg_ℤ z *ℤ pos d) ≤ℤ neg_ℤ n = omega (arith, ints, neg-*ℤ z (pos d)) in
      let less : neg_ℤ z ≤ℤ r = f.greatest (neg_ℤ z) (subst IsRepresentable (sym (nat_abs-neg z)) g) small in
      omega (arith, ints);
}

pub above_from_below : (n : ℤ) (d : ℕ) → IsBelowGrid (neg_ℤ n) d → IsAboveGrid n d
above_from_below n d f z g =
    let less : neg_ℤ n <ℤ (neg_ℤ z *ℤ pos d) = f (neg_ℤ z) (subst IsRepresentable (sym (nat_abs-neg z)) g) in
    omega (arith, ints, neg-*ℤ z (pos d))
