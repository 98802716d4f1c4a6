-- `down` gives the greatest number of the grid that is not above a fraction, and `up` the least that is not below.
pub use Rattle.dyadic.specs.Rounding.{IsExtOnGrid}
use Rattle.std.proofs.Common.{◌≡◌, ℕ, suc, ◌*◌, ◌/◌, ◌^◌, ◌<◌, arith, refl, sym, ap, ◌∙◌, subst, IsTrue, nat_le, ℤ, pos, negsuc, neg_ℤ, ◌*ℤ◌, ◌≤ℤ◌}
use Rattle.std.proofs.Math.IntN.{neg_ℤ-neg_ℤ}
use Rattle.std.proofs.lemmas.Int.{ints}
use Rattle.std.proofs.lemmas.Nat.{pow_pos}
use Rattle.std.proofs.lemmas.Bool.{cond_both, leb-true, leb-false}
use lib.Signed.{le_z}
use Rattle.dyadic.specs.Fraction.{Fraction, IsFraction, at_most}
use Rattle.dyadic.specs.Rounding.{Dyadic, exact, IsRepresentable, IsOnGrid, at, Ext, below_all, finite, above_all, end_of, end_at_most, ext_at_most, IsDown, IsUp, ceiling, size_below, size_above, positive, negative, above_or_infinite, below_or_infinite, down_of, up_of, down, up}
use Rattle.dyadic.specs.Grid.{IsRoundedDown, IsRoundedUp, IsAboveAll}
use Rattle.dyadic.specs.Signed.{IsKept, IsFloor, IsCeiling, IsBelowGrid, IsAboveGrid}
use Rattle.dyadic.proofs.Ints.{*ℤ-le_right, le_of_*ℤ-le_right, *ℤ_assoc, nat_abs-neg}
use Rattle.dyadic.proofs.Nearest.{representable_le}
use Rattle.dyadic.proofs.Signs.{floor_plus, floor_minus, below_minus, ceiling_from_floor, above_from_below}
use Rattle.dyadic.proofs.Sizes.{quotient_tight, size_below_is, size_above_is, above_representable}

-- ---- tests and orders

pub le_from_test : (a b : ℤ) → IsTrue (le_z a b) → a ≤ℤ b
le_from_test a b h = omega (arith, ints, h)

pub test_from_le : (a b : ℤ) → a ≤ℤ b → IsTrue (le_z a b)
test_from_le a b h = grind (arith, ints, h)

pub at_most_read : (p q : Fraction) → IsTrue (at_most p q) → (p.num *ℤ pos q.den) ≤ℤ (q.num *ℤ pos p.den)
unfolding at_most
at_most_read p q h = le_from_test (p.num *ℤ pos q.den) (q.num *ℤ pos p.den) h

pub at_most_from : (p q : Fraction) → (p.num *ℤ pos q.den) ≤ℤ (q.num *ℤ pos p.den) → IsTrue (at_most p q)
unfolding at_most
at_most_from p q h = test_from_le (p.num *ℤ pos q.den) (q.num *ℤ pos p.den) h

-- the order of two numbers is that of their units
pub exact_from : (r s : Dyadic) → r.units ≤ℤ s.units → IsTrue (at_most (exact r) (exact s))
exact_from r s h = at_most_from (exact r) (exact s) (*ℤ-le_right r.units s.units (2 ^ 120) h)

pub exact_read : (r s : Dyadic) → IsTrue (at_most (exact r) (exact s)) → r.units ≤ℤ s.units
exact_read r s h = le_of_*ℤ-le_right r.units s.units (2 ^ 120) (pow_pos 120) (at_most_read (exact r) (exact s) h)

-- ---- from floors and ceilings in units to the definitions' words

abbrev pub in_units : Fraction → ℤ
in_units q = q.num *ℤ pos (2 ^ 120)

pub down_from_floor : (q : Fraction) (r : Dyadic) → IsOnGrid r → IsFloor (in_units q) q.den r.units → IsDown q (finite r)
down_from_floor q r g f = (
  g,
  at_most_from (exact r) q f.at_most,
  λ s h k. exact_from s r (f.greatest s.units h (at_most_read (exact s) q k)),
)

pub down_from_below : (q : Fraction) → IsBelowGrid (in_units q) q.den → IsDown q below_all
down_from_below q f s g h = let k = f s.units g in let l = at_most_read (exact s) q h in omega (arith, ints)

pub up_from_ceiling : (q : Fraction) (r : Dyadic) → IsOnGrid r → IsCeiling (in_units q) q.den r.units → IsUp q (finite r)
up_from_ceiling q r g f = (
  g,
  at_most_from q (exact r) f.at_least,
  λ s h k. exact_from r s (f.least s.units h (at_most_read q (exact s) k)),
)

pub up_from_above : (q : Fraction) → IsAboveGrid (in_units q) q.den → IsUp q above_all
up_from_above q f s g h = let k = f s.units g in let l = at_most_read q (exact s) h in omega (arith, ints)

-- ---- down

kept_negative : (n : ℕ) → IsRepresentable n → IsKept (neg_ℤ (pos n))
kept_negative n r = subst IsRepresentable (sym (nat_abs-neg (pos n))) r

-- the quotient's size rounded down, or up with a minus
record IsDownOf (n : ℤ) (d : ℕ) (e : Ext) : Type 0 where
  pub holds : (q : Fraction) → in_units q ≡ n → q.den ≡ d → IsDown q e

in_floor : (q : Fraction) (n : ℤ) (d : ℕ) (r : ℤ) → in_units q ≡ n → q.den ≡ d → IsFloor n d r → IsFloor (in_units q) q.den r
in_floor q n d r e f h = subst (λ m. IsFloor m q.den r) (sym e) (subst (λ c. IsFloor n c r) (sym f) h)

down_plus : (n d : ℕ) → 0 < d → IsDownOf (pos n) d (positive (size_below (n / d)))
down_plus n d p = record {
  holds = λ q e f.
      let s = size_below_is (n / d) in
      let one : n / d * 2 ^ 0 ≡ n / d = omega arith in
      down_from_floor q (record { units = pos (size_below (n / d)) }) s.1
      (in_floor q (pos n) d (pos (size_below (n / d))) e f
      (floor_plus n d (n / d) (ceiling n d) 0 (size_below (n / d)) (quotient_tight n d p) (subst (λ v. IsRoundedDown v (size_below (n / d))) (sym one) s.0)));
}

above_top : (v : ℕ) → 2 ^ 242 < v → IsAboveAll v
above_top v h z r = let k = representable_le z r in omega (arith, k, h)

down_minus : (n d : ℕ) → 0 < d → IsDownOf (neg_ℤ (pos n)) d (below_or_infinite (ceiling n d))
down_minus n d p =
    let v = ceiling n d in
    let one : v * 2 ^ 0 ≡ v = omega arith in
    cond_both (nat_le v (2 ^ 242)) (negative (size_above v)) below_all (IsDownOf (neg_ℤ (pos n)) d)
    (λ t.
    let h = leb-true v (2 ^ 242) t in
    let u = size_above_is v (omega (arith, h)) in
    record {
      holds = λ q e f. down_from_floor q (record { units = neg_ℤ (pos (size_above v)) }) (kept_negative (size_above v) (above_representable v h))
          (in_floor q (neg_ℤ (pos n)) d (neg_ℤ (pos (size_above v))) e f
          (floor_minus n d (n / d) v 0 (size_above v) p (quotient_tight n d p) (subst (λ w. IsRoundedUp w (size_above v)) (sym one) u)));
    })
    (λ t.
    let h = leb-false v (2 ^ 242) t in
    record {
      holds = λ q e f. down_from_below q
          (subst (λ m. IsBelowGrid m q.den) (sym e)
          (subst (λ c. IsBelowGrid (neg_ℤ (pos n)) c) (sym f)
          (below_minus n d (n / d) v 0 (quotient_tight n d p) (subst IsAboveAll (sym one) (above_top v h)))));
    })

pub down_is : (q : Fraction) → IsFraction q → IsDown q (down q)
down_is q p = by q.num q.den refl refl p
  where
    by : (n : ℤ) (d : ℕ) → q.num ≡ n → q.den ≡ d → 0 < d → IsDown q (down_of n d)
    by (pos n) d e f p = (down_plus (n * 2 ^ 120) d p).holds q (ap (λ z. z *ℤ pos (2 ^ 120)) e ∙ omega (arith, ints)) f
    by (negsuc n) d e f p = (down_minus (suc n * 2 ^ 120) d p).holds q (ap (λ z. z *ℤ pos (2 ^ 120)) e ∙ omega (arith, ints)) f

-- ---- up

record IsUpOf (n : ℤ) (d : ℕ) (e : Ext) : Type 0 where
  pub holds : (q : Fraction) → in_units q ≡ n → q.den ≡ d → IsUp q e

in_ceiling : (q : Fraction) (n : ℤ) (d : ℕ) (r : ℤ) → in_units q ≡ n → q.den ≡ d → IsCeiling n d r → IsCeiling (in_units q) q.den r
in_ceiling q n d r e f h = subst (λ m. IsCeiling m q.den r) (sym e) (subst (λ c. IsCeiling n c r) (sym f) h)

up_minus : (n d : ℕ) → 0 < d → IsUpOf (neg_ℤ (pos n)) d (negative (size_below (n / d)))
up_minus n d p =
    let r = size_below (n / d) in
    let s = size_below_is (n / d) in
    let one : n / d * 2 ^ 0 ≡ n / d = omega arith in
    let floor = floor_plus n d (n / d) (ceiling n d) 0 r (quotient_tight n d p) (subst (λ v. IsRoundedDown v r) (sym one) s.0) in
    record {
      holds = λ q e f. up_from_ceiling q (record { units = neg_ℤ (pos r) }) (kept_negative r s.1)
          (in_ceiling q (neg_ℤ (pos n)) d (neg_ℤ (pos r)) e f
          (ceiling_from_floor (neg_ℤ (pos n)) d (pos r) (subst (λ z. IsFloor z d (pos r)) (sym (neg_ℤ-neg_ℤ (pos n))) floor)));
    }

up_plus : (n d : ℕ) → 0 < d → IsUpOf (pos n) d (above_or_infinite (ceiling n d))
up_plus n d p =
    let v = ceiling n d in
    let one : v * 2 ^ 0 ≡ v = omega arith in
    cond_both (nat_le v (2 ^ 242)) (positive (size_above v)) above_all (IsUpOf (pos n) d)
    (λ t.
    let h = leb-true v (2 ^ 242) t in
    let u = size_above_is v (omega (arith, h)) in
    let floor = floor_minus n d (n / d) v 0 (size_above v) p (quotient_tight n d p) (subst (λ w. IsRoundedUp w (size_above v)) (sym one) u) in
    record {
      holds = λ q e f. up_from_ceiling q (record { units = pos (size_above v) }) (above_representable v h)
          (in_ceiling q (pos n) d (pos (size_above v)) e f
          (subst (IsCeiling (pos n) d) (neg_ℤ-neg_ℤ (pos (size_above v))) (ceiling_from_floor (pos n) d (neg_ℤ (pos (size_above v))) floor)));
    })
    (λ t.
    let h = leb-false v (2 ^ 242) t in
    record {
      holds = λ q e f. up_from_above q
          (subst (λ m. IsAboveGrid m q.den) (sym e)
          (subst (λ c. IsAboveGrid (pos n) c) (sym f)
          (above_from_below (pos n) d (below_minus n d (n / d) v 0 (quotient_tight n d p) (subst IsAboveAll (sym one) (above_top v h))))));
    })

pub up_is : (q : Fraction) → IsFraction q → IsUp q (up q)
up_is q p = by q.num q.den refl refl p
  where
    by : (n : ℤ) (d : ℕ) → q.num ≡ n → q.den ≡ d → 0 < d → IsUp q (up_of n d)
    by (pos n) d e f p = (up_plus (n * 2 ^ 120) d p).holds q (ap (λ z. z *ℤ pos (2 ^ 120)) e ∙ omega (arith, ints)) f
    by (negsuc n) d e f p = (up_minus (suc n * 2 ^ 120) d p).holds q (ap (λ z. z *ℤ pos (2 ^ 120)) e ∙ omega (arith, ints)) f

-- ---- only one end is the rounded one

pub same_units : (r s : Dyadic) → r.units ≤ℤ s.units → s.units ≤ℤ r.units → r ≡ s
same_units r s h k = let e : r.units ≡ s.units = omega (arith, ints, h, k) in ap (λ z. record { units = z }) e

pub down_unique : (q : Fraction) (e f : Ext) → IsDown q e → IsDown q f → e ≡ f
down_unique q (finite r) (finite s) h k = ap finite (same_units r s (exact_read r s (k.2 r h.0 h.1)) (exact_read s r (h.2 s k.0 k.1)))
down_unique q (finite r) below_all h k = absurd (k r h.0 h.1)
down_unique q below_all (finite s) h k = absurd (h s k.0 k.1)
down_unique q below_all below_all h k = refl
down_unique q above_all f h k = absurd h
down_unique q e above_all h k = absurd k

pub up_unique : (q : Fraction) (e f : Ext) → IsUp q e → IsUp q f → e ≡ f
up_unique q (finite r) (finite s) h k = ap finite (same_units r s (exact_read r s (h.2 s k.0 k.1)) (exact_read s r (k.2 r h.0 h.1)))
up_unique q (finite r) above_all h k = absurd (k r h.0 h.1)
up_unique q above_all (finite s) h k = absurd (h s k.0 k.1)
up_unique q above_all above_all h k = refl
up_unique q below_all f h k = absurd h
up_unique q e below_all h k = absurd k

pub down_from : (q : Fraction) (e : Ext) → IsFraction q → IsDown q e → e ≡ down q
down_from q e p h = down_unique q e (down q) h (down_is q p)

pub up_from : (q : Fraction) (e : Ext) → IsFraction q → IsUp q e → e ≡ up q
up_from q e p h = up_unique q e (up q) h (up_is q p)

-- ---- each to its side

down_side_of : (q : Fraction) (e : Ext) → IsDown q e → IsTrue (end_at_most (end_of e) (at q))
down_side_of q (finite r) h = h.1
down_side_of q below_all h = refl
down_side_of q above_all h = absurd h

up_side_of : (q : Fraction) (e : Ext) → IsUp q e → IsTrue (end_at_most (at q) (end_of e))
up_side_of q (finite r) h = h.1
up_side_of q above_all h = refl
up_side_of q below_all h = absurd h

pub down_side : (q : Fraction) → IsFraction q → IsTrue (end_at_most (end_of (down q)) (at q))
down_side q p = down_side_of q (down q) (down_is q p)

pub up_side : (q : Fraction) → IsFraction q → IsTrue (end_at_most (at q) (end_of (up q)))
up_side q p = up_side_of q (up q) (up_is q p)

-- ---- the order is kept

pub at_most_trans : (p q r : Fraction) → IsFraction q → IsTrue (at_most p q) → IsTrue (at_most q r) → IsTrue (at_most p r)
at_most_trans p q r g h k =
    let one = *ℤ-le_right (p.num *ℤ pos q.den) (q.num *ℤ pos p.den) r.den (at_most_read p q h) in
    let two = *ℤ-le_right (q.num *ℤ pos r.den) (r.num *ℤ pos q.den) p.den (at_most_read q r k) in
    at_most_from p r (le_of_*ℤ-le_right (p.num *ℤ pos r.den) (r.num *ℤ pos p.den) q.den g
    (omega (arith, ints, one, two, swap p.num q.den r.den, swap q.num p.den r.den, swap r.num q.den p.den)))
  where
    swap : (z : ℤ) (m n : ℕ) → (z *ℤ pos m) *ℤ pos n ≡ (z *ℤ pos n) *ℤ pos m
    swap z m n = omega (arith, ints, *ℤ_assoc z (pos m) (pos n), *ℤ_assoc z (pos n) (pos m))

isotone_down_of : (p q : Fraction) (e f : Ext) → IsFraction p → IsTrue (at_most p q) → IsDown p e → IsDown q f → IsTrue (ext_at_most e f)
isotone_down_of p q below_all f g h i j = refl
isotone_down_of p q (finite r) (finite s) g h i j = j.2 r i.0 (at_most_trans (exact r) p q g i.1 h)
isotone_down_of p q (finite r) below_all g h i j = absurd (j r i.0 (at_most_trans (exact r) p q g i.1 h))
isotone_down_of p q e above_all g h i j = absurd j
isotone_down_of p q above_all f g h i j = absurd i

pub down_isotone : (p q : Fraction) → IsFraction p → IsFraction q → IsTrue (at_most p q) → IsTrue (ext_at_most (down p) (down q))
down_isotone p q g k h = isotone_down_of p q (down p) (down q) g h (down_is p g) (down_is q k)

isotone_up_of : (p q : Fraction) (e f : Ext) → IsFraction q → IsTrue (at_most p q) → IsUp p e → IsUp q f → IsTrue (ext_at_most e f)
isotone_up_of p q (finite r) (finite s) g h i j = i.2 s j.0 (at_most_trans p q (exact s) g h j.1)
isotone_up_of p q (finite r) above_all g h i j = refl
isotone_up_of p q above_all above_all g h i j = refl
isotone_up_of p q above_all (finite s) g h i j = absurd (i s j.0 (at_most_trans p q (exact s) g h j.1))
isotone_up_of p q e below_all g h i j = absurd j
isotone_up_of p q below_all f g h i j = absurd i

pub up_isotone : (p q : Fraction) → IsFraction p → IsFraction q → IsTrue (at_most p q) → IsTrue (ext_at_most (up p) (up q))
up_isotone p q g k h = isotone_up_of p q (up p) (up q) k h (up_is p g) (up_is q k)

-- ---- the grid

-- what is rounded lies on the grid where it is a number
down_on_grid_of : (q : Fraction) (e : Ext) → IsDown q e → IsExtOnGrid e
down_on_grid_of q (finite r) h = h.0
down_on_grid_of q below_all h = tt
down_on_grid_of q above_all h = tt

up_on_grid_of : (q : Fraction) (e : Ext) → IsUp q e → IsExtOnGrid e
up_on_grid_of q (finite r) h = h.0
up_on_grid_of q below_all h = tt
up_on_grid_of q above_all h = tt

pub down_on_grid : (q : Fraction) → IsFraction q → IsExtOnGrid (down q)
down_on_grid q p = down_on_grid_of q (down q) (down_is q p)

pub up_on_grid : (q : Fraction) → IsFraction q → IsExtOnGrid (up q)
up_on_grid q p = up_on_grid_of q (up q) (up_is q p)

pub exact_self : (r : Dyadic) → IsTrue (at_most (exact r) (exact r))
exact_self r = exact_from r r (omega (arith, ints))

-- a number of the grid is rounded to itself
pub down_exact : (r : Dyadic) → IsOnGrid r → down (exact r) ≡ finite r
down_exact r g = sym (down_from (exact r) (finite r) (pow_pos 120) (g, exact_self r, λ s _ h. h))

pub up_exact : (r : Dyadic) → IsOnGrid r → up (exact r) ≡ finite r
up_exact r g = sym (up_from (exact r) (finite r) (pow_pos 120) (g, exact_self r, λ s _ h. h))
