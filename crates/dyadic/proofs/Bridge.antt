-- From what the code rounds, in units, to the definitions' `down` and `up`.
use Rattle.std.proofs.Common.{◌≡◌, ℕ, ◌*◌, ◌^◌, ◌<◌, arith, refl, sym, ap, ◌∙◌, subst, lit<, mul-pos, Bool, true, false, not, ℤ, pos, neg_ℤ, ◌+ℤ◌, ◌*ℤ◌, ◌≤ℤ◌, ◌<ℤ◌}
use Rattle.std.proofs.Math.IntN.{pos-*ℤ-pos, neg_ℤ-neg_ℤ}
use Rattle.std.proofs.lemmas.Int.{ints}
use mathlib.Core.Bool.{beq}
use Rattle.dyadic.specs.declared.dy.Ext.{Ext}
use Rattle.dyadic.specs.declared.dy.Ext.TheVariants.{NegInf, Fin, PosInf}
use Rattle.dyadic.specs.declared.frac.Frac.{Frac}
use Rattle.dyadic.specs.Fraction.{Fraction, IsFraction, sum_of, product_of, quotient_of}
use Rattle.dyadic.specs.Rounding.{Dyadic, exact, down, up}
use Rattle.dyadic.specs.Signed.{signed_of, IsFloor, IsCeiling, IsBelowGrid, IsAboveGrid}
use Rattle.dyadic.specs.Views.{units_of, dyadic_of, ext_of, fraction_of_frac}
use Rattle.dyadic.specs.InUnits.{IsDownAt, IsUpAt}
use Rattle.dyadic.proofs.Ints.{*ℤ-lt_right, *ℤ-le_right, le_of_*ℤ-le_right, *ℤ_assoc}
use Rattle.dyadic.proofs.Floors.{number_on_grid}
use Rattle.dyadic.proofs.RoundsMid.{half_sum}
use Rattle.dyadic.proofs.Rounds.{in_units, down_from, up_from, down_from_floor, down_from_below, up_from_ceiling, up_from_above}

-- ---- a common factor

regroup : (z : ℤ) (d k : ℕ) → (z *ℤ pos d) *ℤ pos k ≡ z *ℤ pos (d * k)
regroup z d k = *ℤ_assoc z (pos d) (pos k) ∙ ap (λ w. z *ℤ w) (pos-*ℤ-pos d k)

floor_times : (n : ℤ) (d k : ℕ) (r : ℤ) → 0 < k → IsFloor n d r → IsFloor (n *ℤ pos k) (d * k) r
floor_times n d k r p f = record {
  at_most = subst (λ z. z ≤ℤ (n *ℤ pos k)) (regroup r d k) (*ℤ-le_right (r *ℤ pos d) n k f.at_most);
  greatest = λ z g h. f.greatest z g (le_of_*ℤ-le_right (z *ℤ pos d) n k p (subst (λ w. w ≤ℤ (n *ℤ pos k)) (sym (regroup z d k)) h));
}

ceiling_times : (n : ℤ) (d k : ℕ) (r : ℤ) → 0 < k → IsCeiling n d r → IsCeiling (n *ℤ pos k) (d * k) r
ceiling_times n d k r p f = record {
  at_least = subst (λ z. (n *ℤ pos k) ≤ℤ z) (regroup r d k) (*ℤ-le_right n (r *ℤ pos d) k f.at_least);
  least = λ z g h. f.least z g (le_of_*ℤ-le_right n (z *ℤ pos d) k p (subst (λ w. (n *ℤ pos k) ≤ℤ w) (sym (regroup z d k)) h));
}

below_times : (n : ℤ) (d k : ℕ) → 0 < k → IsBelowGrid n d → IsBelowGrid (n *ℤ pos k) (d * k)
below_times n d k p f z g = subst (λ w. (n *ℤ pos k) <ℤ w) (regroup z d k) (*ℤ-lt_right n (z *ℤ pos d) k p (f z g))

above_times : (n : ℤ) (d k : ℕ) → 0 < k → IsAboveGrid n d → IsAboveGrid (n *ℤ pos k) (d * k)
above_times n d k p f z g = subst (λ w. w <ℤ (n *ℤ pos k)) (regroup z d k) (*ℤ-lt_right (z *ℤ pos d) n k p (f z g))

-- ---- what is rounded in units is rounded as a fraction

-- q is n / d units, both times k
pub record IsOver (q : Fraction) (n : ℤ) (d k : ℕ) : Type 0 where
  pub some : 0 < d
  pub factor : 0 < k
  pub above : in_units q ≡ n *ℤ pos k
  pub below : q.den ≡ d * k

fraction_over : (q : Fraction) (n : ℤ) (d k : ℕ) → IsOver q n d k → IsFraction q
fraction_over q n d k o = subst (λ x. 0 < x) (sym o.below) (mul-pos o.some o.factor)

pub down_over : (q : Fraction) (n : ℤ) (d k : ℕ) (r : Ext) → IsOver q n d k → IsDownAt n d r → ext_of r ≡ down q
down_over q n d k NegInf o f = down_from q (ext_of NegInf) (fraction_over q n d k o)
    (down_from_below q (subst (λ z. IsBelowGrid z q.den) (sym o.above) (subst (λ x. IsBelowGrid (n *ℤ pos k) x) (sym o.below) (below_times n d k o.factor f))))
down_over q n d k (Fin r) o f = down_from q (ext_of (Fin r)) (fraction_over q n d k o)
    (down_from_floor q (dyadic_of r) (number_on_grid r) (subst (λ z. IsFloor z q.den (units_of r)) (sym o.above) (subst (λ x. IsFloor (n *ℤ pos k) x (units_of r)) (sym o.below) (floor_times n d k (units_of r) o.factor f))))
down_over q n d k PosInf o f = absurd f

pub up_over : (q : Fraction) (n : ℤ) (d k : ℕ) (r : Ext) → IsOver q n d k → IsUpAt n d r → ext_of r ≡ up q
up_over q n d k PosInf o f = up_from q (ext_of PosInf) (fraction_over q n d k o)
    (up_from_above q (subst (λ z. IsAboveGrid z q.den) (sym o.above) (subst (λ x. IsAboveGrid (n *ℤ pos k) x) (sym o.below) (above_times n d k o.factor f))))
up_over q n d k (Fin r) o f = up_from q (ext_of (Fin r)) (fraction_over q n d k o)
    (up_from_ceiling q (dyadic_of r) (number_on_grid r) (subst (λ z. IsCeiling z q.den (units_of r)) (sym o.above) (subst (λ x. IsCeiling (n *ℤ pos k) x (units_of r)) (sym o.below) (ceiling_times n d k (units_of r) o.factor f))))
up_over q n d k NegInf o f = absurd f

-- ---- the operations

pub sum_over : (x y : Dyadic) → IsOver (sum_of (exact x) (exact y)) (x.units +ℤ y.units) 1 (2 ^ 240)
unfolding sum_of
sum_over x y = record { some = lit< tt; factor = lit< tt; above = lemma x.units y.units; below = refl }
  where
    lemma : (x y : ℤ) → (x *ℤ pos (2 ^ 120) +ℤ y *ℤ pos (2 ^ 120)) *ℤ pos (2 ^ 120) ≡ (x +ℤ y) *ℤ pos (2 ^ 240)
    lemma x y = omega (arith, ints)

pub half_over : (x y : Dyadic) → IsOver (half_sum x y) (x.units +ℤ y.units) 2 (2 ^ 240)
unfolding sum_of quotient_of
half_over x y = record { some = lit< tt; factor = lit< tt; above = lemma x.units y.units; below = refl }
  where
    lemma : (x y : ℤ) → ((x *ℤ pos (2 ^ 120) +ℤ y *ℤ pos (2 ^ 120)) *ℤ pos 1) *ℤ pos (2 ^ 120) ≡ (x +ℤ y) *ℤ pos (2 ^ 240)
    lemma x y = omega (arith, ints)

pub product_over : (x y : Dyadic) → IsOver (product_of (exact x) (exact y)) (x.units *ℤ y.units) (2 ^ 120) (2 ^ 120)
unfolding product_of
product_over x y = record { some = lit< tt; factor = lit< tt; above = refl; below = refl }

pub frac_over : (f : Frac) → 0 < (fraction_of_frac f).den → IsOver (fraction_of_frac f) (in_units (fraction_of_frac f)) (fraction_of_frac f).den 1
frac_over f p = record { some = p; factor = lit< tt; above = lemma (in_units (fraction_of_frac f)); below = omega arith }
  where
    lemma : (x : ℤ) → x ≡ x *ℤ pos 1
    lemma x = omega (arith, ints)

-- ---- quotients

pub unlike_false : (p : Bool) → not (beq p false) ≡ p
unlike_false true = refl
unlike_false false = refl

pub unlike_true : (p : Bool) (x : ℕ) → signed_of (not (beq p true)) x ≡ neg_ℤ (signed_of p x)
unlike_true true x = sym (neg_ℤ-neg_ℤ (pos x))
unlike_true false x = refl
