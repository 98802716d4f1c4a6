-- The middle of two numbers lies on the grid and between them.
use Rattle.std.proofs.Common.{arith, IsTrue, pos, ◌+ℤ◌, ◌*ℤ◌, ◌≤ℤ◌, lit<}
use Rattle.std.proofs.lemmas.Int.{ints}
use Rattle.dyadic.specs.Fraction.{Fraction, IsFraction, at_most, whole, sum_of, quotient_of}
use Rattle.dyadic.specs.Rounding.{Dyadic, exact, IsOnGrid, Ext, below_all, finite, above_all, IsDown, down, dyadic_or, mid}
use Rattle.dyadic.proofs.Rounds.{at_most_from, exact_read, down_is, at_most_trans}

abbrev pub half_sum : Dyadic → Dyadic → Fraction
half_sum l h = quotient_of (sum_of (exact l) (exact h)) (whole (pos 2))

pub half_sum_is_fraction : (l h : Dyadic) → IsFraction (half_sum l h)
unfolding quotient_of sum_of
half_sum_is_fraction l h = lit< tt

-- halves in units
pub half_at_least : (l h r : Dyadic) → (r.units *ℤ pos 2) ≤ℤ (l.units +ℤ h.units) → IsTrue (at_most (exact r) (half_sum l h))
unfolding quotient_of sum_of
half_at_least l h r k = at_most_from (exact r) (half_sum l h) (omega (arith, ints, k))

pub half_at_most : (l h r : Dyadic) → (l.units +ℤ h.units) ≤ℤ (r.units *ℤ pos 2) → IsTrue (at_most (half_sum l h) (exact r))
unfolding quotient_of sum_of
half_at_most l h r k = at_most_from (half_sum l h) (exact r) (omega (arith, ints, k))

pub record IsMiddle (l h m : Dyadic) : Type 0 where
  pub on_grid : IsOnGrid m
  pub from_low : IsTrue (at_most (exact l) (exact m))
  pub to_high : IsTrue (at_most (exact m) (exact h))

middle_of : (l h : Dyadic) (e : Ext) → IsOnGrid l → l.units ≤ℤ h.units → IsDown (half_sum l h) e → IsMiddle l h (dyadic_or l e)
middle_of l h (finite m) g k d = record {
  on_grid = d.0;
  from_low = d.2 l g (half_at_least l h l (omega (arith, ints, k)));
  to_high = at_most_trans (exact m) (half_sum l h) (exact h) (half_sum_is_fraction l h) d.1 (half_at_most l h h (omega (arith, ints, k)));
}
middle_of l h below_all g k d = absurd (d l g (half_at_least l h l (omega (arith, ints, k))))
middle_of l h above_all g k d = absurd d

pub mid_between : (l h : Dyadic) → IsOnGrid l → IsTrue (at_most (exact l) (exact h)) → IsMiddle l h (mid l h)
mid_between l h g k = middle_of l h (down (half_sum l h)) g (exact_read l h k) (down_is (half_sum l h) (half_sum_is_fraction l h))

-- whichever is the greater
pub mid_on_grid : (l h : Dyadic) → IsOnGrid l → IsOnGrid (mid l h)
mid_on_grid l h g = by (down (half_sum l h)) (down_is (half_sum l h) (half_sum_is_fraction l h))
  where
    by : (e : Ext) → IsDown (half_sum l h) e → IsOnGrid (dyadic_or l e)
    by (finite m) d = d.0
    by below_all d = g
    by above_all d = g
