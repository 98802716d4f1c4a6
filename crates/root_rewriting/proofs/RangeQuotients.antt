-- Quotients by an interval without 0 are what a product leaves to an operand.
use Rattle.std.proofs.Common.{◌≡◌, Bool, true, false, cond, refl, ap, sym, ◌∙◌}
use Rattle.dyadic.specs.End.{end_quotient}
use Rattle.script_roots.specs.Ranges.{avoids_nought, quotient_range}
use Rattle.interval_model.specs.Interval.{Interval, nothing, between, everything, inverse_product, misses_nought, nought_inside, of_four}

pub inverse_is_quotient : (i j : Interval) → avoids_nought j ≡ true → inverse_product i j ≡ of_four end_quotient i j
inverse_is_quotient nothing j e = refl
inverse_is_quotient (between l h) nothing e = refl
inverse_is_quotient (between l h) (between a b) e =
    ap (λ (t : Bool). cond t (of_four end_quotient (between l h) (between a b)) (cond (misses_nought (between l h)) (nought_inside (between l h) a b) everything)) e

pub quotient_taken : (i j : Interval) → avoids_nought j ≡ true → quotient_range i j ≡ inverse_product i j
quotient_taken i j e = ap (λ (t : Bool). cond t (of_four end_quotient i j) everything) e ∙ sym (inverse_is_quotient i j e)

pub quotient_none : (i j : Interval) → avoids_nought j ≡ false → quotient_range i j ≡ everything
quotient_none i j e = ap (λ (t : Bool). cond t (of_four end_quotient i j) everything) e
