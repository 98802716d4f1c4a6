-- How many steps the operations on polynomials take.
use Rattle.std.specs.Prelude.{ℕ, ◌+◌, ◌*◌, length}
use Rattle.square_model.specs.Polynomial.{Polynomial, polynomial_negated, polynomial_sum, polynomial_product}

-- a polynomial and the steps that it took
pub record Counted : Type 0 where
  pub polynomial : Polynomial
  pub steps : ℕ

-- written down, which takes none
abbrev pub counted : Polynomial → Counted
counted p = record { polynomial = p; steps = 0 }

abbrev pub sum_steps : Polynomial → Polynomial → ℕ
sum_steps p q = length p + length q

abbrev pub product_steps : Polynomial → Polynomial → ℕ
product_steps p q = length p * length q

abbrev pub counted_negated : Counted → Counted
counted_negated a = record { polynomial = polynomial_negated a.polynomial; steps = a.steps }

abbrev pub counted_sum : Counted → Counted → Counted
counted_sum a b = record { polynomial = polynomial_sum a.polynomial b.polynomial; steps = (a.steps + b.steps) + sum_steps a.polynomial b.polynomial }

abbrev pub counted_product : Counted → Counted → Counted
counted_product a b = record { polynomial = polynomial_product a.polynomial b.polynomial; steps = (a.steps + b.steps) + product_steps a.polynomial b.polynomial }
