use Rattle.std.proofs.Common.{◌≡◌, map}
use Rattle.square_model.specs.Polynomial.{product_given, polynomial_product}
use Rattle.squares.specs.Views.{term_of, terms_of}
use Rattle.squares.proofs.polynomial.Polynomial.product.Given as goal

-- what is left to multiply makes the same product
abbrev pub invariant-loop-monomial : goal.invariant-loop-monomial
invariant-loop-monomial l = product_given (map term_of l.monomial-iterator) (terms_of l.second) (terms_of l.product) ≡ polynomial_product (terms_of l.first) (terms_of l.second)
