use Rattle.std.proofs.Common.{◌≡◌, map}
use Rattle.square_model.specs.Polynomial.{polynomial_negated, polynomial_sum}
use Rattle.squares.specs.Views.{term_of, terms_of}
use Rattle.squares.proofs.polynomial.Polynomial.subtract.Given as goal

-- what is left to give makes the same sum
abbrev pub invariant-loop-monomial : goal.invariant-loop-monomial
invariant-loop-monomial l = polynomial_sum (terms_of l.self) (polynomial_negated (map term_of l.monomial-iterator)) ≡ polynomial_sum (terms_of l.fn.self) (polynomial_negated (terms_of l.less))
