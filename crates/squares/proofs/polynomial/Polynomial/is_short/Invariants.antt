use Rattle.std.proofs.Common.{◌≡◌, map}
use Rattle.square_model.specs.Polynomial.{is_short}
use Rattle.squares.specs.Views.{term_of, terms_of}
use Rattle.squares.proofs.polynomial.Polynomial.is_short.Given as goal

-- what is left decides
abbrev pub invariant-loop-monomial : goal.invariant-loop-monomial
invariant-loop-monomial l = is_short (map term_of l.monomial-iterator) ≡ is_short (terms_of l.self)
