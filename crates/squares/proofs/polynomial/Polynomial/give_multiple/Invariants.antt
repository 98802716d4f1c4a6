use Rattle.std.proofs.Common.{◌≡◌, map}
use Rattle.ival.specs.Views.{interval_of}
use Rattle.square_model.specs.Polynomial.{multiple_given}
use Rattle.squares.specs.Views.{term_of, terms_of}
use Rattle.squares.proofs.polynomial.Polynomial.give_multiple.Given as goal

-- what is left to give makes the same
abbrev pub invariant-loop-other : goal.invariant-loop-other
invariant-loop-other l = multiple_given l.monomial (interval_of l.coefficient) (map term_of l.other-iterator) (terms_of l.self) ≡ multiple_given l.monomial (interval_of l.coefficient) (terms_of l.factor) (terms_of l.fn.self)
