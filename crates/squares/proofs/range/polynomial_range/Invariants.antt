use Rattle.std.proofs.Common.{◌≡◌, map}
use Rattle.ival.specs.Views.{interval_of}
use Rattle.square_model.specs.Range.{polynomial_range, range_with}
use Rattle.squares.specs.Views.{apart_over, term_of, terms_of}
use Rattle.squares.proofs.range.polynomial_range.Given as goal

-- what is left to add makes the same range
abbrev pub invariant-loop-monomial : goal.invariant-loop-monomial
invariant-loop-monomial l = range_with (apart_over l.space l.centre) (interval_of l.range) (map term_of l.monomial-iterator) ≡ polynomial_range (apart_over l.space l.centre) (terms_of l.polynomial)
