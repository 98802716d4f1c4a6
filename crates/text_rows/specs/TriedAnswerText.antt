-- The axes of problems that are told in tests.
use Rattle.std.specs.Prelude.{pos}
use Rattle.dyadic.specs.Fraction.{Fraction}
use Rattle.poly_graph.specs.Problem.{Declared, real_between}

abbrev pub nought : Fraction
nought = record { num = pos 0; den = 1 }

abbrev pub one : Fraction
one = record { num = pos 1; den = 1 }

abbrev pub from_nought_to_one : Declared
from_nought_to_one = real_between nought one
