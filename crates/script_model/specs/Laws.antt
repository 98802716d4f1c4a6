-- The law that ties the loosened meaning of a script to that of SMT-LIB.
use Rattle.std.specs.Prelude.{List, IsTrue}
use Rattle.dyadic.specs.Fraction.{Fraction, zero_fraction, at_most}
use Rattle.dyadic.specs.Point.{Sort, Coordinate, IsPoint}
use Rattle.script_model.specs.Script.{Command, Satisfies}
use Rattle.script_model.specs.Exact.{SatisfiesExactly}

-- A point that satisfies a script as SMT-LIB has it satisfies the script loosened by any number that is not negative.
abbrev pub ExactIsLoosened : Type 0
ExactIsLoosened = (sorts : List Sort) (point : List Coordinate) → IsPoint sorts point → (m : Fraction) → IsTrue (at_most zero_fraction m) → (script : List Command) →
    SatisfiesExactly point script → Satisfies m point script
