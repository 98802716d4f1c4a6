-- Small steps on problems.
use Rattle.std.proofs.Common.{◌^◌, inr, List, [], IsTrue, Option, Some, None, pos}
use Rattle.std.specs.Int.{IsGcd}
use Rattle.std.proofs.lemmas.Nat.Gcd.{dvd_refl}
use Rattle.dyadic.specs.Fraction.{Fraction, IsFraction, whole, at_most}
use Rattle.script_model.specs.Script.{Command}
use Rattle.poly_graph.specs.Problem.{IsBound, size_of}

abbrev pub or_none : Option (List Command) → List Command
or_none (Some script) = script
or_none None = []

pub small_bound : (q : Fraction) → IsFraction q → IsTrue (at_most (size_of q) (whole (pos (2 ^ 32)))) → IsBound q
small_bound q f h = (f, inr h)

pub apart_from_one : IsGcd 1 1 1
apart_from_one = (dvd_refl 1, dvd_refl 1, λ d h k. k)
