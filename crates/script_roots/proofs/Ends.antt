-- That a value lies between the ends that a rewritten script gives to its constant.
use Rattle.std.proofs.Common.{IsTrue, []}
use Rattle.dyadic.specs.Fraction.{Fraction, zero_fraction, at_most}
use Rattle.interval_model.specs.Interval.{Interval, nothing, between}
use Rattle.script_model.specs.Sexp.{Place, Sexp}
use Rattle.script_model.specs.Reading.{meaning}
use Rattle.script_model.specs.Meaning.{fraction_of, loosened}
use Rattle.script_roots.specs.Tree.{Tree, root, quotient}
use Rattle.script_roots.specs.Ranges.{Ranges, enclosed, root_bound, quotient_range}
use Rattle.script_roots.specs.Rewritten.{low_at, high_at, whole_or_too_wide}

-- the value of an end as it is written
abbrev pub end_value : Sexp → Fraction
end_value e = fraction_of (meaning (loosened zero_fraction) [] e)

abbrev pub LiesBetween : Place → Fraction → Interval → Type 0
LiesBetween at q nothing = ⊥
LiesBetween at q (between l h) = IsTrue (at_most (end_value (low_at at l)) q) × IsTrue (at_most q (end_value (high_at at h)))

-- q is from 0 to the root's bound, or in the quotient's interval
abbrev pub EndsHold : Ranges → Fraction → Tree → Type 0
EndsHold ranges q (root at t) = IsTrue (at_most zero_fraction q) × IsTrue (at_most q (end_value (whole_or_too_wide at (root_bound (enclosed ranges t)))))
EndsHold ranges q (quotient at t d) = LiesBetween at q (quotient_range (enclosed ranges t) (enclosed ranges d))
EndsHold ranges q t = Unit {0}
