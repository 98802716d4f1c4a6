-- Where the value of an atom's term lies at a point where the atom does not hold.
use Rattle.dyadic.specs.Rounding.{Dyadic, below_all, finite, above_all}
use Rattle.dyadic.specs.End.{negated_dyadic}
use Rattle.interval_model.specs.Interval.{Interval, between, everything}
use Rattle.poly_graph.specs.Term.{Kind, le, ge, eq}

-- the off-range of a kind, loosened by m: all values outside the range, with its finite end; of eq, whose
-- range has values outside on either side, every value
abbrev pub off_range : Dyadic → Kind → Interval
off_range m le = between (finite m) above_all
off_range m ge = between below_all (finite (negated_dyadic m))
off_range m eq = everything
