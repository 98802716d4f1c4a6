-- Lower bounds of a goal by its enclosures.
use Rattle.std.specs.Prelude.{ℕ, Option, Some, None}
use Rattle.dyadic.specs.Rounding.{Dyadic, finite}
use Rattle.interval_model.specs.Interval.{Interval, between}
use Rattle.interval_model.specs.Space.{Space}
use Rattle.poly_graph.specs.Problem.{Problem}
use Rattle.cover_model.specs.State.{atom_enclosure, root_state}

-- the lower end of some values, where it is a number
abbrev pub low_of : Interval → Option Dyadic
low_of (between (finite d) h) = Some d
low_of values = None

-- over the space: that of the goal's enclosure, the goal being the term of atom g
abbrev pub low_at : Problem → ℕ → Space → Option Dyadic
low_at p g space = low_of (atom_enclosure p space g)

-- over the declared box
abbrev pub root_low : Problem → ℕ → Option Dyadic
root_low p g = low_at p g (root_state p).space
