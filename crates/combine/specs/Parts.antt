-- The expansion that the code gathers, and what it has measured of its parts.
use Rattle.std.specs.Prelude.{◌≡◌, ℕ, zero, suc, ◌+◌, ◌≤◌, List, [], ◌∷◌, map, drop, Option, Some, None, length, slice_get}
use Rattle.poly_graph.specs.Term.{Node, variable_node}
use Rattle.interval_model.specs.Interval.{Interval}
use Rattle.interval_model.specs.Space.{Space, axis_interval}
use Rattle.cover_model.specs.Combination as model
use Rattle.cover_model.specs.Combination.{Expansion, apart_range, part_range, parts_range}
use Rattle.ival.specs.Views.{interval_of}
use Rattle.ival.specs.Options.{option_of}
use Rattle.combine.specs.declared.part.Part.{Part}
use Rattle.combine.specs.declared.gathered.Gathered.{Gathered}

abbrev pub part_of : Part → model.Part
part_of x = record { axis = x.axis; linear = Some (interval_of x.linear); square = option_of x.square }

abbrev pub expansion_with : List model.Part → Interval → Expansion
expansion_with parts rest = record { parts = parts; rest = rest }

-- the parts from the first one on
abbrev pub parts_in : Gathered → List Part
parts_in g = drop g.first g.parts.items

abbrev pub expansion_of : Gathered → Expansion
expansion_of g = expansion_with (map part_of (parts_in g)) (interval_of g.rest)

-- what is kept of a part, where the parts after it are these
pub record IsPart (space centre : Space) (x : Part) (later : List Part) : Type 0 where
  pub own : interval_of x.own ≡ axis_interval space x.axis
  pub apart : interval_of x.apart ≡ apart_range space centre x.axis
  pub range : interval_of x.range ≡ part_range space centre (part_of x)
  pub after : interval_of x.after ≡ parts_range space centre (map part_of later)

abbrev pub AreParts : Space → Space → List Part → Type 0
AreParts space centre [] = Unit {0}
AreParts space centre (x ∷ xs) = IsPart space centre x xs × AreParts space centre xs

pub record IsMeasured (space centre : Space) (g : Gathered) : Type 0 where
  pub within : g.first ≤ length g.parts.items
  pub parts : AreParts space centre (parts_in g)
  pub sum : interval_of g.sum ≡ parts_range space centre (map part_of (parts_in g))

-- the room that a node's part needs
abbrev pub needed_by : Node → ℕ
needed_by (variable_node axis) = 1
needed_by n = 0

abbrev pub needed_at : Option Node → ℕ
needed_at None = 0
needed_at (Some n) = needed_by n

-- the room that the parts of the nodes below this number need
abbrev pub needed_below : List Node → ℕ → ℕ
needed_below nodes zero = 0
needed_below nodes (suc k) = needed_below nodes k + needed_at (slice_get nodes k)

-- the parts' axes have in this space what was left to them
abbrev pub AreKept : Space → List Part → Type 0
AreKept space [] = Unit {0}
AreKept space (x ∷ xs) = (axis_interval space x.axis ≡ interval_of x.own) × AreKept space xs
