-- The parts of an expansion, read off the coefficients of the nodes, and what is left to each.
use Rattle.std.specs.Prelude.{ℕ, zero, suc, List, [], ◌∷◌, drop, Option, Some, None, slice_get}
use Rattle.interval_model.specs.Interval.{Interval, interval_sum}
use Rattle.interval_model.specs.Space.{Space}
use Rattle.poly_graph.specs.Term.{Node, variable_node}
use Rattle.cover_model.specs.Combination.{Adjoints, Part, Expansion, part_range, parts_range, left_to}
use Rattle.ival.specs.Views.{interval_of}
use Rattle.ival.specs.Options.{option_at, option_of}
use Rattle.ival.specs.SpaceViews.{space_of}
use Rattle.ival.specs.declared.space.Space as code
use Rattle.plain_eval.specs.declared.part.Part as kept
use Rattle.plain_eval.specs.declared.room.Coefficients.{Coefficients}

-- a graph with coefficients of its nodes, over a space and its centre
pub record Setting : Type 0 where
  pub nodes : List Node
  pub linear : Adjoints
  pub square : Adjoints
  pub space : Space
  pub centre : Space

abbrev pub setting : List Node → Coefficients → code.Space → code.Space → Setting
setting nodes c space centre = record { nodes = nodes; linear = option_at c.linear; square = option_at c.square; space = space_of space; centre = space_of centre }

-- the part of a node, if it is a variable with a coefficient
abbrev pub part_at : Node → Option Interval → Option Interval → Option Part
part_at (variable_node axis) None None = None
part_at (variable_node axis) o q = Some (record { axis = axis; linear = o; square = q })
part_at n o q = None

abbrev pub part_in : Option Node → Option Interval → Option Interval → Option Part
part_in None o q = None
part_in (Some n) o q = part_at n o q

abbrev pub part_of_node : List Node → Adjoints → Adjoints → ℕ → Option Part
part_of_node nodes os qs k = part_in (slice_get nodes k) (os k) (qs k)

abbrev pub before_parts : Option Part → List Part → List Part
before_parts None parts = parts
before_parts (Some x) parts = x ∷ parts

-- the parts of these nodes, the first of which has number k
abbrev pub parts_from : Adjoints → Adjoints → ℕ → List Node → List Part
parts_from os qs k [] = []
parts_from os qs k (n ∷ nodes) = before_parts (part_at n (os k) (qs k)) (parts_from os qs (suc k) nodes)

-- the parts of the nodes from number k on
abbrev pub parts_on : List Node → Adjoints → Adjoints → ℕ → List Part
parts_on nodes os qs k = parts_from os qs k (drop k nodes)

abbrev pub expansion_on : List Node → Adjoints → Adjoints → ℕ → Interval → Expansion
expansion_on nodes os qs k rest = record { parts = parts_on nodes os qs k; rest = rest }

-- ---- ranges

abbrev pub range_on : Setting → ℕ → Interval
range_on s k = parts_range s.space s.centre (parts_on s.nodes s.linear s.square k)

-- with the part's range before a sum, or behind one
abbrev pub before_sum : Space → Space → Option Part → Interval → Interval
before_sum space centre None i = i
before_sum space centre (Some x) i = interval_sum (part_range space centre x) i

abbrev pub behind_sum : Space → Space → Option Part → Interval → Interval
behind_sum space centre None i = i
behind_sum space centre (Some x) i = interval_sum i (part_range space centre x)

-- the same, where the part has this range
abbrev pub behind_range : Option Part → Interval → Interval → Interval
behind_range None r i = i
behind_range (Some x) r i = interval_sum i r

abbrev pub part_in_setting : Setting → ℕ → Option Part
part_in_setting s k = part_of_node s.nodes s.linear s.square k

-- the range of the rest and of the parts of the nodes below number k
abbrev pub range_before : Setting → Interval → ℕ → Interval
range_before s rest zero = rest
range_before s rest (suc k) = behind_sum s.space s.centre (part_in_setting s k) (range_before s rest k)

-- ---- what is left

abbrev pub left_to_part : Space → Space → Interval → Interval → Interval → Option Part → Option Interval
left_to_part space centre allowed before after None = None
left_to_part space centre allowed before after (Some x) = Some (left_to space centre allowed (interval_sum before after) x)

-- of node k, where the rest and the parts may have this range in all
abbrev pub left_at : Setting → Interval → Interval → ℕ → Option Interval
left_at s allowed rest k = left_to_part s.space s.centre allowed (range_before s rest k) (range_on s (suc k)) (part_in_setting s k)

-- ---- parts in code

abbrev pub part_of : kept.Part → Part
part_of x = record { axis = x.axis; linear = Some (interval_of x.linear); square = option_of x.square }

abbrev pub option_part : Option kept.Part → Option Part
option_part None = None
option_part (Some x) = Some (part_of x)
