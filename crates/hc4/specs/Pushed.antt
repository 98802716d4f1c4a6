-- What a node passes down to its children, and what then stands at them.
use Rattle.std.specs.Prelude.{◌≡◌, ◌⊎◌, ℕ, List, cond, Option, Some, None}
use Rattle.interval_model.specs.Interval.{Interval, met}
use Rattle.poly_graph.specs.Term.{Node, variable_node, has_child}
use Rattle.cover_model.specs.Narrowed.{left_by}
use Rattle.cover_model.specs.NodeEnclosure.{row}

-- one more interval met with what stands at s, which is the enclosure of s where nothing stands yet
abbrev pub pushed : List Interval → ℕ → Interval → Option Interval → Option Interval
pushed es s left None = Some (met (row es s) left)
pushed es s left (Some i) = Some (met i left)

-- the same by a node whose narrowed interval is n, if s is its child
abbrev pub pushed_by : List Interval → ℕ → Node → Interval → Option Interval → Option Interval
pushed_by es s p n o = cond (has_child s p) (pushed es s (left_by es s p n) o) o

-- what then stands at s below node n, whose narrowed interval is i: what is passed down is met with what stood there; or that stays, where i is the node's enclosure
abbrev pub IsPassed : List Interval → ℕ → ℕ → Node → Interval → Option Interval → Option Interval → Type 0
IsPassed es n s p i old new = (new ≡ pushed_by es s p i old) ⊎ ((i ≡ row es n) × (new ≡ old))

-- of a node that has passed it down, what is kept: the interval of a variable
abbrev pub kept_by : Node → Option Interval → Option Interval
kept_by (variable_node axis) o = o
kept_by _ o = None
