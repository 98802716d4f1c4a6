-- What narrowed nodes leave to their children, one after the other.
use Rattle.std.specs.Prelude.{◌≡◌, ◌≢◌, ◌⊎◌, ℕ, List, cond, Option, Some, None}
use Rattle.interval_model.specs.Interval.{Interval, nothing, met}
use Rattle.poly_graph.specs.Term.{Node, has_child}
use Rattle.cover_model.specs.Narrowed.{left_by}
use Rattle.cover_model.specs.NodeEnclosure.{row}

-- what is left to s, of which this was left before, with one more interval; at first its enclosure is left
abbrev pub left_more : List Interval → ℕ → Interval → Option Interval → Option Interval
left_more es s i None = Some (met (row es s) i)
left_more es s i (Some before) = Some (met before i)

-- the same by a node whose narrowed interval is n, if s is its child
abbrev pub left_more_by : List Interval → ℕ → Node → Interval → Option Interval → Option Interval
left_more_by es s p n o = cond (has_child s p) (left_more es s (left_by es s p n) o) o

-- what is left to s where all of its enclosure is left to it: what was left before
abbrev pub left_all : List Interval → ℕ → Option Interval → Option Interval
left_all es s None = Some (row es s)
left_all es s (Some before) = Some before

-- the same by a node, if s is its child
abbrev pub left_all_by : List Interval → ℕ → Node → Option Interval → Option Interval
left_all_by es s p o = cond (has_child s p) (left_all es s o) o

-- node n, which is p and has this narrowed interval, has left to s what it leaves; or all, where the interval is its enclosure, and not empty
abbrev pub IsLeftBy : List Interval → ℕ → ℕ → Node → Interval → Option Interval → Option Interval → Type 0
IsLeftBy es n s p i old new = (new ≡ left_more_by es s p i old) ⊎ ((i ≡ row es n) × (i ≢ nothing) × (new ≡ left_all_by es s p old))
