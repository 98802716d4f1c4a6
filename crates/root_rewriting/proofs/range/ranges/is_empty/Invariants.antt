use Rattle.std.proofs.Common.{◌≡◌, List, length, map, take}
use Rattle.script_roots.specs.TreeBounds.{EndBound, is_empty_from, range_of}
use Rattle.root_rewriting.specs.Bounds.{AreTightest}
use Rattle.root_rewriting.specs.Constants.{constant_of}
use Rattle.root_rewriting.proofs.range.ranges.is_empty.Given as goal

abbrev pub invariant-loop-axis : goal.invariant-loop-axis
invariant-loop-axis l = (es : List EndBound) → AreTightest es (length l.constants) l.bounds →
    l.empty ≡ is_empty_from (range_of l.bound es) 0 (map constant_of (take l.axis l.constants))
