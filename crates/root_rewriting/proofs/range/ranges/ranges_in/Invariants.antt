use Rattle.std.proofs.Common.{[], List, length, map, take}
use Rattle.script_roots.specs.TreeBounds.{EndBound, in_box, range_of, ranges_from}
use Rattle.root_rewriting.specs.Bounds.{AreTightest}
use Rattle.root_rewriting.specs.Constants.{constant_of}
use Rattle.root_rewriting.specs.Enclosures.{KnowsRanges}
use Rattle.root_rewriting.proofs.range.ranges.ranges_in.Given as goal

abbrev pub invariant-loop-axis : goal.invariant-loop-axis
invariant-loop-axis l = (es : List EndBound) → AreTightest es (length l.constants) l.bounds →
    KnowsRanges l.ranges (ranges_from (in_box l.empty (range_of l.bound es)) 0 [] (map constant_of (take l.axis l.constants)))
