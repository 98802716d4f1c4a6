use Rattle.std.proofs.Common.{◌≡◌, length, map, take}
use Rattle.ival.specs.Views.{interval_of}
use Rattle.root_rewriting.specs.Nodes.{trees_in}
use Rattle.script_roots.specs.Ranges.{Ranges, enclosed}
use Rattle.root_rewriting.specs.Enclosures.{KnowsRanges}
use Rattle.root_rewriting.proofs.range.arena.enclosed.Given as goal

abbrev pub invariant-loop-k : goal.invariant-loop-k
invariant-loop-k l = (length l.done.items ≡ l.k) × ((R : Ranges) → KnowsRanges l.ranges R → map interval_of l.done.items ≡ take l.k (map (enclosed R) (trees_in l.trees)))
