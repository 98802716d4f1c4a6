use Rattle.std.proofs.Common.{◌≡◌, map, take}
use Rattle.ival.specs.Views.{interval_of}
use Rattle.root_rewriting.specs.Enclosures.{interval_at}
use Rattle.root_rewriting.proofs.range.arena.ranges_at.Given as goal

abbrev pub invariant-loop-part : goal.invariant-loop-part
invariant-loop-part l = map interval_of l.ranges.items ≡ map (interval_at (map interval_of l.done)) (take l.part-index l.parts)
