use Rattle.std.proofs.Common.{take}
use Rattle.root_rewriting.specs.Bounds.{AreTightest}
use Rattle.root_rewriting.specs.Ends.{ends_of_all}
use Rattle.root_rewriting.proofs.range.ranges.tightest.Given as goal

abbrev pub invariant-loop-end : goal.invariant-loop-end
invariant-loop-end l = AreTightest (ends_of_all (take l.end-index l.ends)) l.axes l.bounds.items
