use Rattle.std.proofs.Common.{◌≡◌, ◌≤◌}
use Rattle.combine.specs.Parts.{needed_below}
use Rattle.combine.proofs.room.variables.Given as goal

abbrev pub invariant-loop-k : goal.invariant-loop-k
invariant-loop-k l = (l.count ≡ needed_below l.graph l.k) × (l.count ≤ l.k)
