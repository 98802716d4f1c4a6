use Rattle.std.proofs.Common.{◌≡◌, ◌++◌, length, map}
use Rattle.value_build.specs.Operators.{node_number}
use Rattle.value_build.proofs.operate.node_numbers.Given as goal

abbrev pub invariant-loop-value : goal.invariant-loop-value
invariant-loop-value l = l.made.items ++ map node_number l.left ≡ map node_number l.values

abbrev pub decreases-loop-value : goal.decreases-loop-value
decreases-loop-value l = length l.left
