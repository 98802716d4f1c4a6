use Rattle.std.proofs.Common.{length}
use Rattle.value_build.specs.Arithmetic.{IsPowering}
use Rattle.value_build.proofs.arithmetic.powers.Given as goal

abbrev pub invariant-loop-next : goal.invariant-loop-next
invariant-loop-next l = IsPowering l.fn.builder l.builder l.nodes l.factor l.from l.left l.made.items

abbrev pub decreases-loop-next : goal.decreases-loop-next
decreases-loop-next l = length l.left
