use Rattle.std.proofs.Common.{◌≡◌, ◌≤◌, ◌++◌, drop, length}
use Rattle.root_rewriting.specs.Walk.{enters}
use Rattle.root_rewriting.proofs.walk.push_all.Given as goal

abbrev pub invariant-loop-left : goal.invariant-loop-left
invariant-loop-left l = (l.left ≤ length l.parts) × (l.stack.items ≡ l.initial.stack.items ++ enters (drop l.left l.parts))

abbrev pub decreases-loop-left : goal.decreases-loop-left
decreases-loop-left l = l.left
