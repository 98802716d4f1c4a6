use Rattle.root_rewriting.proofs.Numbered.{InNumbers}
use Rattle.root_rewriting.proofs.spelling.numbers.Given as goal

abbrev pub invariant-loop-left : goal.invariant-loop-left
invariant-loop-left l = InNumbers l.classes l.table l.numbers.items l.left

abbrev pub decreases-loop-left : goal.decreases-loop-left
decreases-loop-left l = l.left
