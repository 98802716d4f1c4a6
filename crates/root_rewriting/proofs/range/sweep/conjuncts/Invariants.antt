use Rattle.std.proofs.Common.{◌≡◌, length}
use Rattle.root_rewriting.specs.Nodes.{trees_in}
use Rattle.root_rewriting.specs.Sweep.{assertion_places}
use Rattle.root_rewriting.proofs.Marks.{AreSwept}
use Rattle.root_rewriting.proofs.range.sweep.conjuncts.Given as goal

abbrev pub invariant-loop-k : goal.invariant-loop-k
invariant-loop-k l = (length l.marks.items ≡ length l.trees) × AreSwept (trees_in l.trees) (assertion_places l.asserted.assertions.items) l.k l.marks.items
