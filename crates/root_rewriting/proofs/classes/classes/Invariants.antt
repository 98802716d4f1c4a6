use Rattle.std.proofs.Common.{◌-◌, length}
use Rattle.root_rewriting.specs.Classes.{AreClasses}
use Rattle.root_rewriting.specs.Keys.{AreKeyed}
use Rattle.root_rewriting.specs.Nodes.{trees_in}
use Rattle.root_rewriting.proofs.classes.classes.Given as goal

abbrev pub invariant-loop-alloc : goal.invariant-loop-alloc
invariant-loop-alloc l = AreClasses (trees_in l.trees) l.classes.items × AreKeyed (trees_in l.trees) l.classes.items l.of_keys

abbrev pub decreases-loop-alloc : goal.decreases-loop-alloc
decreases-loop-alloc l = length l.trees - length l.classes.items
