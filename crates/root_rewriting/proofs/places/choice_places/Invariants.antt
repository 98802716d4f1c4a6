use Rattle.std.proofs.Common.{◌-◌, length}
use Rattle.script_roots.specs.Fresh.{choice_in_root}
use Rattle.root_rewriting.specs.Nodes.{trees_in}
use Rattle.root_rewriting.specs.Places.{ArePlaces}
use Rattle.root_rewriting.proofs.places.choice_places.Given as goal

abbrev pub invariant-loop-places : goal.invariant-loop-places
invariant-loop-places l = ArePlaces choice_in_root (trees_in l.trees) l.places.items

abbrev pub decreases-loop-places : goal.decreases-loop-places
decreases-loop-places l = length l.trees - length l.places.items
