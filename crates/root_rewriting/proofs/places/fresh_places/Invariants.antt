use Rattle.std.proofs.Common.{◌-◌, length}
use Rattle.script_roots.specs.Fresh.{fresh_place}
use Rattle.root_rewriting.specs.Nodes.{trees_in}
use Rattle.root_rewriting.specs.Places.{ArePlaces}
use Rattle.root_rewriting.proofs.places.fresh_places.Given as goal

abbrev pub invariant-loop-places : goal.invariant-loop-places
invariant-loop-places l = ArePlaces fresh_place (trees_in l.trees) l.places.items

abbrev pub decreases-loop-places : goal.decreases-loop-places
decreases-loop-places l = length l.trees - length l.places.items
