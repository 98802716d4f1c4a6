use Rattle.std.proofs.Common.{ℕ, ◌≤◌, ◌≡◌, map}
use Rattle.root_rewriting.specs.TreeNames.{top_of, top_place}
use Rattle.root_rewriting.proofs.NameTables.{places_left}
use Rattle.root_rewriting.proofs.unfold.top.TopTable.known.Given as goal

abbrev pub invariant-loop-found : goal.invariant-loop-found
invariant-loop-found l = (n : ℕ) × (l.visible ≤ n) × (l.found ≡ top_place l.name (map top_of l.self-inside.entries.items) n)

abbrev pub decreases-loop-found : goal.decreases-loop-found
decreases-loop-found l = places_left l.found
