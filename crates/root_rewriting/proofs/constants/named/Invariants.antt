use Rattle.root_rewriting.specs.Nodes.{trees_in}
use Rattle.root_rewriting.proofs.Tables.{NamedSoFar}
use Rattle.root_rewriting.proofs.constants.named.Given as goal

abbrev pub invariant-loop-at : goal.invariant-loop-at
invariant-loop-at l = NamedSoFar (trees_in l.trees) l.order l.at-index l.counts.roots l.counts.quotients l.table.items
