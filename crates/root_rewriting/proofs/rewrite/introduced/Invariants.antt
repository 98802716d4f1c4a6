use Rattle.std.proofs.Common.{◌≡◌, map, take}
use Rattle.root_rewriting.specs.Nodes.{trees_in}
use Rattle.script_roots.specs.Rewritten.{declaration}
use Rattle.root_rewriting.specs.Rewriting.{introduced_command}
use Rattle.root_rewriting.specs.Table.{entry_of}
use Rattle.root_rewriting.proofs.rewrite.introduced.Given as goal

abbrev pub invariant-loop-fresh : goal.invariant-loop-fresh
invariant-loop-fresh l = map introduced_command l.introduced.items ≡ map declaration (map (entry_of (trees_in l.trees)) (take l.fresh-index l.table))
