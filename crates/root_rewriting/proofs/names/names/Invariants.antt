use Rattle.std.proofs.Common.{◌≡◌, map, take}
use Rattle.root_rewriting.specs.Spelling.{fresh_name}
use Rattle.root_rewriting.proofs.names.names.Given as goal

abbrev pub invariant-loop-fresh : goal.invariant-loop-fresh
invariant-loop-fresh l = l.names.items ≡ map fresh_name (take l.fresh-index l.table)
