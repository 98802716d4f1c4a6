use Rattle.std.proofs.Common.{◌≡◌, map, drop}
use Rattle.std.specs.List.{list_any}
use Rattle.cover_book.specs.Verdict.{is_stuck}
use Rattle.cover_book.specs.Views.{node_of}
use Rattle.cover_book.proofs.book.any_stuck.Given as goal

abbrev pub invariant-loop-node : goal.invariant-loop-node
invariant-loop-node l = list_any is_stuck (map node_of (drop l.node-index l.nodes)) ≡ list_any is_stuck (map node_of l.nodes)
