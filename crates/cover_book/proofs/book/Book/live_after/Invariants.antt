use Rattle.std.proofs.Common.{◌≡◌, map, drop}
use Rattle.cover_book.specs.Verdict.{first_live}
use Rattle.cover_book.specs.Views.{node_of}
use Rattle.cover_book.proofs.book.Book.live_after.Given as goal

abbrev pub invariant-loop-node : goal.invariant-loop-node
invariant-loop-node l = first_live l.node (map node_of (drop l.node l.self-inside.nodes.items)) ≡ first_live l.fn.from (map node_of (drop l.fn.from l.self-inside.nodes.items))
