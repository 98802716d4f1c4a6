use Rattle.std.proofs.Common.{◌≡◌, map}
use Rattle.poly_graph.specs.MarkViews.{mark_of}
use Rattle.cert_check.specs.Changed.{placed}
use Rattle.cert_check.proofs.Placed.{joined}
use Rattle.cert_check.proofs.changes.marks_apart.Given as goal

-- the changes so far make the marks so far
abbrev pub invariant-loop-j : goal.invariant-loop-j
invariant-loop-j l = placed mark_of l.apart.items (map mark_of l.from) ≡ joined l.j (map mark_of l.from) (map mark_of l.to)
