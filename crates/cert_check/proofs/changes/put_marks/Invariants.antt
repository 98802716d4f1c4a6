use Rattle.std.proofs.Common.{◌≡◌, drop}
use Rattle.poly_graph.specs.MarkViews.{mark_of}
use Rattle.cert_check.specs.Changed.{placed}
use Rattle.cert_check.proofs.changes.put_marks.Given as goal

abbrev pub invariant-loop-change : goal.invariant-loop-change
invariant-loop-change l = placed mark_of l.changes l.initial.lits ≡ placed mark_of (drop l.change-index l.changes) l.lits
