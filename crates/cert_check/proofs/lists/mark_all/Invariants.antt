use Rattle.std.proofs.Common.{◌≡◌, length, drop}
use Rattle.poly_graph.specs.MarkViews.{mark_of}
use Rattle.cert_check.specs.Lists.{marked}
use Rattle.cert_check.proofs.lists.mark_all.Given as goal

abbrev pub invariant-loop-j : goal.invariant-loop-j
invariant-loop-j l = (length l.lits ≡ length l.initial.lits) × (marked l.initial.lits l.js (mark_of l.mark) ≡ marked l.lits (drop l.j-index l.js) (mark_of l.mark))
