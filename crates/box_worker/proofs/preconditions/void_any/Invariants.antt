use Rattle.std.proofs.Common.{◌≡◌, ℕ, ◌<◌, true}
use Rattle.poly_graph.specs.ProblemViews.{problem_of}
use Rattle.poly_graph.specs.Marks.{mark_at}
use Rattle.cover_data.specs.Margins.{loosenings_of}
use Rattle.box_worker.proofs.Conjuncts.{leaves}
use Rattle.box_worker.proofs.preconditions.void_any.Given as goal

abbrev pub invariant-loop-j : goal.invariant-loop-j
invariant-loop-j l = record {
  same : l.patch ≡ l.initial.patch;
  left : (i : ℕ) → i < l.j → leaves (problem_of l.initial.patch.problem) (loosenings_of l.initial.patch.margins) l.initial.patch.kept.reached i (mark_at l.initial.patch.kept.reached.marks i) ≡ true;
}
