use Rattle.std.proofs.Common.{◌≡◌, None}
use Rattle.poly_graph.specs.ProblemViews.{problem_of}
use Rattle.box_worker.specs.Attempts.{Continues}
use Rattle.box_worker.proofs.Conjuncts.{AreMarked}
use Rattle.box_worker.proofs.preconditions.mark_conjuncts.Given as goal

abbrev pub invariant-loop-j : goal.invariant-loop-j
invariant-loop-j l = record {
  continues : Continues l.initial.patch l.patch;
  open_end : l.patch.kept.end ≡ None;
  marked : AreMarked (problem_of l.initial.patch.problem) l.patch.kept.reached l.j;
}
