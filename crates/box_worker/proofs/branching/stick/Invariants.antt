use Rattle.std.proofs.Common.{◌≡◌, true}
use Rattle.poly_graph.specs.ProblemViews.{problem_of}
use Rattle.cover_model.specs.Honest.{none_below}
use Rattle.cover_data.specs.Margins.{loosenings_of}
use Rattle.box_worker.proofs.branching.stick.Given as goal

abbrev pub invariant-loop-j : goal.invariant-loop-j
invariant-loop-j l = record {
  same : l.patch ≡ l.initial.patch;
  below : none_below (problem_of l.initial.patch.problem) (loosenings_of l.initial.patch.margins) l.initial.patch.kept.reached l.j ≡ true;
}
