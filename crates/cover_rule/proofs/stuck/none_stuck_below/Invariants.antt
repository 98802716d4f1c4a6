use Rattle.std.proofs.Common.{◌≡◌, ◌≤◌}
use Rattle.poly_graph.specs.ProblemViews.{problem_of}
use Rattle.cover_model.specs.Honest.{none_below}
use Rattle.cover_data.specs.Margins.{loosenings_of}
use Rattle.cover_rule.proofs.stuck.none_stuck_below.Given as goal

-- the atoms that are left decide
abbrev pub invariant-loop-i : goal.invariant-loop-i
invariant-loop-i l = record {
  below : l.i ≤ l.j;
  rest : none_below (problem_of l.problem) (loosenings_of l.margins) l.state l.j ≡ none_below (problem_of l.problem) (loosenings_of l.margins) l.state l.i;
}

abbrev pub decreases-loop-i : goal.decreases-loop-i
decreases-loop-i l = l.i
