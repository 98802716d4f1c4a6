use Rattle.std.proofs.Common.{◌≡◌, drop}
use Rattle.poly_graph.specs.ProblemViews.{problem_of}
use Rattle.cover_model.specs.Honest.{none_empty, none_empty_from}
use Rattle.cover_data.specs.Margins.{loosenings_of}
use Rattle.cover_rule.specs.Serves.{IsReady}
use Rattle.cover_rule.proofs.narrowing.none_leaves_nothing.Given as goal

-- the atoms that are left decide
abbrev pub invariant-loop-j : goal.invariant-loop-j
invariant-loop-j l = record {
  rest : none_empty (problem_of l.problem) (loosenings_of l.margins) l.state ≡ none_empty_from (problem_of l.problem) (loosenings_of l.margins) l.state l.j (drop l.j l.state.marks);
  ready : IsReady l.problem l.margins l.state.space l.work;
}
