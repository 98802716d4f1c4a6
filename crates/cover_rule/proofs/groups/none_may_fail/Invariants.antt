use Rattle.std.proofs.Common.{◌≡◌, drop}
use Rattle.cover_model.specs.State.{with_no}
use Rattle.cover_model.specs.Rules.{none_may_fail}
use Rattle.poly_graph.specs.ProblemViews.{problem_of}
use Rattle.cover_data.specs.Margins.{loosenings_of}
use Rattle.cover_rule.specs.Serves.{IsReady}
use Rattle.cover_rule.proofs.groups.none_may_fail.Given as goal

-- the atoms before this one are tried
abbrev pub invariant-loop-k : goal.invariant-loop-k
invariant-loop-k l =
    IsReady l.problem l.margins l.initial.state.space l.work × (l.state ≡ l.initial.state)
    × (none_may_fail (problem_of l.problem) (loosenings_of l.margins) (with_no l.initial.state l.j) l.ks ≡ none_may_fail (problem_of l.problem) (loosenings_of l.margins) (with_no l.initial.state l.j) (drop l.k-index l.ks))
