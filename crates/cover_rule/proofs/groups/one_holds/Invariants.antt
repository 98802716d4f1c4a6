use Rattle.std.proofs.Common.{◌≡◌, drop}
use Rattle.cover_model.specs.Rules.{one_holds}
use Rattle.poly_graph.specs.ProblemViews.{problem_of}
use Rattle.cover_data.specs.Margins.{loosenings_of}
use Rattle.cover_rule.specs.Serves.{IsReady}
use Rattle.cover_rule.proofs.groups.one_holds.Given as goal

-- the atoms before this one are tried
abbrev pub invariant-loop-j : goal.invariant-loop-j
invariant-loop-j l =
    IsReady l.problem l.margins l.initial.state.space l.work × (l.state ≡ l.initial.state)
    × (one_holds (problem_of l.problem) (loosenings_of l.margins) l.initial.state l.js l.ks ≡ one_holds (problem_of l.problem) (loosenings_of l.margins) l.initial.state (drop l.j-index l.js) l.ks)
