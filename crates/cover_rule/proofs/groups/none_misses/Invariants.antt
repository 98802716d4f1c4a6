use Rattle.std.proofs.Common.{◌≡◌, drop}
use Rattle.cover_model.specs.Honest.{none_misses}
use Rattle.poly_graph.specs.ProblemViews.{problem_of}
use Rattle.cover_data.specs.Margins.{loosenings_of}
use Rattle.cover_rule.proofs.groups.none_misses.Given as goal

-- the atoms before this one meet their ranges
abbrev pub invariant-loop-j : goal.invariant-loop-j
invariant-loop-j l =
    none_misses (problem_of l.problem) (loosenings_of l.margins) l.state l.js ≡ none_misses (problem_of l.problem) (loosenings_of l.margins) l.state (drop l.j-index l.js)
