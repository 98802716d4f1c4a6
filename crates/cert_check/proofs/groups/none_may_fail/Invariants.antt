use Rattle.std.proofs.Common.{◌≡◌, drop}
use Rattle.cover_model.specs.State.{with_no}
use Rattle.cover_model.specs.Rules.{none_may_fail}
use Rattle.poly_graph.specs.ProblemViews.{problem_of}
use Rattle.cert_check.specs.States.{state_of, loosenings_of}
use Rattle.cert_check.specs.Serving.{Serves}
use Rattle.cert_check.proofs.groups.none_may_fail.Given as goal

-- the atoms before this one are tried
abbrev pub invariant-loop-k : goal.invariant-loop-k
invariant-loop-k l =
    Serves l.problem l.tools × (state_of l.state ≡ state_of l.initial.state)
    × (none_may_fail (problem_of l.problem) (loosenings_of l.s) (with_no (state_of l.initial.state) l.j) l.ks ≡ none_may_fail (problem_of l.problem) (loosenings_of l.s) (with_no (state_of l.initial.state) l.j) (drop l.k-index l.ks))
