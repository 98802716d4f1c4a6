use Rattle.std.proofs.Common.{◌≡◌, drop}
use Rattle.cover_model.specs.Rules.{one_holds}
use Rattle.poly_graph.specs.ProblemViews.{problem_of}
use Rattle.cert_check.specs.States.{state_of, loosenings_of}
use Rattle.cert_check.specs.Serving.{Serves}
use Rattle.cert_check.proofs.groups.one_holds.Given as goal

-- the atoms before this one are tried
abbrev pub invariant-loop-j : goal.invariant-loop-j
invariant-loop-j l =
    Serves l.problem l.tools × (state_of l.state ≡ state_of l.initial.state)
    × (one_holds (problem_of l.problem) (loosenings_of l.s) (state_of l.initial.state) l.js l.ks ≡ one_holds (problem_of l.problem) (loosenings_of l.s) (state_of l.initial.state) (drop l.j-index l.js) l.ks)
