use Rattle.std.proofs.Common.{◌≡◌, ℕ, map, take}
use Rattle.dyadic.specs.declared.dy.Dy.{Dy}
use Rattle.ival.specs.Views.{interval_of}
use Rattle.poly_graph.specs.ProblemViews.{problem_of}
use Rattle.cert_check.specs.Squares.{range_at}
use Rattle.cert_check.specs.States.{state_of, loosenings_of}
use Rattle.cert_check.proofs.squaring.ranges_of.Given as goal

-- those before are there
abbrev pub invariant-loop-pair : goal.invariant-loop-pair
invariant-loop-pair l = map interval_of l.ranges.items ≡ map (λ (x : ℕ × Dy). range_at (problem_of l.problem) (loosenings_of l.s) (state_of l.state) x.0) (take l.pair-index l.pairs)
