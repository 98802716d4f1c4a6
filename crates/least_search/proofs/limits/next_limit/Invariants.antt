use Rattle.std.proofs.Common.{ℕ, ◌<◌}
use Rattle.least_search.specs.Limits.{IsVain, span_in}
use Rattle.least_search.proofs.limits.next_limit.Given as goal

abbrev pub invariant-loop-attempt : goal.invariant-loop-attempt
invariant-loop-attempt l = (i : ℕ) → i < l.attempt → IsVain l.problem l.phase (span_in l.between) i
