use Rattle.std.proofs.Common.{below_more, subst}
use Rattle.least_search.specs.Limits.{IsTried, span_in}
use Rattle.least_search.proofs.limits.next_limit.Goals as goal

pub loop-attempt-preserved : goal.loop-attempt-preserved
loop-attempt-preserved c = below_more _ _ c.loop-attempt.invariant
    (subst (λ o. IsTried c.args.problem.now c.args.goal c.args.phase (span_in c.args.between) c.loop-attempt.attempt o) c.in_default.is c.in_ok-limited.ensures)
