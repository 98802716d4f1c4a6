-- What is empty does not reach far.
use Rattle.std.proofs.Common.{ℕ, ◌-◌, arith, ap, IsTrue, not, pos}
use Rattle.std.proofs.lemmas.Int.{ints}
use Rattle.dyadic.specs.Calls.{power_of_two}
use Rattle.dyadic.proofs.Rounds.{exact_from}
use Rattle.interval_model.specs.Interval.{nothing}
use Rattle.width_plan.specs.Plan.{reaches_far}
use Rattle.width_plan.proofs.Ends.{zero_dyadic}

pub nothing_is_near : (bits : ℕ) → IsTrue (not (reaches_far bits nothing))
nothing_is_near bits = ap (λ b. not (not b)) (exact_from zero_dyadic (power_of_two (pos (61 - bits))) (omega (arith, ints)))
