use Rattle.std.proofs.Common.{◌≡◌}
use Rattle.dyadic.specs.Rounding.{finite}
use Rattle.dyadic.specs.Views.{dyadic_of, ext_of}
use Rattle.least_search.specs.Limits.{with_steps}
use Rattle.least_search.proofs.limits.with_steps.Given as goal

abbrev pub invariant-loop : goal.invariant-loop
invariant-loop l = ext_of l.there ≡ with_steps (ext_of l.fn.end) (finite (dyadic_of l.step)) l.counter
