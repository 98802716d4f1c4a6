use Rattle.std.proofs.Common.{◌≡◌, replicate}
use Rattle.cert_join.specs.Gathered.{nowhere}
use Rattle.cert_join.proofs.joiner.fresh.Given as goal

abbrev pub invariant-loop : goal.invariant-loop
invariant-loop l = l.cursors.items ≡ replicate l.counter nowhere
