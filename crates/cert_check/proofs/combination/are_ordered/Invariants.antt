use Rattle.std.proofs.Common.{◌≡◌, drop}
use Rattle.cover_model.specs.Views.{multipliers_of}
use Rattle.cover_model.specs.Rules.{are_ordered}
use Rattle.cert_check.proofs.combination.are_ordered.Given as goal

-- what holds of the pairs from this one on holds of all
abbrev pub invariant-loop-i : goal.invariant-loop-i
invariant-loop-i l = are_ordered (multipliers_of (drop l.i l.pairs)) ≡ are_ordered (multipliers_of l.pairs)
