use Rattle.std.proofs.Common.{◌≡◌, drop}
use Rattle.cover_model.specs.Rules.{are_ordered}
use Rattle.cover_model.specs.Views.{multipliers_of}
use Rattle.form_truth.proofs.combinable.are_ordered.Given as goal

abbrev pub invariant-loop-k : goal.invariant-loop-k
invariant-loop-k l = are_ordered (multipliers_of l.multipliers) ≡ are_ordered (multipliers_of (drop l.k l.multipliers))
