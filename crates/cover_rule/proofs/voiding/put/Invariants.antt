use Rattle.std.proofs.Common.{◌≡◌, take}
use Rattle.cover_model.specs.Views.{multipliers_of}
use Rattle.cover_rule.specs.Pairs.{pairs_of, marked_pairs}
use Rattle.cover_rule.proofs.voiding.put.Given as goal

-- the pairs before this place are put in
abbrev pub invariant-loop-k : goal.invariant-loop-k
invariant-loop-k l = pairs_of l.pairs.items ≡ take l.k (marked_pairs l.lits (multipliers_of l.multipliers))
