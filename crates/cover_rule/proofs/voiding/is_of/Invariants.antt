use Rattle.std.proofs.Common.{◌≡◌, length, take}
use Rattle.cover_model.specs.Views.{multipliers_of}
use Rattle.cover_rule.specs.Pairs.{pairs_of, marked_pairs}
use Rattle.cover_rule.proofs.voiding.is_of.Given as goal

-- the pairs before this place are the same
abbrev pub invariant-loop-k : goal.invariant-loop-k
invariant-loop-k l = record {
  count : length l.pairs ≡ length l.multipliers;
  same : take l.k (pairs_of l.pairs) ≡ take l.k (marked_pairs l.lits (multipliers_of l.multipliers));
}
