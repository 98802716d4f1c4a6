use Rattle.std.proofs.Common.{◌≡◌, ℕ, ◌<◌, ◌≤◌, slice_index_or}
use Rattle.steal_pool.specs.declared.hand.Hand.{Hand}
use Rattle.steal_pool.specs.Gathering.{IsLawful}
use Rattle.steal_pool.proofs.whole.settle_all.Given as goal

abbrev pub invariant-loop-k : goal.invariant-loop-k
invariant-loop-k l = record {
  done : (j : ℕ) (d : Hand) → j < l.k → IsLawful (slice_index_or l.initial.hands j d) (slice_index_or l.hands j d);
  rest : (j : ℕ) (d : Hand) → l.k ≤ j → slice_index_or l.hands j d ≡ slice_index_or l.initial.hands j d;
}
