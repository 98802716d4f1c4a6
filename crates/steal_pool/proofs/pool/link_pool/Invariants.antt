use Rattle.std.proofs.Common.{◌≡◌, ℕ, ◌+◌, ◌<◌, slice_index_or, length}
use Rattle.crossbeam_deque.specs.Handles.{worker_view}
use Rattle.steal_pool.specs.declared.hand.Hand.{Hand}
use Rattle.steal_pool.specs.NewPool.{IsBare, LinkedHands}
use Rattle.steal_pool.proofs.pool.link_pool.Given as goal

abbrev pub invariant-loop-j : goal.invariant-loop-j
invariant-loop-j l = record {
  parts : (k : ℕ) (d : Hand) → k < length l.hands → (worker_view (slice_index_or l.hands k d).own.worker).parts + l.j ≡ 65;
  bare : (k : ℕ) (d : Hand) → k < length l.hands → IsBare (slice_index_or l.hands k d);
  rows : (i : ℕ) (c : Hand) → i < l.j → LinkedHands l.hands (slice_index_or l.hands i c).links.items;
}
