use Rattle.std.proofs.Common.{◌≡◌, ℕ, ◌<◌, ◌≤◌, length, take, slice_index_or}
use Rattle.crossbeam_deque.specs.Handles.{worker_deque, worker_view}
use Rattle.steal_pool.specs.Gathering.{absorbed, column}
use Rattle.steal_pool.specs.declared.deque.Link.{Link}
use Rattle.steal_pool.specs.declared.hand.Hand.{Hand}
use Rattle.steal_pool.proofs.whole.absorb_all.Given as goal

abbrev pub invariant-loop-j : goal.invariant-loop-j
invariant-loop-j l = record {
  deques : (k : ℕ) (d : Hand) → k < length l.initial.hands → worker_deque (slice_index_or l.hands k d).own.worker ≡ worker_deque (slice_index_or l.initial.hands k d).own.worker;
  views : (k : ℕ) (d : Hand) (e : Link) → k < length l.initial.hands → worker_view (slice_index_or l.hands k d).own.worker ≡ absorbed (worker_view (slice_index_or l.initial.hands k d).own.worker) (column e k (take l.j l.initial.hands));
  links : (k : ℕ) (d : Hand) → l.j ≤ k → k < length l.initial.hands → (slice_index_or l.hands k d).links ≡ (slice_index_or l.initial.hands k d).links;
}
