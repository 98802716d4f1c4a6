use Rattle.std.proofs.Common.{◌≡◌, ℕ, ◌<◌, ◌≤◌, slice_index_or, vec_len}
use Rattle.steal_pool.specs.Gathering.{TakenIn}
use Rattle.steal_pool.specs.declared.deque.Link.{Link}
use Rattle.steal_pool.specs.declared.hand.Hand.{Hand}
use Rattle.steal_pool.proofs.whole.absorb_row.Given as goal

abbrev pub invariant-loop-link : goal.invariant-loop-link
invariant-loop-link l = record {
  some_left : vec_len l.row ≤ vec_len l.initial.row;
  row : (k : ℕ) (e : Link) → k < vec_len l.row → slice_index_or l.row.items k e ≡ slice_index_or l.initial.row.items k e;
  waits : (k : ℕ) (d : Hand) → k < vec_len l.row → slice_index_or l.hands k d ≡ slice_index_or l.initial.hands k d;
  done : (k : ℕ) (d : Hand) (e : Link) → vec_len l.row ≤ k → k < vec_len l.initial.row → TakenIn (slice_index_or l.initial.hands k d) (slice_index_or l.initial.row.items k e) (slice_index_or l.hands k d);
}

abbrev pub decreases-loop-link : goal.decreases-loop-link
decreases-loop-link l = vec_len l.row
