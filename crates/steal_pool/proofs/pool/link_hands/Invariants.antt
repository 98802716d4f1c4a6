use Rattle.std.proofs.Common.{◌≡◌, ℕ, ◌<◌, ◌≤◌, slice_index_or, vec_len, vec_capacity}
use Rattle.steal_pool.specs.declared.deque.Link.{Link}
use Rattle.steal_pool.specs.declared.hand.Hand.{Hand}
use Rattle.steal_pool.specs.NewPool.{IsLinked, LosesPart}
use Rattle.steal_pool.proofs.pool.link_hands.Given as goal

abbrev pub invariant-loop-i : goal.invariant-loop-i
invariant-loop-i l = record {
  count : vec_len l.links ≡ l.i;
  room : vec_capacity l.links ≡ vec_capacity l.initial.links;
  linked : (k : ℕ) (d : Hand) (e : Link) → k < l.i → IsLinked (slice_index_or l.initial.hands k d) (slice_index_or l.links.items k e);
  left : (k : ℕ) (d : Hand) → k < l.i → LosesPart (slice_index_or l.initial.hands k d) (slice_index_or l.hands k d);
  rest : (k : ℕ) (d : Hand) → l.i ≤ k → slice_index_or l.hands k d ≡ slice_index_or l.initial.hands k d;
}
