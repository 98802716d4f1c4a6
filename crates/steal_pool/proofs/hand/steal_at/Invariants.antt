use Rattle.std.proofs.Common.{◌≡◌, ◌≢◌, ℕ, slice_index_or}
use Rattle.steal_pool.specs.declared.deque.Link.{Link}
use Rattle.steal_pool.specs.Links.{Alike}
use Rattle.steal_pool.proofs.hand.steal_at.Given as goal

abbrev pub invariant-loop : goal.invariant-loop
invariant-loop g l = record {
  here : (d : Link) → Alike (slice_index_or l.initial.links l.k d) (slice_index_or l.links l.k d);
  others : (j : ℕ) (d : Link) → j ≢ l.k → slice_index_or l.links j d ≡ slice_index_or l.initial.links j d;
}
