use Rattle.std.proofs.Common.{◌≡◌, ◌+◌, ◌-◌, All, vec_len, vec_capacity}
use Rattle.steal_pool.specs.NewPool.{IsNew}
use Rattle.steal_pool.specs.Count.{all_resting}
use Rattle.steal_pool.proofs.pool.make_hands.Given as goal

abbrev pub invariant-loop-start : goal.invariant-loop-start
invariant-loop-start l = record {
  count : vec_len l.hands + 1 ≡ l.start;
  room : vec_capacity l.hands ≡ vec_capacity l.initial.hands;
  lead : l.lead.seat.me.0 ≡ all_resting (l.n - vec_len l.hands);
  new : All IsNew l.hands.items;
}
