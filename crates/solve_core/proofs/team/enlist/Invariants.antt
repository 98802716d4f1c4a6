use Rattle.std.proofs.Common.{◌≡◌, ◌+◌, ◌*◌, All, vec_len, vec_capacity}
use Rattle.steal_pool.specs.Pool.{AllStay}
use Rattle.book_lock.specs.Shared.{IsSeatOf, view}
use Rattle.solve_core.specs.Members.{IsMemberOf}
use Rattle.solve_core.proofs.team.enlist.Given as goal

abbrev pub invariant-loop-hand : goal.invariant-loop-hand
invariant-loop-hand l = record {
  stay : AllStay l.hands.items;
  own : IsSeatOf l.shared l.lead;
  team : All (IsMemberOf l.shared) l.team.items;
  count : vec_len l.team + vec_len l.hands ≡ vec_len l.initial.hands;
  room : vec_capacity l.team ≡ vec_capacity l.initial.team;
  parts : (view l.lead).parts + 2 * vec_len l.team ≡ (view l.initial.lead).parts;
}

abbrev pub decreases-loop-hand : goal.decreases-loop-hand
decreases-loop-hand l = vec_len l.hands
