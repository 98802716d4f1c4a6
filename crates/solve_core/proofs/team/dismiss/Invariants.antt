use Rattle.std.proofs.Common.{◌≡◌, ◌+◌, ◌*◌, All, vec_len}
use Rattle.book_lock.specs.Shared.{IsSeatOf, view}
use Rattle.solve_core.specs.Members.{HasSeatsOf}
use Rattle.solve_core.proofs.team.dismiss.Given as goal

abbrev pub invariant-loop-member : goal.invariant-loop-member
invariant-loop-member l = record {
  own : IsSeatOf l.shared l.lead;
  team : All (HasSeatsOf l.shared) l.team.items;
  parts : (view l.lead).parts + 2 * vec_len l.team ≡ (view l.initial.lead).parts + 2 * vec_len l.initial.team;
}

abbrev pub decreases-loop-member : goal.decreases-loop-member
decreases-loop-member l = vec_len l.team
