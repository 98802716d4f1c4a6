use Rattle.std.proofs.Common.{◌≡◌, ◌+◌, suc, arith, vec_len}
use Rattle.book_lock.specs.Shared.{view}
use Rattle.solve_core.specs.Members.{HasSeatsOf}
use Rattle.solve_core.proofs.Together.{one_more_part, all_but_last}
use Rattle.solve_core.proofs.team.dismiss.Goals as goal

pub join_seat-requires-clause-own_other : goal.join_seat-requires-clause-own_other
join_seat-requires-clause-own_other c =
    (all_but_last (HasSeatsOf c.args.shared.now) c.loop-member.team.items c.pop.new.self.items c.in-Some.member c.in-Some.ensures.items c.loop-member.invariant.team).1.worker.0

pub join_seat-requires-in-Some-clause-own_other : goal.join_seat-requires-in-Some-clause-own_other
join_seat-requires-in-Some-clause-own_other c =
    (all_but_last (HasSeatsOf c.args.shared.now) c.loop-member.team.items c.pop.new.self.items c.in-Some.member c.in-Some.ensures.items c.loop-member.invariant.team).1.asker.0

pub loop-member-preserved : goal.loop-member-preserved
loop-member-preserved c =
    let s = c.args.shared.now in
    let h = all_but_last (HasSeatsOf s) c.loop-member.team.items c.pop.new.self.items c.in-Some.member c.in-Some.ensures.items c.loop-member.invariant.team in
    let p : (view c.join_seat.new.seat).parts ≡ suc (view c.loop-member.lead).parts = one_more_part s c.loop-member.lead c.in-Some.member.worker.seat c.join_seat.new.seat c.join_seat.ensures.joined h.1.worker in
    let r : (view c.join_seat-in-Some.new.seat).parts ≡ suc (view c.join_seat.new.seat).parts = one_more_part s c.join_seat.new.seat c.in-Some.member.asker.seat c.join_seat-in-Some.new.seat c.join_seat-in-Some.ensures.joined h.1.asker in
    let n : vec_len c.pop.new.self + 1 ≡ vec_len c.loop-member.team = c.in-Some.ensures.cases in
    let q = c.loop-member.invariant.parts in record {
      own = c.join_seat-in-Some.ensures.own;
      team = h.0;
      parts = omega (arith, p, r, n, q);
    }
