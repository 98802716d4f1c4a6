use Rattle.std.proofs.Common.{◌≡◌, ◌+◌, ◌*◌, ◌-◌, ◌<◌, false, arith, vec_len, sym, ◌∙◌, subst}
use Rattle.steal_pool.specs.Account.{has_left}
use Rattle.steal_pool.specs.declared.hand.Hand.{Hand}
use Rattle.book_lock.specs.Shared.{view}
use Rattle.solve_core.specs.Workers.{IsWorkerOf}
use Rattle.solve_core.specs.Members.{IsMemberOf}
use Rattle.solve_core.proofs.Together.{new_worker, new_seat, one_part_fewer, all_but_last, all_and_one}
use Rattle.solve_core.proofs.team.enlist.Goals as goal
use Rattle.solve_core.proofs.team.enlist.Goals.{then-is_empty, else-is_empty}

pub loop-hand-preserved : goal.loop-hand-preserved
loop-hand-preserved c =
    let s = c.args.shared.now in
    let h = all_but_last (λ (x : Hand). has_left x ≡ false) c.loop-hand.hands.items c.pop.new.self.items c.in-Some.hand c.in-Some.ensures.items c.loop-hand.invariant.stay in
    let stays : has_left c.if-is_empty.hand ≡ false = elim c.if-is_empty.branch [
      | then-is_empty w ↦ subst (λ (x : Hand). has_left x ≡ false) (sym w.hand-is) w.offer_all.ensures
      | else-is_empty w ↦ subst (λ (x : Hand). has_left x ≡ false) (sym w.hand-is) h.1
    ] in
    let made : IsWorkerOf s c.new-worker.result = new_worker s c.loop-hand.lead c.split_seat-seat.new.seat c.split_seat-seat.result c.new-worker.result c.requires.book c.split_seat-seat.ensures.own_new c.split_seat-seat.ensures.split c.new-worker.ensures.seat
    (subst (λ (x : Hand). has_left x ≡ false) (sym c.new-worker.ensures.hand) stays) c.new-worker.ensures.waiting c.new-worker.ensures.lemmas in
    let member : IsMemberOf s (record { worker = c.new-worker.result; asker = c.new-asker.result }) = record {
      worker = made;
      asker = record { shared = c.new-asker.ensures.shared; seat = new_seat s c.split_seat-seat.new.seat c.split_seat-second.new.seat c.split_seat-second.result c.new-asker.result.seat c.split_seat-second.ensures.own_new c.split_seat-second.ensures.split c.new-asker.ensures.seat };
    } in
    let p : (view c.split_seat-seat.new.seat).parts ≡ (view c.loop-hand.lead).parts - 1 = one_part_fewer c.loop-hand.lead c.split_seat-seat.new.seat c.split_seat-seat.result c.split_seat-seat.ensures.split in
    let p' : (view c.split_seat-second.new.seat).parts ≡ (view c.split_seat-seat.new.seat).parts - 1 = one_part_fewer c.split_seat-seat.new.seat c.split_seat-second.new.seat c.split_seat-second.result c.split_seat-second.ensures.split in
    let n : vec_len c.pop.new.self + 1 ≡ vec_len c.loop-hand.hands = c.in-Some.ensures.cases in
    let m : vec_len c.push_reserved.new.self ≡ vec_len c.loop-hand.team + 1 = c.push_reserved.ensures.len in
    let q = c.loop-hand.invariant.parts in
    let k = c.loop-hand.invariant.count in
    let r : 2 * vec_len c.args.hands < (view c.args.lead.now).parts = c.requires.parts in record {
      stay = h.0;
      own = c.split_seat-second.ensures.own;
      team = all_and_one (IsMemberOf s) c.loop-hand.team.items c.push_reserved.new.self.items (record { worker = c.new-worker.result; asker = c.new-asker.result }) c.push_reserved.ensures.items c.loop-hand.invariant.team member;
      count = omega (arith, n, m, k);
      room = c.push_reserved.ensures.capacity ∙ c.loop-hand.invariant.room;
      parts = omega (arith, p, p', m, q, n, k, r);
    }
