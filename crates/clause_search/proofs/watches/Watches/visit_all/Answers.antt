use Rattle.std.proofs.Common.{◌∙◌, ◌<◌, ap, refl, length, arith}
use Rattle.clause_search.proofs.Queue.{head_is, same_head, next_literal}
use Rattle.clause_search.proofs.watches.Watches.visit_all.Goals as goal

pub loop-self-preserved : goal.loop-self-preserved
loop-self-preserved c =
    let w = c.loop-self.self in let v = c.visit_list.new.self in let l = c.opposite-literal.result in let same = c.in-Settled.ensures.same in
    let h = c.in-Settled.ensures.watching in
    let within : w.next < length w.queue.items = omega arith in
    let head = same_head w.queue.items v.queue.items w.next v.next l same.same_queue same.same_next (head_is w.queue.items w.next c.index.result.now l within c.index.ensures c.opposite-literal.ensures) in (
      record {
        lists_hold = record { firsts = h.lists_hold.firsts; seconds = h.lists_hold.seconds; same_atoms = h.lists_hold.same_atoms; same_axes = h.lists_hold.same_axes; listed = h.lists_hold.listed };
        few = h.few;
        queue_ahead = omega (arith, within, same.same_next, ap length same.same_queue);
        fresh = λ _. refl;
        queued_true = h.queued_true;
        guarded = next_literal c.args.cnf.now v h.lists_hold c.args.values.now l head c.in-Settled.ensures.says v.started h.guarded;
      },
      same.same_started ∙ c.loop-self.invariant.1,
    )
