use Rattle.std.proofs.Common.{◌<◌, ◌+◌, ◌≢◌, ℕ, arith}
use Rattle.clause_search.specs.Watches.{IsPending}
use Rattle.clause_search.proofs.Watching.{written, free_guarded, unit_among, conflict_among}
use Rattle.clause_search.proofs.watches.Watches.start.Goals as goal

pub returns-in-Watch-clause-watching : goal.returns-in-Watch-clause-watching
returns-in-Watch-clause-watching c = let w = c.args.self.now in let h = c.requires.watching in
    let pending = IsPending w.lists w.atoms w.axes w.queue.items w.next w.at in
    record {
      lists_hold = record { firsts = h.lists_hold.firsts; seconds = h.lists_hold.seconds; same_atoms = h.lists_hold.same_atoms; same_axes = h.lists_hold.same_axes; listed = h.lists_hold.listed };
      few = omega arith;
      queue_ahead = h.queue_ahead;
      fresh = h.fresh;
      queued_true = h.queued_true;
      guarded = written c.args.cnf.now c.args.values.now pending pending w.first.items w.second.items w.started w.started c.clause.result.now c.in-Watch.first c.in-Watch.second c.clause.ensures.clause
          (free_guarded c.args.values.now (pending w.started) c.clause.result.now c.in-Watch.first c.in-Watch.second c.in-Watch.ensures) (λ j n m p. p) (w.started + 1) (λ j l n. below j w.started l n) h.guarded;
    }
  where
    below : (j n : ℕ) → j < n + 1 → j ≢ n → j < n
    below j n l d = omega arith

pub returns-in-Unit-clause-says : goal.returns-in-Unit-clause-says
returns-in-Unit-clause-says c = unit_among c.args.cnf.now c.args.values.now c.args.self.now.started c.clause.result.now c.in-Unit.literal c.clause.ensures.clause c.clause.ensures.named c.in-Unit.ensures

pub returns-in-Conflict-clause-says : goal.returns-in-Conflict-clause-says
returns-in-Conflict-clause-says c = conflict_among c.args.cnf.now c.args.values.now c.args.self.now.started c.clause.result.now c.clause.ensures.clause c.in-Conflict.ensures
