use Rattle.clause_search.proofs.Queue.{guarded_here, skipped, visited, not_fresh}
use Rattle.clause_search.proofs.Watching.{unit_among, conflict_among}
use Rattle.clause_search.proofs.watches.Watches.visit.Goals as goal

pub returns-then-i-self-clause-watching : goal.returns-then-i-self-clause-watching
returns-then-i-self-clause-watching c = let w = c.args.self.now in let h = c.requires.watching in record {
  lists_hold = record { firsts = h.lists_hold.firsts; seconds = h.lists_hold.seconds; same_atoms = h.lists_hold.same_atoms; same_axes = h.lists_hold.same_axes; listed = h.lists_hold.listed };
  few = h.few;
  queue_ahead = h.queue_ahead;
  fresh = λ e. absurd (not_fresh c.args.cnf.now c.args.values.now w h c.args.literal c.requires.queued c.requires.more c.code_of-k.result c.clause_at-i.result c.code_of-k.ensures c.clause_at-i.ensures.clause e);
  queued_true = h.queued_true;
  guarded = skipped c.args.cnf.now c.args.values.now w h c.args.literal c.requires.queued c.requires.more c.code_of-k.result c.clause_at-i.result c.code_of-k.ensures c.clause_at-i.ensures.clause c.if-i-self.true;
}

pub rewatch-requires-clause-first : goal.rewatch-requires-clause-first
rewatch-requires-clause-first c = (guarded_here c.args.cnf.now c.args.values.now c.args.self.now c.requires.watching c.clause_at-i.result c.clause.result.now c.index.result.now c.index-2.result.now c.if-i-self.false c.clause.ensures.clause c.index.ensures c.index-2.ensures).first_in

pub rewatch-requires-clause-second : goal.rewatch-requires-clause-second
rewatch-requires-clause-second c = (guarded_here c.args.cnf.now c.args.values.now c.args.self.now c.requires.watching c.clause_at-i.result c.clause.result.now c.index.result.now c.index-2.result.now c.if-i-self.false c.clause.ensures.clause c.index.ensures c.index-2.ensures).second_in

pub returns-in-Watch-clause-watching : goal.returns-in-Watch-clause-watching
returns-in-Watch-clause-watching c = let w = c.args.self.now in let h = c.requires.watching in record {
  lists_hold = record { firsts = h.lists_hold.firsts; seconds = h.lists_hold.seconds; same_atoms = h.lists_hold.same_atoms; same_axes = h.lists_hold.same_axes; listed = h.lists_hold.listed };
  few = h.few;
  queue_ahead = h.queue_ahead;
  fresh = λ e. absurd (not_fresh c.args.cnf.now c.args.values.now w h c.args.literal c.requires.queued c.requires.more c.code_of-k.result c.clause_at-i.result c.code_of-k.ensures c.clause_at-i.ensures.clause e);
  queued_true = h.queued_true;
  guarded = visited c.args.cnf.now c.args.values.now w h c.args.literal c.requires.queued c.requires.more c.code_of-k.result c.clause_at-i.result c.code_of-k.ensures c.clause_at-i.ensures.clause c.requires.known
      c.clause.result.now c.index.result.now c.index-2.result.now c.in-Watch.first c.in-Watch.second c.if-i-self.false c.clause.ensures.clause c.index.ensures c.index-2.ensures c.in-Watch.ensures;
}

pub returns-in-Unit-clause-says : goal.returns-in-Unit-clause-says
returns-in-Unit-clause-says c = unit_among c.args.cnf.now c.args.values.now c.clause_at-i.result c.clause.result.now c.in-Unit.other c.clause.ensures.clause c.clause.ensures.named c.in-Unit.ensures

pub returns-in-Conflict-clause-says : goal.returns-in-Conflict-clause-says
returns-in-Conflict-clause-says c = conflict_among c.args.cnf.now c.args.values.now c.clause_at-i.result c.clause.result.now c.clause.ensures.clause c.in-Conflict.ensures
