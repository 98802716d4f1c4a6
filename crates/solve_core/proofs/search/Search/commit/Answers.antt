-- What waits after a commit.
use Rattle.std.proofs.Common.{refl}
use Rattle.solve_core.specs.declared.search.Search.{Search}
use Rattle.solve_core.proofs.Reached.{same_reaches}
use Rattle.solve_core.proofs.Visits.{if_ok, committed_after, refused_after, commit_reaches}
use Rattle.solve_core.proofs.Waits.{two_pushed, none_pushed}
use Rattle.solve_core.proofs.search.Search.commit.Goals as goal

pub returns-in_err-push-in-Ok-Two-clause-reached : goal.returns-in_err-push-in-Ok-Two-clause-reached
returns-in_err-push-in-Ok-Two-clause-reached c = commit_reaches c.args.self.now c.args.node c.args.patch c.requires c.in-Ok-Two.field-0 c.commit.new.self c.in-Ok-Two.ensures

pub returns-in_err-push-in-Ok-Two-2-clause-reached : goal.returns-in_err-push-in-Ok-Two-2-clause-reached
returns-in_err-push-in-Ok-Two-2-clause-reached c = commit_reaches c.args.self.now c.args.node c.args.patch c.requires c.in-Ok-Two.field-0 c.commit.new.self c.in-Ok-Two.ensures

pub returns-in_ok-push-in-Ok-Two-2-clause-reached : goal.returns-in_ok-push-in-Ok-Two-2-clause-reached
returns-in_ok-push-in-Ok-Two-2-clause-reached c = commit_reaches c.args.self.now c.args.node c.args.patch c.requires c.in-Ok-Two.field-0 c.commit.new.self c.in-Ok-Two.ensures

pub returns-in-Ok-None-clause-reached : goal.returns-in-Ok-None-clause-reached
returns-in-Ok-None-clause-reached c = commit_reaches c.args.self.now c.args.node c.args.patch c.requires c.in-Ok-None.field-0 c.commit.new.self c.in-Ok-None.ensures

pub returns-in-Err-clause-reached : goal.returns-in-Err-clause-reached
returns-in-Err-clause-reached c = same_reaches c.in-Err.ensures.1

pub returns-in_ok-push-in-Ok-Two-2-clause-search : goal.returns-in_ok-push-in-Ok-Two-2-clause-search
returns-in_ok-push-in-Ok-Two-2-clause-search c =
    let s : Search = record { book = c.commit.new.self; waiting = c.push-in-Ok-Two.new.self; lemmas = c.args.self.now.lemmas; learns = c.args.self.now.learns } in
    committed_after c.args.self.now c.args.node c.args.patch c.requires s c.in-Ok-Two.field-0 c.in-Ok-Two.ensures
    (two_pushed c.args.self.now.waiting.items c.push.new.self.items c.push-in-Ok-Two.new.self.items c.in-Ok-Two.field-0 c.in-Ok-Two.lower c.in-Ok-Two.upper c.in-Ok-Two.field-0-is c.in_ok-push-in-Ok-Two.ensures.items c.in_ok-push-in-Ok-Two-2.ensures.items) refl

pub returns-in-Ok-None-clause-search : goal.returns-in-Ok-None-clause-search
returns-in-Ok-None-clause-search c =
    let s : Search = record { book = c.commit.new.self; waiting = c.args.self.now.waiting; lemmas = c.args.self.now.lemmas; learns = c.args.self.now.learns } in
    committed_after c.args.self.now c.args.node c.args.patch c.requires s c.in-Ok-None.field-0 c.in-Ok-None.ensures (none_pushed c.args.self.now.waiting.items c.in-Ok-None.field-0 c.in-Ok-None.field-0-is) refl

pub returns-in-Err-clause-search : goal.returns-in-Err-clause-search
returns-in-Err-clause-search c =
    let s : Search = record { book = c.commit.new.self; waiting = c.args.self.now.waiting; lemmas = c.args.self.now.lemmas; learns = c.args.self.now.learns } in
    if_ok c.unless_memory.result _ _ c.unless_memory.ensures (λ m. refused_after c.args.self.now c.args.node c.args.patch c.requires s c.in-Err.refusal c.in-Err.ensures.0 m c.in-Err.ensures.1 refl refl)
