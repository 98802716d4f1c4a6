use Rattle.std.proofs.Common.{sym, ◌∙◌}
use Rattle.book_lock.specs.Shared.{first_of}
use Rattle.solve_core.proofs.Together.{state_fits, may_be_kept}
use Rattle.solve_core.proofs.worker.Worker.visit.Goals as goal

pub work_in-requires-clause-state : goal.work_in-requires-clause-state
work_in-requires-clause-state g c =
    let t = c.args.task.now in
    (state_fits (first_of t.shared.now) c.args.room.now t.options.now (t.problem_is ∙ sym c.requires.room) t.options_are c.in-Ok.state c.in-Ok.ensures.state).0

pub work_in-requires-clause-root : goal.work_in-requires-clause-root
work_in-requires-clause-root g c =
    let t = c.args.task.now in
    (state_fits (first_of t.shared.now) c.args.room.now t.options.now (t.problem_is ∙ sym c.requires.room) t.options_are c.in-Ok.state c.in-Ok.ensures.state).1

pub settle-requires-clause-work : goal.settle-requires-clause-work
settle-requires-clause-work g c =
    let t = c.args.task.now in
    may_be_kept (first_of t.shared.now) c.args.room.now t.options.now (t.problem_is ∙ sym c.requires.room) t.options_are c.deref.result.now c.in-Ok.state c.args.due.node c.in-Ok-work_in.worked c.in-Ok.ensures.state c.in-Ok-work_in.ensures.work
