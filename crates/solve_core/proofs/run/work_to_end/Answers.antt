use Rattle.std.proofs.Common.{sym, ◌∙◌}
use Rattle.solve_core.specs.Reaches.{stays}
use Rattle.solve_core.proofs.Reached.{reaches_same, reaches_through}
use Rattle.solve_core.proofs.run.work_to_end.Goals as goal

pub loop-init : goal.loop-init
loop-init g c = record { search = c.requires.search; reached = stays; room = c.requires.room }

pub loop-preserved : goal.loop-preserved
loop-preserved g c = record {
  search = c.in_ok-work_once.ensures.search;
  reached = reaches_through c.loop.invariant.reached c.work_once.ensures.reached;
  room = c.work_once.ensures.room ∙ c.loop.invariant.room ∙ sym (reaches_same c.work_once.ensures.reached).0;
}

pub returns-in_err-work_once-clause-reached : goal.returns-in_err-work_once-clause-reached
returns-in_err-work_once-clause-reached g c = reaches_through c.loop.invariant.reached c.work_once.ensures.reached

pub returns-clause-reached : goal.returns-clause-reached
returns-clause-reached g c = reaches_through c.loop.invariant.reached c.work_once.ensures.reached

pub returns-clause-left : goal.returns-clause-left
returns-clause-left g c = c.in_ok-work_once.ensures.over c.if-branch.false
