use Rattle.std.proofs.Common.{◌<◌, Ok, Err, length, arith}
use Rattle.std.proofs.lemmas.Grind.{common_steps}
use Rattle.desk.proofs.Reading.{read_step, read_some, read_fails}
use Rattle.check_run.proofs.GoalVerdicts.{goal_check_fails, goal_check_start, goal_check_step, goal_check_end, goal_check_whole, goal_check_fault}
use Rattle.check_run.proofs.goal.verdict_by.Goals as goal

pub loop-n-init : goal.loop-n-init
loop-n-init g c = goal_check_start _ _ _ _ _ c.requires

pub returns-in-Err-clause-told : goal.returns-in-Err-clause-told
returns-in-Err-clause-told g c = goal_check_fails c.args.problem.now c.args.goal c.args.bound (g.D.Desk.sight c.args.desk.now)

pub returns-in-Err-clause-leaves : goal.returns-in-Err-clause-leaves
returns-in-Err-clause-leaves g c = read_fails _ _ _ _ _ c.loop-n.invariant.read c.in-Err.ensures.failed

pub returns-in-Ok-end-clause-told : goal.returns-in-Ok-end-clause-told
returns-in-Ok-end-clause-told g c =
    let room : 0 < length c.read.new.into = grind (arith, common_steps) in
    goal_check_end _ _ _ _ _ _ _ _ _ (Ok c.in-Ok-end.verdict) c.if-n-eq0.true room c.loop-n.invariant c.in-Ok.ensures.ok c.in-Ok-end.ensures

pub returns-in-Ok-end-clause-leaves : goal.returns-in-Ok-end-clause-leaves
returns-in-Ok-end-clause-leaves g c =
    let room : 0 < length c.read.new.into = grind (arith, common_steps) in (
      read_some _ _ _ _ (read_step _ _ _ _ _ _ _ c.loop-n.invariant.read c.in-Ok.ensures.ok),
      goal_check_whole _ _ _ _ _ _ _ _ _ c.if-n-eq0.true room c.loop-n.invariant c.in-Ok.ensures.ok,
    )

pub returns-in-Err-end-clause-told : goal.returns-in-Err-end-clause-told
returns-in-Err-end-clause-told g c =
    let room : 0 < length c.read.new.into = grind (arith, common_steps) in
    goal_check_end _ _ _ _ _ _ _ _ _ (Err c.in-Err-end.fault) c.if-n-eq0.true room c.loop-n.invariant c.in-Ok.ensures.ok c.in-Err-end.ensures

pub returns-in-Err-end-clause-leaves : goal.returns-in-Err-end-clause-leaves
returns-in-Err-end-clause-leaves g c = read_some _ _ _ _ (read_step _ _ _ _ _ _ _ c.loop-n.invariant.read c.in-Ok.ensures.ok)

pub loop-n-preserved : goal.loop-n-preserved
loop-n-preserved g c = goal_check_step _ _ _ _ _ _ _ _ _ _ c.loop-n.invariant c.in-Ok.ensures.ok c.in-Ok-piece.ensures.goes

pub returns-in-Err-piece-clause-told : goal.returns-in-Err-piece-clause-told
returns-in-Err-piece-clause-told g c = goal_check_fault _ _ _ _ _ _ _ _ _ c.in-Err-piece.fault c.loop-n.invariant c.in-Ok.ensures.ok c.in-Err-piece.ensures.goes

pub returns-in-Err-piece-clause-leaves : goal.returns-in-Err-piece-clause-leaves
returns-in-Err-piece-clause-leaves g c = read_some _ _ _ _ (read_step _ _ _ _ _ _ _ c.loop-n.invariant.read c.in-Ok.ensures.ok)
