use Rattle.std.proofs.Common.{◌<◌, Err, length, arith}
use Rattle.std.proofs.lemmas.Grind.{common_steps}
use Rattle.desk.proofs.Reading.{read_step, read_some, read_fails}
use Rattle.check_run.proofs.GoalVerdicts.{goal_check_end, goal_check_whole, goal_check_fault}
use Rattle.dpoly.proofs.GoalUpgrading.{goal_kept_start, goal_kept_step, goal_kept_end}
use Rattle.dpoly.proofs.upgrade_goal.kept_by.Goals as goal

pub loop-n-init : goal.loop-n-init
loop-n-init g c = goal_kept_start _ _ _ _ _ _ c.requires c.new-kept.ensures.items

pub returns-in-Err-clause-leaves : goal.returns-in-Err-clause-leaves
returns-in-Err-clause-leaves g c = read_fails _ _ _ _ _ c.loop-n.invariant.checked.read c.in-Err.ensures.failed

pub returns-in-Ok-end-clause-told : goal.returns-in-Ok-end-clause-told
returns-in-Ok-end-clause-told g c =
    let room : 0 < length c.read.new.into = grind (arith, common_steps) in
    goal_kept_end _ _ _ _ _ _ _ _ _ _ c.in-Ok-end.field-0 c.if-n-eq0.true room c.loop-n.invariant c.in-Ok.ensures.ok c.in-Ok-end.ensures

pub returns-in-Ok-end-clause-leaves : goal.returns-in-Ok-end-clause-leaves
returns-in-Ok-end-clause-leaves g c =
    let room : 0 < length c.read.new.into = grind (arith, common_steps) in (
      read_some _ _ _ _ (read_step _ _ _ _ _ _ _ c.loop-n.invariant.checked.read c.in-Ok.ensures.ok),
      goal_check_whole _ _ _ _ _ _ _ _ _ c.if-n-eq0.true room c.loop-n.invariant.checked c.in-Ok.ensures.ok,
    )

pub returns-in-Err-end-clause-told : goal.returns-in-Err-end-clause-told
returns-in-Err-end-clause-told g c =
    let room : 0 < length c.read.new.into = grind (arith, common_steps) in
    goal_check_end _ _ _ _ _ _ _ _ _ (Err c.in-Err-end.fault) c.if-n-eq0.true room c.loop-n.invariant.checked c.in-Ok.ensures.ok c.in-Err-end.ensures

pub returns-in-Err-end-clause-leaves : goal.returns-in-Err-end-clause-leaves
returns-in-Err-end-clause-leaves g c = read_some _ _ _ _ (read_step _ _ _ _ _ _ _ c.loop-n.invariant.checked.read c.in-Ok.ensures.ok)

pub loop-n-preserved : goal.loop-n-preserved
loop-n-preserved g c = goal_kept_step _ _ _ _ _ _ _ _ _ _ _ _ c.loop-n.invariant c.in-Ok.ensures.ok c.in-Ok-feed_and_keep.ensures.goes c.in-Ok-feed_and_keep.ensures.kept

pub returns-in-Err-feed_and_keep-clause-told : goal.returns-in-Err-feed_and_keep-clause-told
returns-in-Err-feed_and_keep-clause-told g c = goal_check_fault _ _ _ _ _ _ _ _ _ c.in-Err-feed_and_keep.fault c.loop-n.invariant.checked c.in-Ok.ensures.ok c.in-Err-feed_and_keep.ensures.goes

pub returns-in-Err-feed_and_keep-clause-leaves : goal.returns-in-Err-feed_and_keep-clause-leaves
returns-in-Err-feed_and_keep-clause-leaves g c = read_some _ _ _ _ (read_step _ _ _ _ _ _ _ c.loop-n.invariant.checked.read c.in-Ok.ensures.ok)
