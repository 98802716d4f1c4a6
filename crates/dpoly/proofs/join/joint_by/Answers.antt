use Rattle.std.proofs.Common.{[], subst}
use Rattle.cert_join.specs.Drafting.{IsStopped, IsUnwritten}
use Rattle.cert_join.specs.declared.stop.Stop.{Stop}
use Rattle.poly_graph.specs.ProblemViews.{problem_of}
use Rattle.dpoly.proofs.Joining.{draft_failed, joint_crowded, joint_refused, joint_told, joint_unlike, memory_halts, read_failed}
use Rattle.dpoly.proofs.join.joint_by.Goals as goal

pub returns-in-Ok : goal.returns-in-Ok
returns-in-Ok g c =
    joint_told c.args.problem.now c.args.bound c.args.count (g.D.Desk.sight c.args.desk.now) (g.D.Desk.sight c.join.new.desk) _ _ c.told.result
    (c.in-Ok.ensures (g.D.Desk.sight c.args.desk.now) c.args.problem.now c.args.bound [] (record { drafted = c.requires.begun; taken = c.requires.taken })) c.end.ensures c.told.ensures

pub returns-in-Err-Failed : goal.returns-in-Err-Failed
returns-in-Err-Failed g c =
    let h = c.in-Err-Failed.ensures (g.D.Desk.sight c.args.desk.now) c.args.problem.now c.args.bound [] (record { drafted = c.requires.begun; taken = c.requires.taken }) in
    read_failed (g.D.Desk.sight c.args.desk.now) (g.D.Desk.sight c.join.new.desk) (subst (λ (e : Stop). IsStopped (g.D.Desk.sight c.args.desk.now) e (g.D.Desk.sight c.join.new.desk)) c.in-Err-Failed.field-0-is h.stopped)

pub returns-in-Err-Denied : goal.returns-in-Err-Denied
returns-in-Err-Denied g c =
    let h = c.in-Err-Denied.ensures (g.D.Desk.sight c.args.desk.now) c.args.problem.now c.args.bound [] (record { drafted = c.requires.begun; taken = c.requires.taken }) in
    draft_failed (g.D.Desk.sight c.args.desk.now) (g.D.Desk.sight c.join.new.desk) (subst (λ (e : Stop). IsStopped (g.D.Desk.sight c.args.desk.now) e (g.D.Desk.sight c.join.new.desk)) c.in-Err-Denied.field-0-is h.stopped)

pub returns-in-Err-Memory : goal.returns-in-Err-Memory
returns-in-Err-Memory g c =
    let h = c.in-Err-Memory.ensures (g.D.Desk.sight c.args.desk.now) c.args.problem.now c.args.bound [] (record { drafted = c.requires.begun; taken = c.requires.taken }) in
    memory_halts (g.D.Desk.sight c.args.desk.now) (g.D.Desk.sight c.join.new.desk) (subst (λ (e : Stop). IsStopped (g.D.Desk.sight c.args.desk.now) e (g.D.Desk.sight c.join.new.desk)) c.in-Err-Memory.field-0-is h.stopped)

pub returns-in-Err-Unlike : goal.returns-in-Err-Unlike
returns-in-Err-Unlike g c =
    let h = c.in-Err-Unlike.ensures (g.D.Desk.sight c.args.desk.now) c.args.problem.now c.args.bound [] (record { drafted = c.requires.begun; taken = c.requires.taken }) in
    joint_unlike c.args.problem.now c.args.bound c.args.count (g.D.Desk.sight c.args.desk.now) (g.D.Desk.sight c.join.new.desk)
    (subst (λ (e : Stop). IsUnwritten (g.D.Desk.sight c.args.desk.now) c.args.problem.now c.args.bound c.args.count [] e (g.D.Desk.sight c.join.new.desk)) c.in-Err-Unlike.field-0-is h)

pub returns-in-Err-Crowded : goal.returns-in-Err-Crowded
returns-in-Err-Crowded g c =
    let h = c.in-Err-Crowded.ensures (g.D.Desk.sight c.args.desk.now) c.args.problem.now c.args.bound [] (record { drafted = c.requires.begun; taken = c.requires.taken }) in
    joint_crowded c.args.problem.now c.args.bound c.args.count (g.D.Desk.sight c.args.desk.now) (g.D.Desk.sight c.join.new.desk)
    (subst (λ (e : Stop). IsUnwritten (g.D.Desk.sight c.args.desk.now) c.args.problem.now c.args.bound c.args.count [] e (g.D.Desk.sight c.join.new.desk)) c.in-Err-Crowded.field-0-is h)

pub returns-in-Err-Refused : goal.returns-in-Err-Refused
returns-in-Err-Refused g c =
    let h = c.in-Err-Refused.ensures (g.D.Desk.sight c.args.desk.now) c.args.problem.now c.args.bound [] (record { drafted = c.requires.begun; taken = c.requires.taken }) in
    let d = subst (λ (e : Stop). IsUnwritten (g.D.Desk.sight c.args.desk.now) c.args.problem.now c.args.bound c.args.count [] e (g.D.Desk.sight c.join.new.desk)) c.in-Err-Refused.field-0-is h in
    joint_refused c.args.problem.now c.args.bound c.args.count (g.D.Desk.sight c.args.desk.now) (g.D.Desk.sight c.join.new.desk) c.in-Err-Refused.fault c.refused.result d c.refused.ensures
