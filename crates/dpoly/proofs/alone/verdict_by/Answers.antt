use Rattle.std.proofs.Common.{◌<◌, Ok, Err, length, refl, arith}
use Rattle.std.proofs.lemmas.Grind.{common_steps}
use Rattle.desk.specs.Sight.{part_in}
use Rattle.dpoly.proofs.ReadAlone.{alone_end, alone_fault, alone_step, told_ok}
use Rattle.dpoly.proofs.alone.verdict_by.Goals as goal

pub returns-in-Ok-end-clause-told : goal.returns-in-Ok-end-clause-told
returns-in-Ok-end-clause-told g c =
    let room : 0 < length c.read_at.new.into = grind (arith, common_steps) in
    told_ok c.args.problem.now c.args.bound (part_in c.args.number (g.D.Desk.sight c.args.desk.now)) c.in-Ok-end.field-0
    (alone_end _ _ _ _ _ _ _ _ _ _ c.loop-n.invariant c.in-Ok.ensures.ok (Ok c.in-Ok-end.field-0) c.if-n-eq0.true room c.in-Ok-end.ensures)

pub returns-in-Err-end-clause-told : goal.returns-in-Err-end-clause-told
returns-in-Err-end-clause-told g c =
    let room : 0 < length c.read_at.new.into = grind (arith, common_steps) in
    alone_end _ _ _ _ _ _ _ _ _ _ c.loop-n.invariant c.in-Ok.ensures.ok (Err c.in-Err-end.fault) c.if-n-eq0.true room c.in-Err-end.ensures

pub loop-n-preserved : goal.loop-n-preserved
loop-n-preserved g c = alone_step _ _ _ _ _ _ _ _ _ _ c.loop-n.invariant c.in-Ok.ensures.ok _ _ c.in-Ok-piece.ensures.goes refl

pub returns-in-Err-piece-clause-told : goal.returns-in-Err-piece-clause-told
returns-in-Err-piece-clause-told g c = alone_fault _ _ _ _ _ _ _ _ _ _ c.loop-n.invariant c.in-Ok.ensures.ok c.in-Err-piece.fault c.in-Err-piece.ensures.goes
