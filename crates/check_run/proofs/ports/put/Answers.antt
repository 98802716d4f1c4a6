use Rattle.std.proofs.Common.{subst}
use Rattle.desk.specs.Sight.{Sight}
use Rattle.desk.specs.Texts.{WritesPrefix, WritesThenFails}
use Rattle.check_run.proofs.Ending.{put_fails, put_breaks}
use Rattle.check_run.proofs.ports.put.Goals as goal

pub returns-in-Ok-clause-failed : goal.returns-in-Ok-clause-failed
returns-in-Ok-clause-failed g c e =
    let P : Sight → Type 0 = λ d. WritesThenFails c.args.port c.args.text.now d (g.D.Desk.sight c.write_whole.new.desk) in
    put_fails _ _ _ _ _ c.requires.text (subst P c.in-Ok.ensures.ok (c.write_whole.ensures.failed e))

pub returns-in-Ok-clause-memory : goal.returns-in-Ok-clause-memory
returns-in-Ok-clause-memory g c e =
    let P : Sight → Type 0 = λ d. WritesPrefix c.args.port c.args.text.now d (g.D.Desk.sight c.write_whole.new.desk) in
    put_breaks _ _ _ _ _ c.requires.text (subst P c.in-Ok.ensures.ok (c.write_whole.ensures.memory e))
