use Rattle.std.proofs.Common.{◌≡◌, ◌+◌, arith}
use Rattle.cert_read.specs.Views.{line_of}
use Rattle.cert_check.specs.Works.{checks_of}
use Rattle.cert_check.proofs.Stays.{next_stays}
use Rattle.cert_check.proofs.checker.stage_of_work.Goals as goal

pub returns-in-Ok-clause-stays : goal.returns-in-Ok-clause-stays
returns-in-Ok-clause-stays c n h =
    let more : n ≡ c.args.lines + 1 = h (omega arith) in
    omega (arith, more, c.requires.stays, next_stays (checks_of c.args.part.now c.args.bound) c.args.part.now c.work_line.new.part c.args.work c.in-Ok.work (line_of c.args.line.now) c.in-Ok.ensures.comes)
