use Rattle.cert_read.specs.CertLine.{line}
use Rattle.cert_read.specs.Views.{line_of}
use Rattle.cert_least.specs.Judging.{aim_of}
use Rattle.cert_least.proofs.Numbered.{over_there, placed_there}
use Rattle.cert_least.proofs.phases.phase_after.Goals as goal

pub returns-in-Some-clause-course : goal.returns-in-Some-clause-course
returns-in-Some-clause-course c n h =
    over_there (aim_of c.args.aim.now) c.args.phase c.in-Some.fault c.args.checker.now.course c.args.lines (line (line_of c.args.line.now)) c.in-Some.ensures

pub numbered-requires-clause-sound : goal.numbered-requires-clause-sound
numbered-requires-clause-sound c =
    placed_there (aim_of c.args.aim.now) c.args.phase c.args.checker.now c.in-None.ensures c.requires.sound
