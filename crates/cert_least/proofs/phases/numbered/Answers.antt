use Rattle.std.proofs.Common.{subst, sym, arith}
use Rattle.cert_read.specs.CertLine.{line}
use Rattle.cert_read.specs.Views.{line_of}
use Rattle.cert_check.specs.declared.fault.CertFault.{CertFault}
use Rattle.cert_least.specs.Aims.{aim_next}
use Rattle.cert_least.specs.Courses.{stops_at}
use Rattle.cert_least.specs.Judging.{aim_of}
use Rattle.cert_least.specs.Phases.{course_of, goal_due}
use Rattle.cert_least.specs.Steps.{HasLed}
use Rattle.cert_least.proofs.Numbered.{phase_goes, phase_stops, sound_on}
use Rattle.cert_least.proofs.phases.numbered.Goals as goal

pub returns-in-Ok-clause-course : goal.returns-in-Ok-clause-course
returns-in-Ok-clause-course c n h =
    let a = aim_of c.args.aim.now in let at = c.requires.sound in
    phase_goes a c.args.phase c.args.checker.now c.args.lines at.due at.is_due.due at.fits (line_of c.args.line.now) c.phase_behind.new.checker c.in-Ok.phase n (h (omega arith))
    (c.in-Ok.ensures.next at.due at.is_due at.fits)

pub returns-in-Ok-clause-sound : goal.returns-in-Ok-clause-sound
returns-in-Ok-clause-sound c =
    let a = aim_of c.args.aim.now in let at = c.requires.sound in
    sound_on a (aim_next a (goal_due c.args.phase at.due) (line_of c.args.line.now)) c.phase_behind.new.checker c.in-Ok.phase
    (c.in-Ok.ensures.next at.due at.is_due at.fits)

pub returns-in-Err-clause-course : goal.returns-in-Err-clause-course
returns-in-Err-clause-course c n h =
    let a = aim_of c.args.aim.now in let at = c.requires.sound in let l = line_of c.args.line.now in
    subst (λ (f : CertFault). HasLed a (course_of c.args.phase c.args.checker.now.course c.args.lines) (line l) (stops_at f)) (sym c.at_line.ensures)
    (phase_stops a c.args.phase c.args.checker.now c.args.lines at.due at.is_due.due at.fits l c.in-Err.fault (c.in-Err.ensures.next at.due at.is_due at.fits))
