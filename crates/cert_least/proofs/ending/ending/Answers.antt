use Rattle.std.proofs.Common.{◌+◌, Err}
use Rattle.cert_check.specs.declared.fault.CertFault.TheVariants.{BadHeader}
use Rattle.cert_least.specs.declared.phase.Phase.TheVariants as phase
use Rattle.cert_least.specs.Judging.{aim_of}
use Rattle.cert_least.specs.Phases.{told_of, tells_later, lower_of}
use Rattle.cert_least.proofs.Endings.{ends_in, header_ends, lower_ends, cover_missing, stopped_ends}
use Rattle.cert_least.proofs.ending.ending.Goals as goal

pub returns-in-Version-clause-ending : goal.returns-in-Version-clause-ending
returns-in-Version-clause-ending c =
    let a = c.args.aim.now in
    ends_in (aim_of a) c.args.lines c.args.phase phase.Version c.args.checker.now c.plain_ending.result c.in-Version.is c.requires.sound (λ h. h) (λ at. c.plain_ending.ensures (aim_of a) at.due at.is_due.due)

pub returns-in-Plain-clause-ending : goal.returns-in-Plain-clause-ending
returns-in-Plain-clause-ending c =
    let a = c.args.aim.now in
    ends_in (aim_of a) c.args.lines c.args.phase phase.Plain c.args.checker.now c.plain_ending-in-Plain.result c.in-Plain.is c.requires.sound (λ h. h) (λ at. c.plain_ending-in-Plain.ensures (aim_of a) at.due at.is_due.due)

pub returns-in-Header-clause-ending : goal.returns-in-Header-clause-ending
returns-in-Header-clause-ending c =
    let a = c.args.aim.now in
    ends_in (aim_of a) c.args.lines c.args.phase (phase.Header c.in-Header.field-0) c.args.checker.now (Err (BadHeader (c.args.lines + 1))) c.in-Header.is c.requires.sound (λ h. h)
    (λ at. header_ends (aim_of a) c.args.lines (told_of c.in-Header.field-0) (tells_later c.in-Header.field-0) at.due at.fits)

pub returns-in-Lower-clause-ending : goal.returns-in-Lower-clause-ending
returns-in-Lower-clause-ending c =
    let a = c.args.aim.now in
    ends_in (aim_of a) c.args.lines c.args.phase (phase.Lower c.in-Lower.field-0) c.args.checker.now (Err (BadHeader (c.args.lines + 1))) c.in-Lower.is c.requires.sound (λ h. h)
    (λ at. lower_ends (aim_of a) c.args.lines (told_of c.in-Lower.field-0) (tells_later c.in-Lower.field-0) at.due at.fits)

pub returns-in-Cover-clause-ending : goal.returns-in-Cover-clause-ending
returns-in-Cover-clause-ending c =
    let a = c.args.aim.now in
    ends_in (aim_of a) c.args.lines c.args.phase (phase.Cover c.in-Cover.field-0 c.in-Cover.field-1) c.args.checker.now (Err (BadHeader (c.args.lines + 1))) c.in-Cover.is c.requires.sound (λ h. h) (λ at. cover_missing (aim_of a) c.args.lines (lower_of c.in-Cover.field-1) c.in-Cover.field-1.bits (told_of c.in-Cover.field-0) at.due at.fits)

pub returns-in-InCover-clause-ending : goal.returns-in-InCover-clause-ending
returns-in-InCover-clause-ending c =
    let a = c.args.aim.now in
    ends_in (aim_of a) c.args.lines c.args.phase (phase.InCover c.in-InCover.scope) c.args.checker.now c.cover_ending.result c.in-InCover.is c.requires.sound (λ h. h) (λ at. c.cover_ending.ensures (aim_of a) at.due at.is_due.due)

pub returns-in-InPoint-clause-ending : goal.returns-in-InPoint-clause-ending
returns-in-InPoint-clause-ending c =
    let a = c.args.aim.now in
    ends_in (aim_of a) c.args.lines c.args.phase (phase.InPoint c.in-InPoint.loosenings c.in-InPoint.lower) c.args.checker.now c.point_ending.result c.in-InPoint.is c.requires.sound (λ h. h) (λ at. c.point_ending.ensures.ending at.due at.is_due.due at.fits)

pub returns-in-Stopped-clause-ending : goal.returns-in-Stopped-clause-ending
returns-in-Stopped-clause-ending c = stopped_ends (aim_of c.args.aim.now) c.args.lines c.args.phase c.in-Stopped.fault c.args.checker.now.course c.in-Stopped.is
