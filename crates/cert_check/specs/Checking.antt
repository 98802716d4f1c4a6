-- The fields of a checker.
use Rattle.std.specs.Prelude.{◌<◌, ◌^◌, ◌-◌}
use Rattle.cert_check.specs.declared.checker.Checker.TheInside.{Inside}
use Rattle.cert_check.specs.Checked.{Checked}
use Rattle.cert_check.specs.Stages.{course_of, IsSoundStage}
use Rattle.cert_check.specs.Stays.{StaysWithin}
use Rattle.cert_check.specs.Works.{IsPart, checks_of}

abbrev pub checked_of : Inside → Checked
checked_of c = record { checks = checks_of c.part c.bound; course = course_of c.part c.stage c.lines }

pub record IsSoundChecker (c : Inside) : Type 0 where
  pub part : IsPart c.part
  pub stage : IsSoundStage c.part c.stage
  pub stays : StaysWithin c.lines c.stage
  pub few : c.lines < 2 ^ 64 - 1
