-- The fields of a checker of a script with a goal.
use Rattle.std.specs.Prelude.{◌<◌, ◌^◌, ◌-◌}
use Rattle.cert_least.specs.declared.checker.GoalChecker.TheInside.{Inside}
use Rattle.cert_least.specs.Checked.{GoalChecked}
use Rattle.cert_least.specs.Judging.{IsReady, aim_of}
use Rattle.cert_least.specs.Phases.{course_of, IsSoundPhase}

abbrev pub checked_of : Inside → GoalChecked
checked_of c = record { aim = aim_of c.aim; course = course_of c.phase c.checker.course c.lines }

pub record IsSoundChecker (c : Inside) : Type 0 where
  pub ready : IsReady c.aim
  pub phase : IsSoundPhase (aim_of c.aim) c.phase c.checker
  pub few : c.lines < 2 ^ 64 - 1
