-- What is answered where the input ends.
use Rattle.std.specs.Prelude.{◌≡◌, ℕ, Option, Some, Result, option_map}
use Rattle.dyadic.specs.declared.dy.Dy.{Dy}
use Rattle.dyadic.specs.declared.dy.Ext.{Ext}
use Rattle.dyadic.specs.Views.{dyadic_of}
use Rattle.cert_model.specs.Due.{Due}
use Rattle.cert_model.specs.Accepted.{reached}
use Rattle.cert_model.specs.Least.{plain_due, least_due}
use Rattle.cover_model.specs.State as state
use Rattle.cert_check.specs.declared.fault.CertFault.{CertFault}
use Rattle.cert_check.specs.declared.loosenings.Loosenings.{Loosenings}
use Rattle.cert_check.specs.Checked.{Checked}
use Rattle.cert_check.specs.States.{loosenings_of}
use Rattle.cert_least.specs.declared.aim.Aim as code
use Rattle.cert_least.specs.declared.verdict.GoalVerdict.{GoalVerdict}
use Rattle.cert_least.specs.declared.verdict.GoalVerdict.TheVariants as tells
use Rattle.cert_least.specs.Aims.{Aim}
use Rattle.cert_least.specs.Courses.{Finishes}
use Rattle.cert_least.specs.Judging.{aim_of}
use Rattle.cert_least.specs.declared.phase.Scope.{Scope}
use Rattle.cert_least.specs.Phases.{due_in, lower_of, in_cover_at, in_point_at, IsPointDue}

-- what is told of an accepted certificate of least values
abbrev pub said : state.Loosenings → Option Dy → Option Ext → GoalVerdict
said s lower upper = tells.Least (record { margin = s.margin_bits; delta = s.delta_bits; lower = lower; upper = upper })

abbrev pub IsPlainEnding : Checked → ℕ → Result GoalVerdict CertFault → Type 0
IsPlainEnding c lines r = (a : Aim) (d : Due) → due_in c.course ≡ Some d → Finishes a (Some (reached (plain_due d) lines)) r

abbrev pub IsCoverEnding : Checked → Scope → ℕ → Result GoalVerdict CertFault → Type 0
IsCoverEnding c w lines r =
    (a : Aim) (d : Due) → due_in c.course ≡ Some d → Finishes a (Some (reached (least_due (in_cover_at (lower_of w) w.bits d)) lines)) r

abbrev pub IsPointEnding : code.Aim → Checked → Loosenings → Option Dy → ℕ → Result GoalVerdict CertFault → Type 0
IsPointEnding a c s lower lines r =
    (d : Due) → due_in c.course ≡ Some d → IsPointDue (loosenings_of s) d → Finishes (aim_of a) (Some (reached (least_due (in_point_at (option_map dyadic_of lower) d)) lines)) r
