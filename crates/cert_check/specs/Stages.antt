-- Where a checker stands.
use Rattle.std.specs.Prelude.{◌≡◌, ◌⊎◌, ◌+◌, ◌-◌, ◌<◌, ◌^◌, ℕ, Option, Some, None, option_map}
use Rattle.cert_read.specs.CertLine.{CertLine, Parsed, line}
use Rattle.cert_model.specs.Accepted.{reached}
use Rattle.cert_check.specs.declared.checker.Stage.{Stage}
use Rattle.cert_check.specs.declared.checker.Stage.TheVariants.{InWork, Stopped}
use Rattle.cert_check.specs.declared.fault.CertFault.{CertFault}
use Rattle.cert_check.specs.declared.part.Part.{Part}
use Rattle.cert_check.specs.Courses.{after, stops_at}
use Rattle.cert_check.specs.Work.{Checks, WorkCourse}
use Rattle.cert_check.specs.Works.{checks_of, work_of, IsSoundWork}

abbrev pub course_of : Part → Stage → ℕ → Option WorkCourse
course_of t (InWork w) n = Some (reached (work_of t w) n)
course_of t (Stopped f) n = stops_at f

abbrev pub IsSoundStage : Part → Stage → Type 0
IsSoundStage t (InWork w) = IsSoundWork t w
IsSoundStage t (Stopped f) = Unit {0}

-- the number of lines behind so many and one more, where that is one of 64 bits below the last
abbrev pub IsOneMore : ℕ → ℕ → Type 0
IsOneMore lines n = lines + 1 < 2 ^ 64 - 1 → n ≡ lines + 1

-- there is no memory, or this is where the lines led
abbrev pub IsLed : Option WorkCourse → WorkCourse → Type 0
IsLed o c = (o ≡ None) ⊎ (o ≡ Some c)

-- the same of the line after some course, which may be over
abbrev pub HasLed : Checks → Option WorkCourse → Parsed → Option WorkCourse → Type 0
HasLed c old l new = (new ≡ None) ⊎ (new ≡ option_map (λ x. after c x l) old)

-- this is the stage after the line that follows so many others
abbrev pub IsStageAfter : Part → Option ℕ → Stage → ℕ → CertLine → Part → Stage → Type 0
IsStageAfter old b stage lines l new stage' = (n : ℕ) → IsOneMore lines n → HasLed (checks_of old b) (course_of old stage lines) (line l) (course_of new stage' n)

-- this is the fault after a line without a form
abbrev pub IsFaultAfter : Part → Stage → ℕ → Parsed → CertFault → Type 0
IsFaultAfter t stage lines l fault = (b : Option ℕ) → HasLed (checks_of t b) (course_of t stage lines) l (stops_at fault)
