-- What a run does to its desk, from its words to its end, and what is seen of it.
use Rattle.std.specs.Prelude.{◌≡◌, ◌≢◌, ◌⊎◌, ◌++◌, ◌≤◌, ◌<◌, ℕ, List, [], ◌∷◌, Option, length, take, codes}
use Rattle.std.specs.Option.{option_map}
use Rattle.desk.specs.declared.desk.Port.{Port}
use Rattle.desk.specs.declared.desk.Port.TheVariants.{Answer, CertOut, Draft}
use Rattle.desk.specs.Sight.{Sight, SideFailed}
use Rattle.check_run.specs.declared.status.Status.{Status}
use Rattle.check_run.specs.declared.status.Status.TheVariants.{Answered, InFailed, OutFailed, NoMemory}

-- ---- courses

-- a port and the name under which it is started
abbrev pub Start : Type 0
Start = Port × List ℕ

-- a run from its words to its end: the status, the starts in order, and the texts of the two out ports
pub record Course : Type 0 where
  pub status : Status
  pub starts : List Start
  pub cert : List ℕ
  pub answer : List ℕ

-- an answer, and no certificate
abbrev pub says : Status → List ℕ → Course
says status text = record { status = status; starts = (Answer, codes "-") ∷ []; cert = []; answer = text }

-- a certificate under a name, and then an answer
abbrev pub gives : List ℕ → List ℕ → List ℕ → Course
gives name cert text = record { status = Answered; starts = (CertOut, name) ∷ (Answer, codes "-") ∷ []; cert = cert; answer = text }

-- the same course behind these starts
abbrev pub behind : List Start → Course → Course
behind first tail = record tail { starts = first ++ tail.starts }

-- ---- what is seen of a course on a desk

-- one more text, where the desk shows what stands there
abbrev pub appended : {A : Type 0} → Option (List A) → List A → Option (List A)
appended told more = option_map (λ before. before ++ more) told

-- the run went to its end: all its starts and both its texts stand, and none of its calls failed
pub record Went (course : Course) (old new : Sight) : Type 0 where
  pub starts : new.starts ≡ appended old.starts course.starts
  pub cert : new.cert_out ≡ appended old.cert_out course.cert
  pub answer : new.answer ≡ appended old.answer course.answer
  pub in_faults : new.in_faults ≡ old.in_faults
  pub out_faults : new.out_faults ≡ old.out_faults

-- it stopped on its way: its first starts and a prefix of each text stand; the answer's port, which is started last, was not started
-- before the certificate was whole
pub record Stopped (course : Course) (old new : Sight) : Type 0 where
  pub starts_made : ℕ
  pub cert_bytes : ℕ
  pub answer_bytes : ℕ
  pub starts : new.starts ≡ appended old.starts (take starts_made course.starts)
  pub cert : new.cert_out ≡ appended old.cert_out (take cert_bytes course.cert)
  pub answer : new.answer ≡ appended old.answer (take answer_bytes course.answer)
  pub order : ((starts_made < length course.starts) × (answer_bytes ≡ 0)) ⊎ (length course.cert ≤ cert_bytes)

-- some of these starts at most were made, and nothing is written
pub record Quiet (starts : List Start) (old new : Sight) : Type 0 where
  pub starts_made : ℕ
  pub starts_are : new.starts ≡ appended old.starts (take starts_made starts)
  pub cert : new.cert_out ≡ old.cert_out
  pub answer : new.answer ≡ old.answer

-- how a run ends that has taken a course
pub data Ends (course : Course) (old new : Sight) (status : Status) : Type 0 where
  at_its_end : status ≡ course.status → Went course old new → Ends course old new status
  out_failed : status ≡ OutFailed → SideFailed old.out_faults new.out_faults → Stopped course old new → Ends course old new status
  no_memory : status ≡ NoMemory → Stopped course old new → Ends course old new status

-- a draft is among the starts
abbrev pub IsDraft : Port → Type 0
IsDraft Draft = Unit {0}
IsDraft _ = ⊥

abbrev pub HasDraft : List Start → Type 0
HasDraft [] = ⊥
HasDraft (start ∷ later) = IsDraft start.0 ⊎ HasDraft later

-- How a run, or a part of one, ends: on one of its courses, or before any, where the in side failed, the draft could not be written, or
-- memory ran out.
pub data RunEnds (can : Course → Type 0) (ins : List Start) (old new : Sight) (status : Status) : Type 0 where
  on_course : (course : Course) → can course → Ends course old new status → RunEnds can ins old new status
  in_failed : status ≡ InFailed → ins ≢ [] → SideFailed old.in_faults new.in_faults → Quiet ins old new → RunEnds can ins old new status
  draft_failed : status ≡ OutFailed → HasDraft ins → SideFailed old.out_faults new.out_faults → Quiet ins old new → RunEnds can ins old new status
  no_memory_yet : status ≡ NoMemory → Quiet ins old new → RunEnds can ins old new status

-- How a run ends whose starts before its courses were all made: on one of them, or before any.
pub data StartedEnds (can : Course → Type 0) (old new : Sight) (status : Status) : Type 0 where
  goes_on : (course : Course) → can course → Ends course old new status → StartedEnds can old new status
  in_fails : status ≡ InFailed → SideFailed old.in_faults new.in_faults → Quiet [] old new → StartedEnds can old new status
  draft_fails : status ≡ OutFailed → SideFailed old.out_faults new.out_faults → Quiet [] old new → StartedEnds can old new status
  no_memory_left : status ≡ NoMemory → Quiet [] old new → StartedEnds can old new status
