-- Where lines lead a checker, line by line, and what it answers.
use Rattle.std.specs.Prelude.{◌≡◌, ◌⊎◌, ℕ, suc, List, [], ◌∷◌, ◌++◌, length, Bool, false, not, Option, Some, None, Result, Ok, Err, IsTrue, OnOk, nat_eq, option_map}
use Rattle.interval_model.specs.Space.{Space}
use Rattle.cover_model.specs.State.{State, Loosenings}
use Rattle.cert_read.specs.CertLine.{Parsed}
use Rattle.cert_read.specs.LineText.{text_of_lines}
use Rattle.cert_read.specs.Lines.{all_bytes}
use Rattle.cert_read.specs.State.{Reading}
use Rattle.cert_read.specs.Reading.{lines_ahead}
use Rattle.cert_model.specs.Due.{Value, at_point, left_open, Due, lemma_due, root_due, tree_due, nothing_due, NextOf, on, faulty}
use Rattle.cert_model.specs.Accepted.{stopped, reached, VerdictOf, Verdict, accepted, refused, cut_off}
use Rattle.cert_model.specs.Session.{inside_due, SessionVerdict}
use Rattle.cert_check.specs.declared.checker.Verdict as told
use Rattle.cert_check.specs.declared.checker.Verdict.TheVariants.{Unsat, Point, Left}
use Rattle.cert_check.specs.declared.fault.CertFault.{CertFault}
use Rattle.cert_check.specs.declared.fault.CertFault.TheVariants.{Memory}
use Rattle.cert_check.specs.Checked.{Checked}
use Rattle.cert_check.specs.Dues.{next_map}
use Rattle.cert_check.specs.Faults.{stop_of}
use Rattle.cert_check.specs.Work.{Work, alone, together, WorkCourse, Checks, course_map, lean_work, work_step, work_course, work_ended}

-- ---- one more line

-- with the line's number
abbrev pub leads : ℕ → NextOf Work → WorkCourse
leads n (on d) = reached d n
leads n (faulty f) = stopped f n

-- without what the code does not keep
abbrev pub after : Checks → WorkCourse → Parsed → WorkCourse
after c (stopped f n) l = stopped f n
after c (reached d n) l = leads (suc n) (next_map lean_work (work_step c d l))

abbrev pub after_all : Checks → WorkCourse → List Parsed → WorkCourse
after_all c x [] = x
after_all c x (l ∷ ls) = after_all c (after c x l) ls

-- ---- what a checker answers

abbrev pub IsUnderWay : Option WorkCourse → Type 0
IsUnderWay (Some (reached d n)) = Unit {0}
IsUnderWay c = ⊥

-- where a checker stops with the fault; nowhere for out of memory
abbrev pub stops_at : CertFault → Option WorkCourse
stops_at f = option_map (course_map (λ (d : Due). alone d)) (stop_of f)

-- the fault where the course stopped, or out of memory
abbrev pub IsCourseAnswer : Option WorkCourse → Result (Unit {0}) CertFault → Type 0
IsCourseAnswer c (Ok _) = IsUnderWay c
IsCourseAnswer c (Err f) = c ≡ stops_at f

-- lines are taken, in order, and answered; out of memory may come at any
pub record Takes (old : Checked) (ls : List Parsed) (new : Checked) (r : Result (Unit {0}) CertFault) : Type 0 where
  pub checks : new.checks ≡ old.checks
  pub course : (new.course ≡ None) ⊎ (new.course ≡ option_map (λ c. after_all old.checks c ls) old.course)
  pub answers : IsCourseAnswer new.course r

-- ---- verdicts

abbrev pub verdict_of : Loosenings → Value → told.Verdict
verdict_of s (at_point space) = Point s.delta_bits
verdict_of s (left_open []) = Unsat s.margin_bits
verdict_of s (left_open (x ∷ left)) = Left (length (x ∷ left))

-- the fault with its line
abbrev pub IsRefusal : {V : Type 0} → VerdictOf V → CertFault → Type 0
IsRefusal (accepted s v) e = ⊥
IsRefusal (refused f n) e = Some (stopped f n) ≡ stop_of e

abbrev pub IsVerdict : Verdict → Result told.Verdict CertFault → Type 0
IsVerdict (accepted s v) (Ok w) = w ≡ verdict_of s v
IsVerdict v (Ok w) = ⊥
IsVerdict v (Err e) = IsRefusal v e

-- that of the first check
abbrev pub IsFirstVerdict : SessionVerdict → Result told.Verdict CertFault → Type 0
IsFirstVerdict (accepted s []) r = Unit {0}
IsFirstVerdict (accepted s (v ∷ values)) (Ok w) = w ≡ verdict_of s v
IsFirstVerdict v (Ok w) = ⊥
IsFirstVerdict v (Err e) = IsRefusal v e

-- the input ends
abbrev pub Finishes : Option WorkCourse → Result told.Verdict CertFault → Type 0
Finishes None r = r ≡ Err Memory
Finishes (Some c) r = IsFirstVerdict (work_ended c) r

-- the input goes on where no more of it is read
abbrev pub IsCutOff : Option WorkCourse → CertFault → Type 0
IsCutOff None f = f ≡ Memory
IsCutOff (Some c) f = IsRefusal (cut_off {D = Work} {V = Value} c) f

-- ---- states in work

abbrev pub in_work : Due → ℕ
in_work (lemma_due s k lemmas L S pending) = suc (length pending)
in_work (root_due s lemmas) = 1
in_work (tree_due s lemmas S pending done) = suc (length pending)
in_work d = 0

abbrev pub work_states : Work → ℕ
work_states (alone d) = in_work d
work_states (together (inside_due t d)) = in_work d
work_states w = 0

abbrev pub states_in_work : Option WorkCourse → ℕ
states_in_work (Some (reached w n)) = work_states w
states_in_work c = 0

-- ---- what a certificate describes, for whoever draws it or goes on from it

-- where the next line of the main tree stands: no such line is due, or it stands at the root or in this state
pub data Stand : Type 0 where
  elsewhere at_root : Stand
  at_state : State → Stand

abbrev pub stand_due : Due → Stand
stand_due (root_due s lemmas) = at_root
stand_due (tree_due s lemmas S pending done) = at_state S
stand_due d = elsewhere

abbrev pub stand_in : Option WorkCourse → Stand
stand_in (Some (reached (alone d) n)) = stand_due d
stand_in (Some (reached (together (inside_due t d)) n)) = stand_due d
stand_in c = elsewhere

-- the loosenings and the states of the lemmas of a cover of one check that is whole
abbrev pub cover_in : Option WorkCourse → Option (Loosenings × List State)
cover_in (Some (reached (alone (nothing_due s lemmas (left_open left))) n)) = Some (s, lemmas)
cover_in c = None

-- the box where the next line of the main tree stands, behind the first one
abbrev pub box_due : Due → Option Space
box_due (tree_due s lemmas S pending done) = Some S.space
box_due d = None

abbrev pub box_in : Option WorkCourse → Option Space
box_in (Some (reached (alone d) n)) = box_due d
box_in (Some (reached (together (inside_due t d)) n)) = box_due d
box_in c = None

-- the point of a certificate of one check that is whole
abbrev pub point_in : Option WorkCourse → Option Space
point_in (Some (reached (alone (nothing_due s lemmas (at_point space))) n)) = Some space
point_in c = None

-- ---- bytes

-- no line feed is in the lines
abbrev pub AreWhole : List (List ℕ) → Type 0
AreWhole [] = Unit {0}
AreWhole (l ∷ ls) = IsTrue (all_bytes (λ b. not (nat_eq b 10)) l) × AreWhole ls

-- where the lines led, from the first one on
abbrev pub led_by : Checked → List (List ℕ) → Option WorkCourse
led_by c ls = Some (course_map lean_work (work_course c.checks ls))

-- of the bytes that were fed so far the checker has taken some lines, and the rest is not answered yet
pub record IsFed (bytes : List ℕ) (c : Checked) (unread : List ℕ) : Type 0 where
  pub taken : List (List ℕ)
  pub whole : AreWhole taken
  pub text : bytes ≡ text_of_lines taken ++ unread
  pub led : c.course ≡ led_by c taken

-- all lines of these bytes are taken, or those up to a fault
abbrev pub IsAt : Checked → List ℕ → Bool → Type 0
IsAt c bytes is_end = (c.course ≡ None) ⊎ (c.course ≡ led_by c (lines_ahead (record { unread = bytes; ended = is_end })))

-- the lines that a reader holds are taken, or those up to a fault
abbrev pub AreLinesTaken : Checked → Reading → Checked → Type 0
AreLinesTaken old reader new = (bytes : List ℕ) → IsFed bytes old reader.unread → IsAt new bytes reader.ended

-- where the input is not at its end, the checker goes on with what the reader keeps
abbrev pub IsFedOn : Checked → Reading → Checked → Reading → Result (Unit {0}) CertFault → Type 0
IsFedOn old reader new rest r = (bytes : List ℕ) → reader.ended ≡ false → IsFed bytes old reader.unread → OnOk r (IsFed bytes new rest.unread)
