-- What holds of what is due at the first line, and goes on to hold, holds after the last line of an accepted certificate.
use Rattle.std.proofs.Common.{ℕ, suc, List, [], ◌∷◌, Bool, true, false, cond, IsTrue, Option, refl, subst, length, nat_le, take}
use Rattle.poly_graph.specs.Problem.{Problem}
use Rattle.cover_model.specs.State.{State, Loosenings}
use Rattle.cert_read.specs.Lines.{lines_of, lines_so_far}
use Rattle.cert_read.specs.CertLine.{CertLine, Parsed, too_long, bad_line, bad_number, line, parsed}
use Rattle.cert_model.specs.Due.{CertFault, Value, Due, version_due, nothing_due, NextOf, on, faulty, given}
use Rattle.cert_model.specs.Accepted.{next, parsed_by, CourseOf, stopped, reached, course_next, course_by, VerdictOf, accepted, refused, at_end, ended_by, cut_off, verdict_of, IsAccepted, most_bytes}

abbrev pub IfOn : {D : Type 0} → (D → Type 0) → NextOf D → Type 0
IfOn P (on d) = P d
IfOn P (faulty f) = Unit {0}

-- where the verdict accepts, this holds of its loosenings and its value
abbrev pub IfAccepted : {V : Type 0} → (Loosenings → V → Type 0) → VerdictOf V → Type 0
IfAccepted Q (accepted s v) = Q s v
IfAccepted Q (refused f n) = Unit {0}

-- by the test of a line
pub given_on : {D : Type 0} (P : D → Type 0) (t : Bool) (d : D) (f : CertFault) → (IsTrue t → P d) → IfOn P (given t d f)
given_on P true d f k = k refl
given_on P false d f k = tt

pub cond_on : {D : Type 0} (P : D → Type 0) (t : Bool) (x y : NextOf D) → (IsTrue t → IfOn P x) → IfOn P y → IfOn P (cond t x y)
cond_on P true x y h k = h refl
cond_on P false x y h k = k

module _ {D : Type 0} (next' : D → CertLine → NextOf D) (P : D → Type 0) (step : (d : D) (l : CertLine) → P d → IfOn P (next' d l)) where
  parsed-step : (d : D) (l : Parsed) → P d → IfOn P (parsed_by (next' d) l)
  parsed-step d too_long h = tt
  parsed-step d bad_line h = tt
  parsed-step d bad_number h = tt
  parsed-step d (line l) h = step d l h

  abbrev Reaches : CourseOf D → Type 0
  Reaches (stopped f n) = Unit {0}
  Reaches (reached d n) = P d

  on-reaches : (x : NextOf D) (n : ℕ) (k : D → CourseOf D) → IfOn P x → ((d : D) → P d → Reaches (k d)) → Reaches (course_next x n k)
  on-reaches (on d) n k h f = f d h
  on-reaches (faulty f') n k h f = tt

  abbrev step_by : D → Parsed → NextOf D
  step_by d l = parsed_by (next' d) l

  course-reaches : (ls : List (List ℕ)) (n : ℕ) (d : D) → P d → Reaches (course_by step_by n d ls)
  course-reaches [] n d h = h
  course-reaches (l ∷ ls) n d h = on-reaches (step_by d (parsed l)) (suc n) _ (parsed-step d (parsed l) h) (λ d' h'. course-reaches ls (suc n) d' h')

  module _ {V : Type 0} (Q : Loosenings → V → Type 0) (finish : D → ℕ → VerdictOf V) (last : (d : D) (n : ℕ) → P d → IfAccepted Q (finish d n)) where
    ended-shows : (c : CourseOf D) → Reaches c → IfAccepted Q (ended_by finish c)
    ended-shows (stopped f n) h = tt
    ended-shows (reached d n) h = last d n h

    cut-shows : (c : CourseOf D) → IfAccepted {V = V} Q (cut_off c)
    cut-shows (stopped f n) = tt
    cut-shows (reached d n) = tt

    -- where the lines begin at what is due, and it holds there
    pub verdict_shows : (few : Bool) (d : D) → P d → (bytes : List ℕ) → IfAccepted Q (verdict_of (λ ls. course_by step_by 0 d ls) (λ c. ended_by finish c) few bytes)
    verdict_shows true d h bytes = ended-shows (course_by step_by 0 d (lines_of bytes)) (course-reaches (lines_of bytes) 0 d h)
    verdict_shows false d h bytes = cut-shows (course_by step_by 0 d (lines_so_far (take most_bytes bytes)))

-- the same of a certificate of one check
module _ (p : Problem) (b : Option ℕ) (P : Due → Type 0) (start : P version_due) (step : (d : Due) (l : CertLine) → P d → IfOn P (next p b d l)) where
  abbrev pub AtEnd : Loosenings → Value → Type 0
  AtEnd s v = (lemmas : List State) × P (nothing_due s lemmas v)

  at-end : (d : Due) (n : ℕ) → P d → IfAccepted AtEnd (at_end d n)
  at-end (nothing_due s lemmas v) n h = (lemmas, h)
  at-end _ n h = tt

  pub holds_at_end : (bytes : List ℕ) (s : Loosenings) (v : Value) → IsAccepted p b bytes s v → AtEnd s v
  holds_at_end bytes s v e = subst (λ (w : VerdictOf Value). IfAccepted AtEnd w) e (verdict_shows (next p b) P step AtEnd at_end at-end (nat_le (length bytes) most_bytes) version_due start bytes)
