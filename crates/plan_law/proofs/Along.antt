-- What holds of what is due, and goes on to hold along lines that are honest, holds after the last line of an accepted certificate.
use Rattle.std.proofs.Common.{ℕ, suc, zero, List, [], ◌∷◌, ◌++◌, Bool, true, false, take, arith}
use Rattle.std.specs.Prelude.{All}
use Rattle.cover_model.specs.State.{Loosenings}
use Rattle.cert_read.specs.Lines.{lines_of, lines_so_far}
use Rattle.cert_read.specs.CertLine.{CertLine, Parsed, too_long, bad_line, bad_number, line, parsed}
use Rattle.cert_model.specs.Due.{NextOf, on, faulty}
use Rattle.cert_model.specs.Accepted.{parsed_by, CourseOf, stopped, reached, course_next, course_by, VerdictOf, ended_by, cut_off, verdict_of, most_bytes}
use Rattle.cert_model.specs.Standing.{Stands, standing_next, standing_by}
use Rattle.cert_model.proofs.Invariant.{IfOn, IfAccepted}

-- the first ones of a list, and those behind them
first-all : {X : Type 0} (G : X → Type 0) (xs ys : List X) → All G (xs ++ ys) → All G xs
first-all G [] ys h k x l = absurd (omega arith)
first-all G (x ∷ xs) ys h zero y l = h zero y (omega arith)
first-all G (x ∷ xs) ys h (suc k) y l = first-all G xs ys (λ i z m. h (suc i) z (omega arith)) k y (omega arith)

last-all : {X : Type 0} (G : X → Type 0) (xs ys : List X) → All G (xs ++ ys) → All G ys
last-all G [] ys h = h
last-all G (x ∷ xs) ys h = last-all G xs ys (λ i z m. h (suc i) z (omega arith))

module _ {D : Type 0} (next' : D → CertLine → NextOf D) (stood : D → Parsed → List Stands) (G : Stands → Type 0) (P : D → Type 0) (step : (d : D) (l : CertLine) → P d → All G (stood d (line l)) → IfOn P (next' d l)) where
  abbrev step_by : D → Parsed → NextOf D
  step_by d l = parsed_by (next' d) l

  parsed-step : (d : D) (l : Parsed) → P d → All G (stood d l) → IfOn P (step_by d l)
  parsed-step d too_long h k = tt
  parsed-step d bad_line h k = tt
  parsed-step d bad_number h k = tt
  parsed-step d (line l) h k = step d l h k

  abbrev Reaches : CourseOf D → Type 0
  Reaches (stopped f n) = Unit {0}
  Reaches (reached d n) = P d

  on-reaches : (x : NextOf D) (n : ℕ) (k : D → CourseOf D) (m : D → List Stands) → IfOn P x → All G (standing_next x m) → ((d : D) → P d → All G (m d) → Reaches (k d)) → Reaches (course_next x n k)
  on-reaches (on d) n k m h a f = f d h a
  on-reaches (faulty f') n k m h a f = tt

  course-reaches : (ls : List (List ℕ)) (n : ℕ) (d : D) → P d → All G (standing_by step_by stood d ls) → Reaches (course_by step_by n d ls)
  course-reaches [] n d h a = h
  course-reaches (l ∷ ls) n d h a =
      on-reaches (step_by d (parsed l)) (suc n) _ (λ d'. standing_by step_by stood d' ls) (parsed-step d (parsed l) h (first-all G (stood d (parsed l)) _ a)) (last-all G (stood d (parsed l)) _ a)
      (λ d' h' a'. course-reaches ls (suc n) d' h' a')

  module _ {V : Type 0} (Q : Loosenings → V → Type 0) (finish : D → ℕ → VerdictOf V) (last : (d : D) (n : ℕ) → P d → IfAccepted Q (finish d n)) where
    ended-shows : (c : CourseOf D) → Reaches c → IfAccepted Q (ended_by finish c)
    ended-shows (stopped f n) h = tt
    ended-shows (reached d n) h = last d n h

    cut-shows : (c : CourseOf D) → IfAccepted {V = V} Q (cut_off c)
    cut-shows (stopped f n) = tt
    cut-shows (reached d n) = tt

    pub honest_verdict : (few : Bool) (d : D) → P d → (bytes : List ℕ) → All G (standing_by step_by stood d (lines_of bytes)) →
        IfAccepted Q (verdict_of (λ ls. course_by step_by 0 d ls) (λ c. ended_by finish c) few bytes)
    honest_verdict true d h bytes a = ended-shows (course_by step_by 0 d (lines_of bytes)) (course-reaches (lines_of bytes) 0 d h a)
    honest_verdict false d h bytes a = cut-shows (course_by step_by 0 d (lines_so_far (take most_bytes bytes)))
