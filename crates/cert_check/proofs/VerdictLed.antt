-- The verdict of bytes is that of where their lines lead.
use Rattle.std.proofs.Common.{◌≡◌, ℕ, suc, List, [], ◌∷◌, length, take, Bool, true, false, nat_le, Option, refl, ap, sym, ◌∙◌}
use Rattle.poly_graph.specs.ProblemViews.{Parts, problem_of}
use Rattle.problem_session.specs.Session.{problems_of}
use Rattle.cert_read.specs.CertLine.{Parsed, too_long, bad_line, bad_number, line, parsed}
use Rattle.cert_read.specs.Lines.{lines_of, lines_so_far}
use Rattle.cert_model.specs.Due.{Due, version_due, NextOf, on, faulty}
use Rattle.cert_model.specs.Accepted.{CourseOf, Course, stopped, reached, next_parsed, course, course_by, course_next, ended, cut_off, most_bytes, verdict_of, verdict_by}
use Rattle.cert_model.specs.Session.{SessionDue, SessionCourse, SessionVerdict, session_step, session_start, session_course, session_ended, one_verdict}
use Rattle.cert_check.specs.Dues.{next_map}
use Rattle.cert_check.specs.Work.{Work, alone, together, Checks, WorkCourse, course_map, work_step, work_course, work_ended, work_verdict}

abbrev pub work_verdict_by : Bool → Checks → List ℕ → SessionVerdict
work_verdict_by few c bytes = verdict_of (work_course c) work_ended few bytes

-- a step of one that is held in a larger kind of what is due
module _ (c : Checks) where
  alone-step : (d : Due) (l : Parsed) → work_step c (alone d) l ≡ next_map (λ (e : Due). alone e) (next_parsed (problem_of c.problem) c.bound d l)
  alone-step d too_long = refl
  alone-step d bad_line = refl
  alone-step d bad_number = refl
  alone-step d (line l) = refl

  together-step : (d : SessionDue) (l : Parsed) → work_step c (together d) l ≡ next_map (λ (e : SessionDue). together e) (session_step (problem_of c.problem) (problems_of c.later) c.bound d l)
  together-step d too_long = refl
  together-step d bad_line = refl
  together-step d bad_number = refl
  together-step d (line l) = refl

held-next : {D : Type 0} (f : D → Work) (n : ℕ) (k : Work → WorkCourse) (h : D → CourseOf D) → ((d : D) → k (f d) ≡ course_map f (h d)) → (x : NextOf D) → course_next (next_map f x) n k ≡ course_map f (course_next x n h)
held-next f n k h e (on d) = e d
held-next f n k h e (faulty g) = refl

held-course : {D : Type 0} (f : D → Work) (big : Work → Parsed → NextOf Work) (small : D → Parsed → NextOf D) → ((d : D) (l : Parsed) → big (f d) l ≡ next_map f (small d l)) → (n : ℕ) (d : D) (ls : List (List ℕ)) →
    course_by big n (f d) ls ≡ course_map f (course_by small n d ls)
held-course f big small e n d [] = refl
held-course f big small e n d (l ∷ ls) =
    ap (λ (x : NextOf Work). course_next x (suc n) (λ w. course_by big (suc n) w ls)) (e d (parsed l))
    ∙ held-next f (suc n) (λ w. course_by big (suc n) w ls) (λ d'. course_by small (suc n) d' ls) (λ d'. held-course f big small e (suc n) d' ls) (small d (parsed l))

alone-ended : (x : Course) → one_verdict (ended x) ≡ work_ended (course_map (λ (d : Due). alone d) x)
alone-ended (stopped f n) = refl
alone-ended (reached d n) = refl

together-ended : (x : SessionCourse) → session_ended x ≡ work_ended (course_map (λ (d : SessionDue). together d) x)
together-ended (stopped f n) = refl
together-ended (reached d n) = refl

alone-cut : (x : Course) → one_verdict (cut_off x) ≡ cut_off (course_map (λ (d : Due). alone d) x)
alone-cut (stopped f n) = refl
alone-cut (reached d n) = refl

together-cut : {V : Type 0} (x : SessionCourse) → cut_off {D = SessionDue} {V = V} x ≡ cut_off (course_map (λ (d : SessionDue). together d) x)
together-cut (stopped f n) = refl
together-cut (reached d n) = refl

module _ (p : Parts) (b : Option ℕ) (bytes : List ℕ) where
  abbrev one : Checks
  one = record { problem = p; later = []; bound = b }

  alone-led : (ls : List (List ℕ)) → work_course one ls ≡ course_map (λ (d : Due). alone d) (course (problem_of p) b 0 version_due ls)
  alone-led ls = held-course (λ (d : Due). alone d) (work_step one) (next_parsed (problem_of p) b) (alone-step one) 0 version_due ls

  one-verdict : (few : Bool) → one_verdict (verdict_by few (problem_of p) b bytes) ≡ work_verdict_by few one bytes
  one-verdict true = alone-ended (course (problem_of p) b 0 version_due (lines_of bytes)) ∙ ap work_ended (sym (alone-led (lines_of bytes)))
  one-verdict false =
      let ls = lines_so_far (take most_bytes bytes) in alone-cut (course (problem_of p) b 0 version_due ls) ∙ ap cut_off (sym (alone-led ls))

  module _ (x : Parts × Bool) (later : List (Parts × Bool)) where
    abbrev several : Checks
    several = record { problem = p; later = x ∷ later; bound = b }

    together-led : (ls : List (List ℕ)) → work_course several ls ≡ course_map (λ (d : SessionDue). together d) (session_course (problem_of p) (problems_of (x ∷ later)) b ls)
    together-led ls = held-course (λ (d : SessionDue). together d) (work_step several) (session_step (problem_of p) (problems_of (x ∷ later)) b) (together-step several) 0 session_start ls

    several-verdict : (few : Bool) → verdict_of (session_course (problem_of p) (problems_of (x ∷ later)) b) session_ended few bytes ≡ work_verdict_by few several bytes
    several-verdict true = together-ended (session_course (problem_of p) (problems_of (x ∷ later)) b (lines_of bytes)) ∙ ap work_ended (sym (together-led (lines_of bytes)))
    several-verdict false =
        let ls = lines_so_far (take most_bytes bytes) in together-cut (session_course (problem_of p) (problems_of (x ∷ later)) b ls) ∙ ap cut_off (sym (together-led ls))

  by-later : (later : List (Parts × Bool)) → work_verdict (record { problem = p; later = later; bound = b }) bytes ≡ work_verdict_by (nat_le (length bytes) most_bytes) (record { problem = p; later = later; bound = b }) bytes
  by-later [] = one-verdict (nat_le (length bytes) most_bytes)
  by-later (x ∷ later) = several-verdict x later (nat_le (length bytes) most_bytes)

pub verdict_led : (c : Checks) (bytes : List ℕ) → work_verdict c bytes ≡ work_verdict_by (nat_le (length bytes) most_bytes) c bytes
verdict_led c bytes = by-later c.problem c.bound bytes c.later
