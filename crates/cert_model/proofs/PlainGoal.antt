-- What is accepted of a script with a goal as a certificate of its check is so without the goal.
use Rattle.std.proofs.Common.{◌≡◌, ℕ, suc, List, [], ◌∷◌, Bool, true, false, cond, Option, None, nat_le, length, take}
use Rattle.poly_graph.specs.Problem.{Problem}
use Rattle.cover_model.specs.State.{Loosenings}
use Rattle.cert_read.specs.Lines.{lines_of, lines_so_far}
use Rattle.cover_model.specs.Rules.{has_version_5}
use Rattle.cert_read.specs.CertLine.{CertLine, version, lower, Parsed, too_long, bad_line, bad_number, line, parsed}
use Rattle.cert_model.specs.Due.{CertFault, Due, version_due, margin_due, kind_due, Value, Next, on, faulty}
use Rattle.cert_model.specs.Accepted.{next, next_parsed, CourseOf, stopped, reached, course_next, course_by, course, Verdict, accepted, refused, at_end, ended, cut_off, verdict_of, verdict_by, most_bytes, IsAccepted}
use Rattle.cert_model.specs.Least.{LeastDue, header_due, cover_due, covered_due, shown_due, LeastNext, least_next, least_at_end, is_least_version, GoalDue, plain_due, least_due, plain, as_plain, as_least, goal_next, goal_step, GoalCourse, goal_course, GoalVerdict, plain_verdict, goal_ended, IsGoalAccepted}

module _ (p : Problem) (g : ℕ) (room : Bool) (b : Option ℕ) (s : Loosenings) (v : Value) where
  abbrev IsPlain : GoalVerdict → Type 0
  IsPlain w = w ≡ accepted s (plain v)

  not-refused : (f : CertFault) (n : ℕ) → IsPlain (refused f n) → ⊥
  not-refused f n e = cc

  -- ---- a least value is no plain one

  abbrev least_course : ℕ → LeastDue → List (List ℕ) → GoalCourse
  least_course n d ls = course_by (goal_step p g room b) n (least_due d) ls

  not-at-end : (d : LeastDue) (n : ℕ) → IsPlain (least_at_end d n) → ⊥
  not-at-end (covered_due s' low left) n e = cc
  not-at-end (shown_due s' x) n e = cc
  not-at-end _ n e = cc

  not-next : (x : LeastNext) (n : ℕ) (k : GoalDue → GoalCourse) → ((d : LeastDue) → IsPlain (goal_ended (k (least_due d))) → ⊥) → IsPlain (goal_ended (course_next (as_least x) n k)) → ⊥
  not-next (on d) n k ih e = ih d e
  not-next (faulty f) n k ih e = not-refused f n e

  not-parsed : (d : LeastDue) (x : Parsed) (n : ℕ) (k : GoalDue → GoalCourse) → ((d' : LeastDue) → IsPlain (goal_ended (k (least_due d'))) → ⊥) → IsPlain (goal_ended (course_next (goal_step p g room b (least_due d) x) n k)) → ⊥
  not-parsed d too_long n k ih e = not-refused _ n e
  not-parsed d bad_line n k ih e = not-refused _ n e
  not-parsed d bad_number n k ih e = not-refused _ n e
  not-parsed d (line l) n k ih e = not-next (least_next p g room b d l) n k ih e

  not-plain : (ls : List (List ℕ)) (n : ℕ) (d : LeastDue) → IsPlain (goal_ended (least_course n d ls)) → ⊥
  not-plain [] n d e = not-at-end d n e
  not-plain (l ∷ ls) n d e = not-parsed d (parsed l) (suc n) (λ d'. course_by (goal_step p g room b) (suc n) d' ls) (λ d'. not-plain ls (suc n) d') e

  -- ---- the same lines without the goal

  plain-end : (w : Verdict) → IsPlain (plain_verdict w) → w ≡ accepted s v
  plain-end (accepted s' v') e = cc
  plain-end (refused f n) e = absurd (not-refused f n e)

  -- where the lines that follow lead, with the goal and without
  abbrev Follows : GoalCourse → CourseOf Due → Type 0
  Follows c c' = IsPlain (goal_ended c) → ended c' ≡ accepted s v

  by-next : (x : Next) (n : ℕ) (k : GoalDue → GoalCourse) (k' : Due → CourseOf Due) → ((d : Due) → Follows (k (plain_due d)) (k' d)) → Follows (course_next (as_plain x) n k) (course_next x n k')
  by-next (on d) n k k' ih e = ih d e
  by-next (faulty f) n k k' ih e = absurd (not-refused f n e)

  by-test : (t : Bool) (l : LeastDue) (x : Next) (n : ℕ) (k : GoalDue → GoalCourse) (k' : Due → CourseOf Due) → ((d : Due) → Follows (k (plain_due d)) (k' d)) → ((d : LeastDue) → IsPlain (goal_ended (k (least_due d))) → ⊥) →
      Follows (course_next (cond t (on (least_due l)) (as_plain x)) n k) (course_next x n k')
  by-test true l x n k k' ih never e = absurd (never l e)
  by-test false l x n k k' ih never e = by-next x n k k' ih e

  by-line : (d : Due) (l : CertLine) (n : ℕ) (k : GoalDue → GoalCourse) (k' : Due → CourseOf Due) → ((d : Due) → Follows (k (plain_due d)) (k' d)) → ((d : LeastDue) → IsPlain (goal_ended (k (least_due d))) → ⊥) →
      Follows (course_next (goal_next p g room b (plain_due d) l) n k) (course_next (next p b d l) n k')
  by-line version_due (version i) n k k' ih never e = by-test (is_least_version i) (header_due (margin_due 2)) (next p b version_due (version i)) n k k' ih never e
  by-line (kind_due s) (lower low) n k k' ih never e = by-test (has_version_5 s) (cover_due s low None) (next p b (kind_due s) (lower low)) n k k' ih never e
  by-line d l n k k' ih never e = by-next (next p b d l) n k k' ih e

  by-parsed : (d : Due) (x : Parsed) (n : ℕ) (k : GoalDue → GoalCourse) (k' : Due → CourseOf Due) → ((d : Due) → Follows (k (plain_due d)) (k' d)) → ((d : LeastDue) → IsPlain (goal_ended (k (least_due d))) → ⊥) →
      Follows (course_next (goal_step p g room b (plain_due d) x) n k) (course_next (next_parsed p b d x) n k')
  by-parsed d too_long n k k' ih never e = absurd (not-refused _ n e)
  by-parsed d bad_line n k k' ih never e = absurd (not-refused _ n e)
  by-parsed d bad_number n k k' ih never e = absurd (not-refused _ n e)
  by-parsed d (line l) n k k' ih never e = by-line d l n k k' ih never e

  follows : (ls : List (List ℕ)) (n : ℕ) (d : Due) → Follows (course_by (goal_step p g room b) n (plain_due d) ls) (course p b n d ls)
  follows [] n d e = plain-end (at_end d n) e
  follows (l ∷ ls) n d e = by-parsed d (parsed l) (suc n) (λ d'. course_by (goal_step p g room b) (suc n) d' ls) (λ d'. course p b (suc n) d' ls) (λ d'. follows ls (suc n) d') (λ d'. not-plain ls (suc n) d') e

  cut-refused : (c : GoalCourse) → IsPlain (cut_off c) → ⊥
  cut-refused (stopped f n) e = not-refused f n e
  cut-refused (reached d n) e = not-refused _ 0 e

  by-length : (few : Bool) (bytes : List ℕ) → IsPlain (verdict_of (goal_course p g room b) goal_ended few bytes) → verdict_by few p b bytes ≡ accepted s v
  by-length true bytes e = follows (lines_of bytes) 0 version_due e
  by-length false bytes e = absurd (cut-refused (goal_course p g room b (lines_so_far (take most_bytes bytes))) e)

pub plain_accepted : (p : Problem) (g : ℕ) (room : Bool) (b : Option ℕ) (bytes : List ℕ) (s : Loosenings) (v : Value) → IsGoalAccepted p g room b bytes s (plain v) → IsAccepted p b bytes s v
plain_accepted p g room b bytes s v e = by-length p g room b s v (nat_le (length bytes) most_bytes) bytes e
