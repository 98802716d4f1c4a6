-- The verdict of a text is that of its lines.
use Rattle.std.proofs.Common.{◌≡◌, ℕ, suc, ◌*◌, ◌≤◌, List, [], ◌∷◌, ◌++◌, map, Bool, Option, refl, ap, ◌∙◌, nat_le, length, length-append, arith}
use Rattle.std.specs.List.{AllByRecursion}
use Rattle.std.proofs.lemmas.Bool.{le-leb}
use Rattle.poly_graph.specs.Problem.{Problem}
use Rattle.cert_read.specs.Lines.{longest_line, lines_of}
use Rattle.cert_read.specs.CertLine.{CertLine, Parsed, line}
use Rattle.cert_read.specs.LineText.{line_text, text_of_lines, IsSpelled}
use Rattle.cert_read.proofs.Pieces.{AllLack, lines_of_text}
use Rattle.cert_read.proofs.Spelled.{spelled_line, line_lacks_break}
use Rattle.cert_model.specs.Due.{version_due, NextOf, on, faulty}
use Rattle.cert_model.specs.Accepted.{next, parsed_by, CourseOf, course_next, course_by, lines_course, course_of_lines, VerdictOf, verdict_of, ended, verdict, certificate_text, most_bytes}
use Rattle.cert_model.specs.Standing.{Stands, stands_at, standing_next, standing_by, lines_standing, standing_of_lines, standing}

no-breaks : (ls : List CertLine) → AllByRecursion IsSpelled ls → AllLack 10 (map line_text ls)
no-breaks [] h = tt
no-breaks (l ∷ ls) h = (line_lacks_break l h.0.0, no-breaks ls h.1)

-- a text of n lines has at most so many bytes
pub text_length : (ls : List CertLine) → AllByRecursion IsSpelled ls → length (certificate_text ls) ≤ length ls * suc longest_line
text_length [] h = omega arith
text_length (l ∷ ls) h = omega (arith, h.0.1, text_length ls h.1, length-append (line_text l) (10 ∷ text_of_lines (map line_text ls)))

module _ {D : Type 0} (step : D → CertLine → NextOf D) where
  abbrev step_by : D → Parsed → NextOf D
  step_by d l = parsed_by (step d) l

  same-next : (x : NextOf D) (n : ℕ) (j k : D → CourseOf D) → ((d : D) → j d ≡ k d) → course_next x n j ≡ course_next x n k
  same-next (on d) n j k h = h d
  same-next (faulty f) n j k h = refl

  same-standing : (x : NextOf D) (j k : D → List Stands) → ((d : D) → j d ≡ k d) → standing_next x j ≡ standing_next x k
  same-standing (on d) j k h = h d
  same-standing (faulty f) j k h = refl

  course-spelled : (ls : List CertLine) → AllByRecursion IsSpelled ls → (n : ℕ) (d : D) → course_by step_by n d (map line_text ls) ≡ lines_course step n d ls
  course-spelled [] h n d = refl
  course-spelled (l ∷ ls) h n d =
      ap (λ (x : Parsed). course_next (step_by d x) (suc n) (λ d'. course_by step_by (suc n) d' (map line_text ls))) (spelled_line l h.0)
      ∙ same-next (step d l) (suc n) _ _ (λ d'. course-spelled ls h.1 (suc n) d')

  -- the verdict of a text is that of its lines
  pub verdict_spelled : {V : Type 0} (finish : CourseOf D → VerdictOf V) (d : D) (ls : List CertLine) → AllByRecursion IsSpelled ls → length (certificate_text ls) ≤ most_bytes →
      verdict_of (λ xs. course_by step_by 0 d xs) finish (nat_le (length (certificate_text ls)) most_bytes) (certificate_text ls) ≡ finish (lines_course step 0 d ls)
  verdict_spelled finish d ls h e =
      ap (λ (t : Bool). verdict_of (λ xs. course_by step_by 0 d xs) finish t (certificate_text ls)) (le-leb (length (certificate_text ls)) most_bytes e)
      ∙ ap (λ (xs : List (List ℕ)). finish (course_by step_by 0 d xs)) (lines_of_text (map line_text ls) (no-breaks ls h))
      ∙ ap finish (course-spelled ls h 0 d)

  module _ (stood : D → Parsed → List Stands) where
    standing-spelled : (ls : List CertLine) → AllByRecursion IsSpelled ls → (d : D) → standing_by step_by stood d (map line_text ls) ≡ lines_standing step stood d ls
    standing-spelled [] h d = refl
    standing-spelled (l ∷ ls) h d =
        ap (λ (x : Parsed). stood d x ++ standing_next (step_by d x) (λ d'. standing_by step_by stood d' (map line_text ls))) (spelled_line l h.0)
        ∙ ap (λ (xs : List Stands). stood d (line l) ++ xs) (same-standing (step d l) _ _ (λ d'. standing-spelled ls h.1 d'))

    -- the lines of the main tree are those of the lines, too
    pub standing_spelled : (d : D) (ls : List CertLine) → AllByRecursion IsSpelled ls → standing_by step_by stood d (lines_of (certificate_text ls)) ≡ lines_standing step stood d ls
    standing_spelled d ls h = ap (standing_by step_by stood d) (lines_of_text (map line_text ls) (no-breaks ls h)) ∙ standing-spelled ls h d

module _ (p : Problem) (b : Option ℕ) where
  pub text_has_lines : (ls : List CertLine) → AllByRecursion IsSpelled ls → length (certificate_text ls) ≤ most_bytes → verdict p b (certificate_text ls) ≡ ended (course_of_lines p b 0 version_due ls)
  text_has_lines ls h e = verdict_spelled (next p b) ended version_due ls h e

  pub text_stands : (ls : List CertLine) → AllByRecursion IsSpelled ls → standing p b (certificate_text ls) ≡ standing_of_lines p b version_due ls
  text_stands ls h = standing_spelled (next p b) (stands_at p) version_due ls h
