-- A first line that is too long.
use Rattle.std.proofs.Common.{◌≡◌, ℕ, suc, ◌<◌, ◌≤◌, List, [], ◌∷◌, Bool, Option, IsTrue, ap, ◌∙◌, length, arith}
use Rattle.std.proofs.lemmas.Bool.{le-leb}
use Rattle.poly_graph.specs.Problem.{Problem}
use Rattle.cert_read.specs.Lines.{longest_line, without_last_empty, lines_of}
use Rattle.cert_read.specs.CertLine.{unless_long}
use Rattle.cert_read.proofs.Pieces.{lacks, split_alone}
use Rattle.cert_model.specs.Due.{LineTooLong, version_due}
use Rattle.cert_model.specs.Accepted.{next_parsed, course_next, course, ended, verdict, verdict_by, refused, most_bytes}

one-line : (l : List ℕ) → 0 < length l → IsTrue (lacks 10 l) → lines_of l ≡ l ∷ []
one-line [] s h = absurd (omega (arith, s))
one-line (b ∷ l) s h = ap without_last_empty (split_alone 10 (b ∷ l) h)

pub long_first : (p : Problem) (b : Option ℕ) (l : List ℕ) → IsTrue (lacks 10 l) → longest_line < length l → length l ≤ most_bytes → verdict p b l ≡ refused LineTooLong 1
long_first p b l h k m =
    ap (λ (t : Bool). verdict_by t p b l) (le-leb (length l) most_bytes m)
    ∙ ap (λ (ls : List (List ℕ)). ended (course p b 0 version_due ls)) (one-line l (omega (arith, k)) h)
    ∙ ap (λ (t : Bool). ended (course_next (next_parsed p b version_due (unless_long t l)) 1 (λ d. course p b 1 d []))) (le-leb (suc longest_line) (length l) k)
