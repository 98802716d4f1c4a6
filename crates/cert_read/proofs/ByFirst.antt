-- What a line of words says.
use Rattle.std.proofs.Common.{◌≡◌, ◌≤◌, ℕ, List, ◌∷◌, Bool, true, false, nat_lt, Result, length, ap, sym, ◌∙◌, subst, arith}
use Rattle.std.proofs.lemmas.Bool.Decides.{nat_tests}
use Rattle.cert_read.specs.CertLine.{parsed, unless_long, if_words, by_first}
use Rattle.cert_read.specs.declared.line.Line.{Line}
use Rattle.cert_read.specs.declared.fault.LineFault.{LineFault}
use Rattle.cert_read.specs.Lines.{are_words, words_of}
use Rattle.cert_read.specs.LineAnswers.{IsParse}

short_test : (n : ℕ) → n ≤ 524288 → nat_lt 524288 n ≡ false
short_test n h = grind (arith, nat_tests)

pub parsed_by : (bytes w : List ℕ) (ws : List (List ℕ)) → length bytes ≤ 524288 → are_words (words_of bytes) ≡ true → words_of bytes ≡ w ∷ ws → parsed bytes ≡ by_first (w ∷ ws)
parsed_by bytes w ws l h e =
    ap (λ (t : Bool). unless_long t bytes) (short_test (length bytes) l) ∙ ap (λ (t : Bool). if_words t bytes) h ∙ ap by_first e

pub said_by : (r : Result Line LineFault) (bytes w t : List ℕ) (ws : List (List ℕ)) → length bytes ≤ 524288 → are_words (words_of bytes) ≡ true → words_of bytes ≡ w ∷ ws
    → w ≡ t → IsParse r (by_first (t ∷ ws)) → IsParse r (parsed bytes)
said_by r bytes w t ws l h e f s = subst (IsParse r) (sym (parsed_by bytes w ws l h e ∙ ap (λ (v : List ℕ). by_first (v ∷ ws)) f)) s
