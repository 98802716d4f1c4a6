-- The text of a cover that goes on.
use Rattle.std.proofs.Common.{◌≡◌, ℕ, ◌+◌, ◌<◌, ◌≤◌, List, [], ◌∷◌, ◌++◌, map, take, get_or, length, append_assoc, ap, sym, ◌∙◌}
use Rattle.std.proofs.lemmas.List.{map_more, take_all}
use Rattle.cert_read.specs.CertLine.{CertLine}
use Rattle.cert_read.specs.Views.{line_of}
use Rattle.cert_read.specs.declared.line.Line as code
use Rattle.cert_model.specs.Accepted.{certificate_text}
use Rattle.cert_text.proofs.Spelling.{text_append}

-- one more line
pub one_more_line : (xs : List code.Line) (a b c : List ℕ) (i : ℕ) (x : code.Line) → i < length xs → x ≡ get_or xs i x → b ≡ a ++ certificate_text (map line_of (take i xs)) → c ≡ b ++ certificate_text (line_of x ∷ []) →
    c ≡ a ++ certificate_text (map line_of (take (i + 1) xs))
one_more_line xs a b c i x h e p q =
    let done : List CertLine = map line_of (take i xs) in
    q ∙ ap (λ (t : List ℕ). t ++ certificate_text (line_of x ∷ [])) p ∙ append_assoc a (certificate_text done) (certificate_text (line_of x ∷ []))
    ∙ ap (λ (t : List ℕ). a ++ t) (sym (text_append done (line_of x ∷ [])))
    ∙ ap (λ (ls : List CertLine). a ++ certificate_text ls) (ap (λ (y : code.Line). done ++ (line_of y ∷ [])) e ∙ sym (map_more line_of xs i x h))

pub all_lines : (xs : List code.Line) (a b : List ℕ) (i : ℕ) → length xs ≤ i → b ≡ a ++ certificate_text (map line_of (take i xs)) → b ≡ a ++ certificate_text (map line_of xs)
all_lines xs a b i h p = p ∙ ap (λ (ys : List code.Line). a ++ certificate_text (map line_of ys)) (take_all i xs h)

-- five texts behind one another
pub all_parts : (t0 a b c d e f t1 t2 t3 t4 t5 t6 : List ℕ) → t0 ≡ [] → t1 ≡ t0 ++ a → t2 ≡ t1 ++ b → t3 ≡ t2 ++ c → t4 ≡ t3 ++ d → t5 ≡ t4 ++ e → t6 ≡ t5 ++ f → t6 ≡ a ++ (b ++ (c ++ (d ++ (e ++ f))))
all_parts t0 a b c d e f t1 t2 t3 t4 t5 t6 h0 h1 h2 h3 h4 h5 h6 =
    let all : t6 ≡ (((((t0 ++ a) ++ b) ++ c) ++ d) ++ e) ++ f = h6 ∙ ap (λ (x : List ℕ). x ++ f) (h5 ∙ ap (λ (x : List ℕ). x ++ e) (h4 ∙ ap (λ (x : List ℕ). x ++ d) (h3 ∙ ap (λ (x : List ℕ). x ++ c) (h2 ∙ ap (λ (x : List ℕ). x ++ b) h1)))) in
    all ∙ ap (λ (x : List ℕ). (((((x ++ a) ++ b) ++ c) ++ d) ++ e) ++ f) h0 ∙ regroup a b c d e f
  where
    regroup : (a b c d e f : List ℕ) → ((((a ++ b) ++ c) ++ d) ++ e) ++ f ≡ a ++ (b ++ (c ++ (d ++ (e ++ f))))
    regroup a b c d e f = simp append_assoc
