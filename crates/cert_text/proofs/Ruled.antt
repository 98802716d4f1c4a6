-- Lines of trees are appended by their first words and their operands.
use Rattle.std.proofs.Common.{◌≡◌, ℕ, ◌≤◌, List, [], ◌∷◌, ◌++◌, length, length-append, append_assoc, refl, ap, ap₂, sym, ◌∙◌, subst, arith}
use Rattle.std.specs.Prelude.{decimal}
use Rattle.std.proofs.lemmas.List.{append-nil}
use Rattle.dyadic.specs.Rounding.{Dyadic}
use Rattle.dyadic.specs.NumberText.{number_spelling}
use Rattle.cover_line.specs.Line.{Multipliers, Line}
use Rattle.cover_line.specs.Words.{RuleWord, empty_word, pull_word, unit_word, ban_word, void_word, push_word, void_no_word, false_word, by_word, cut_word, flip_word, case_word, either_word, open_word, stuck_word, combine_word, void_combine_word, void_squares_word, word_text, word_of, Operands, of_nothing, of_atom, of_lemma, of_atom_lemma, of_axis, of_axis_place, of_multipliers, operands_of}
use Rattle.cert_read.specs.CertLine.{rule_line}
use Rattle.cert_read.specs.LineText.{spaced, line_text, pair_words, operand_words, AreSpelledOperands, IsCount}
use Rattle.cert_model.specs.Accepted.{certificate_text}
use Rattle.cert_text.specs.Lines.{HasAppended, HasPairs, paired_off}
use Rattle.cert_text.specs.Ruled.{after_spaces, HasFewPairs, HasOperands, HasRuled}
use Rattle.cert_text.proofs.Spelling.{decimal_short, line_appended}

-- ---- operands

pub no_operands : (a : List ℕ) → HasOperands a of_nothing a
no_operands a = record { written = sym (append-nil a); spelled = λ k. tt; short = λ k. omega arith }

-- one number, after a space
one-number : (n : ℕ) (a b : List ℕ) → b ≡ a ++ (32 ∷ decimal n) → b ≡ a ++ after_spaces (decimal n ∷ [])
one-number n a b e = e ∙ ap (λ (t : List ℕ). a ++ (32 ∷ t)) (sym (append-nil (decimal n)))

one-short : (n : ℕ) → IsCount n → length (after_spaces (decimal n ∷ [])) ≤ 520000
one-short n h = omega (arith, decimal_short n h, length-append (decimal n) [])

pub atom_operand : (n : ℕ) (a b : List ℕ) → IsCount n → b ≡ a ++ (32 ∷ decimal n) → HasOperands a (of_atom n) b
atom_operand n a b h e = record { written = one-number n a b e; spelled = λ k. h; short = λ k. one-short n h }

pub lemma_operand : (n : ℕ) (a b : List ℕ) → IsCount n → b ≡ a ++ (32 ∷ decimal n) → HasOperands a (of_lemma n) b
lemma_operand n a b h e = record { written = one-number n a b e; spelled = λ k. h; short = λ k. one-short n h }

pub axis_operand : (n : ℕ) (a b : List ℕ) → IsCount n → b ≡ a ++ (32 ∷ decimal n) → HasOperands a (of_axis n) b
axis_operand n a b h e = record { written = one-number n a b e; spelled = λ k. h; short = λ k. one-short n h }

pub two_operands : (j i : ℕ) (a b c : List ℕ) → IsCount j → IsCount i → b ≡ a ++ (32 ∷ decimal j) → c ≡ b ++ (32 ∷ decimal i) → HasOperands a (of_atom_lemma j i) c
two_operands j i a b c h k e f = record {
  written = f ∙ ap (λ (t : List ℕ). t ++ (32 ∷ decimal i)) e ∙ append_assoc a (32 ∷ decimal j) (32 ∷ decimal i) ∙ ap (λ (t : List ℕ). a ++ (32 ∷ (decimal j ++ (32 ∷ t)))) (sym (append-nil (decimal i)));
  spelled = λ x. (h, k);
  short = λ x. omega (arith, decimal_short j h, decimal_short i k, length-append (decimal j) (32 ∷ (decimal i ++ [])), length-append (decimal i) []);
}

pub place_operands : (axis : ℕ) (at : Dyadic) (a b : List ℕ) → HasPairs a ((axis, at) ∷ []) b → HasOperands a (of_axis_place axis at) b
place_operands axis at a b h = record { written = h.written; spelled = λ k. h.spelled.0; short = λ k. omega (arith, h.short) }

pub pairs_spaced : (ps : Multipliers) → paired_off ps ≡ after_spaces (pair_words ps)
pairs_spaced [] = refl
pairs_spaced ((j, l) ∷ ps) = ap (λ (t : List ℕ). 32 ∷ (decimal j ++ (32 ∷ (number_spelling l ++ t)))) (pairs_spaced ps)

pub multiplier_operands : (ps : Multipliers) (a b : List ℕ) → HasPairs a ps b → HasOperands a (of_multipliers ps) b
multiplier_operands ps a b h = record {
  written = h.written ∙ ap (λ (t : List ℕ). a ++ t) (pairs_spaced ps);
  spelled = λ k. (k.0, h.spelled);
  short = λ k. omega (arith, k.1, h.short, ap length (pairs_spaced ps));
}

-- ---- lines

word-short : (w : RuleWord) → length (word_text w) ≤ 16
word-short empty_word = omega arith
word-short pull_word = omega arith
word-short unit_word = omega arith
word-short ban_word = omega arith
word-short void_word = omega arith
word-short push_word = omega arith
word-short void_no_word = omega arith
word-short false_word = omega arith
word-short by_word = omega arith
word-short cut_word = omega arith
word-short flip_word = omega arith
word-short case_word = omega arith
word-short either_word = omega arith
word-short open_word = omega arith
word-short stuck_word = omega arith
word-short combine_word = omega arith
word-short void_combine_word = omega arith
word-short void_squares_word = omega arith

pub ruled : (w : RuleWord) (o : Operands) (a b c d : List ℕ) → b ≡ a ++ word_text w → HasOperands b o c → d ≡ c ++ (10 ∷ []) → HasRuled a w o d
ruled w o a b c d e h f =
    let t : List ℕ = after_spaces (operand_words o) in
    record {
      written = f ∙ ap (λ (s : List ℕ). s ++ (10 ∷ [])) (h.written ∙ ap (λ (s : List ℕ). s ++ t) e ∙ append_assoc a (word_text w) t) ∙ append_assoc a (word_text w ++ t) (10 ∷ []);
      spelled = h.spelled;
      short = h.short;
    }

spaced-words : (w : List ℕ) (ws : List (List ℕ)) → spaced (w ∷ ws) ≡ w ++ after_spaces ws
spaced-words w [] = sym (append-nil w)
spaced-words w (v ∷ ws) = ap (λ (t : List ℕ). w ++ (32 ∷ t)) (spaced-words v ws)

module _ (l : Line) (w : RuleWord) (o : Operands) (a b : List ℕ) (is_word : w ≡ word_of l) (are_operands : o ≡ operands_of l) (h : HasRuled a w o b) where
  text : line_text (rule_line l) ≡ word_text w ++ after_spaces (operand_words o)
  text = spaced-words (word_text (word_of l)) (operand_words (operands_of l)) ∙ ap₂ (λ (v : RuleWord) (p : Operands). word_text v ++ after_spaces (operand_words p)) (sym is_word) (sym are_operands)

  -- a line by its rule
  pub ruled_text : b ≡ a ++ certificate_text (rule_line l ∷ [])
  ruled_text = h.written ∙ ap (λ (t : List ℕ). a ++ (t ++ (10 ∷ []))) (sym text)

  pub ruled_appended : HasFewPairs o → HasAppended a (rule_line l ∷ []) b
  ruled_appended few = line_appended a b (rule_line l) (subst AreSpelledOperands are_operands (h.spelled few))
      (omega (arith, h.short few, word-short w, ap length text, length-append (word_text w) (after_spaces (operand_words o)))) ruled_text
