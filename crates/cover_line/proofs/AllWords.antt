-- Bytes that are none of the words.
use Rattle.std.proofs.Common.{◌≡◌, ◌≢◌, ◌<◌, ◌≤◌, ℕ, ◌+◌, suc, List, [], ◌∷◌, length, get_or, inl, inr, sym, ap, ◌∙◌, ⊎_elim, arith}
use Rattle.std.proofs.lemmas.Bool.{cases_lt}
use Rattle.cover_line.specs.declared.word.NarrowingKind.TheVariants as kind
use Rattle.cover_line.specs.declared.word.Word.{Word}
use Rattle.cover_line.specs.declared.word.Word.TheVariants as word
use Rattle.cover_line.specs.Words.{RuleWord, empty_word, pull_word, unit_word, ban_word, void_word, push_word, void_no_word, false_word, by_word, cut_word, flip_word, case_word, either_word, open_word, stuck_word, combine_word, void_combine_word, void_squares_word, word_text}
use Rattle.cover_line.specs.Views.{rule_word}

-- the words in the order in which they are tried
abbrev pub words : List Word
words =
    word.Narrow kind.Pull ∷ word.Narrow kind.Push ∷ word.Narrow kind.Combine ∷ word.Void kind.Pull ∷ word.Void kind.Push ∷ word.Void kind.Combine ∷
    word.Squares ∷ word.False ∷ word.By ∷ word.Unit ∷ word.Ban ∷ word.Cut ∷ word.Flip ∷ word.Case ∷ word.Either ∷ word.Open ∷ word.Stuck ∷ word.Empty ∷ []

-- the bytes are none of the first n
abbrev pub AllDiffer : List ℕ → ℕ → Type 0
AllDiffer bytes n = (k : ℕ) → k < n → bytes ≢ word_text (rule_word (get_or words k (word.Narrow kind.Pull)))

pub none_differ : (bytes : List ℕ) → AllDiffer bytes 0
none_differ bytes k h = absurd (omega (arith, h))

pub one_more : (bytes : List ℕ) (n : ℕ) (w : Word) → AllDiffer bytes n → w ≡ get_or words n (word.Narrow kind.Pull) → bytes ≢ word_text (rule_word w) → AllDiffer bytes (n + 1)
one_more bytes n w h e f k l =
    ⊎_elim (λ (m : k < n). h k m)
    (λ (m : n ≤ k). let same : n ≡ k = omega (arith, l, m) in λ g. f (g ∙ ap (λ (i : ℕ). word_text (rule_word (get_or words i (word.Narrow kind.Pull)))) (sym same) ∙ ap (λ (v : Word). word_text (rule_word v)) (sym e)))
    (cases_lt k n)

pub all_differ : (bytes : List ℕ) → AllDiffer bytes 18 → (w : RuleWord) → bytes ≢ word_text w
all_differ bytes h pull_word = h 0 (omega arith)
all_differ bytes h push_word = h 1 (omega arith)
all_differ bytes h combine_word = h 2 (omega arith)
all_differ bytes h void_word = h 3 (omega arith)
all_differ bytes h void_no_word = h 4 (omega arith)
all_differ bytes h void_combine_word = h 5 (omega arith)
all_differ bytes h void_squares_word = h 6 (omega arith)
all_differ bytes h false_word = h 7 (omega arith)
all_differ bytes h by_word = h 8 (omega arith)
all_differ bytes h unit_word = h 9 (omega arith)
all_differ bytes h ban_word = h 10 (omega arith)
all_differ bytes h cut_word = h 11 (omega arith)
all_differ bytes h flip_word = h 12 (omega arith)
all_differ bytes h case_word = h 13 (omega arith)
all_differ bytes h either_word = h 14 (omega arith)
all_differ bytes h open_word = h 15 (omega arith)
all_differ bytes h stuck_word = h 16 (omega arith)
all_differ bytes h empty_word = h 17 (omega arith)
