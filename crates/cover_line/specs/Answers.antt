-- What is answered of the bytes of a word.
use Rattle.std.specs.Prelude.{◌≡◌, ◌≢◌, ℕ, List, Option, Some, None}
use Rattle.cover_line.specs.declared.word.Word.{Word}
use Rattle.cover_line.specs.Words.{RuleWord, word_text}
use Rattle.cover_line.specs.Views.{rule_word}

-- the word that the bytes spell; none where they spell none
abbrev pub IsWordIn : List ℕ → Option Word → Type 0
IsWordIn bytes (Some w) = bytes ≡ word_text (rule_word w)
IsWordIn bytes None = (w : RuleWord) → bytes ≢ word_text w
