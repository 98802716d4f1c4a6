-- The lines of a certificate's bytes, and the words of a line.
use Rattle.std.specs.Prelude.{ℕ, List, [], ◌∷◌, Bool, true, false, cond, ◌&&◌, nat_eq, nat_lt, length}

abbrev pub onto_first : ℕ → List (List ℕ) → List (List ℕ)
onto_first b [] = (b ∷ []) ∷ []
onto_first b (w ∷ ws) = (b ∷ w) ∷ ws

-- what stands between the bytes of one kind
abbrev pub split_at : ℕ → List ℕ → List (List ℕ)
split_at c [] = [] ∷ []
split_at c (b ∷ bs) = cond (nat_eq b c) ([] ∷ split_at c bs) (onto_first b (split_at c bs))

abbrev pub without_last_empty : List (List ℕ) → List (List ℕ)
without_last_empty [] = []
without_last_empty ([] ∷ []) = []
without_last_empty (l ∷ ls) = l ∷ without_last_empty ls

-- the lines, which end with LF: a last one without LF counts, and nothing after the last LF does not
abbrev pub lines_of : List ℕ → List (List ℕ)
lines_of bytes = without_last_empty (split_at 10 bytes)

-- a line has at most so many bytes, its LF aside
abbrev pub longest_line : ℕ
longest_line = 524288

abbrev pub is_too_long : List ℕ → Bool
is_too_long l = nat_lt longest_line (length l)

abbrev pub if_too_long : List ℕ → List (List ℕ)
if_too_long l = cond (is_too_long l) (l ∷ []) []

abbrev pub without_unfinished : List (List ℕ) → List (List ℕ)
without_unfinished [] = []
without_unfinished (l ∷ []) = if_too_long l
without_unfinished (l ∷ ls) = l ∷ without_unfinished ls

-- the lines of bytes that go on: a last one without LF counts only where it is too long, however it goes on
abbrev pub lines_so_far : List ℕ → List (List ℕ)
lines_so_far bytes = without_unfinished (split_at 10 bytes)

-- ---- words

abbrev pub all_bytes : (ℕ → Bool) → List ℕ → Bool
all_bytes test [] = true
all_bytes test (b ∷ bs) = test b && all_bytes test bs

-- one or more ASCII bytes
abbrev pub is_word : List ℕ → Bool
is_word [] = false
is_word bytes = all_bytes (λ b. nat_lt b 128) bytes

abbrev pub are_words : List (List ℕ) → Bool
are_words [] = true
are_words (w ∷ ws) = is_word w && are_words ws

-- what one space parts
abbrev pub words_of : List ℕ → List (List ℕ)
words_of l = split_at 32 l
