-- The symbols of SMT-LIB 2.6, section 3.1: their bytes, and the words that are none unless they are quoted.
use Rattle.std.specs.Prelude.{ℕ, List, [], ◌∷◌, Bool, true, false, not, ◌&&◌, ◌||◌, is_some, nat_eq, nat_le, codes}
use Rattle.script_model.specs.Reading.{found}
use Rattle.script_model.specs.Sexp.{Reserved, bang, underscore, as_word, let_word, exists_word, forall_word, match_word, par_word}

abbrev pub is_digit : ℕ → Bool
is_digit b = nat_le 48 b && nat_le b 57

abbrev pub is_letter : ℕ → Bool
is_letter b = (nat_le 65 b && nat_le b 90) || (nat_le 97 b && nat_le b 122)

abbrev pub among : ℕ → List ℕ → Bool
among b [] = false
among b (c ∷ cs) = nat_eq b c || among b cs

abbrev pub is_symbol_byte : ℕ → Bool
is_symbol_byte b = is_letter b || is_digit b || among b (codes "~!@$%^&*_-+=<>.?/")

abbrev pub reserved_words : List (List ℕ × Reserved)
reserved_words = (codes "!", bang) ∷ (codes "_", underscore) ∷ (codes "as", as_word) ∷ (codes "let", let_word) ∷
    (codes "exists", exists_word) ∷ (codes "forall", forall_word) ∷ (codes "match", match_word) ∷ (codes "par", par_word) ∷ []

abbrev pub are_symbol_bytes : List ℕ → Bool
are_symbol_bytes [] = true
are_symbol_bytes (b ∷ bs) = is_symbol_byte b && are_symbol_bytes bs

-- a symbol that needs no bars: symbol bytes, the first of which is no digit, and no reserved word
abbrev pub is_simple_symbol : List ℕ → Bool
is_simple_symbol [] = false
is_simple_symbol (b ∷ bs) = not (is_digit b) && are_symbol_bytes (b ∷ bs) && not (is_some (found (b ∷ bs) reserved_words))
