-- What a reader finds at the front of a text.
use Rattle.std.specs.Prelude.{◌≡◌, ℕ, ◌+◌, ◌≤◌, ◌<◌, List, [], ◌∷◌, length, take, drop}
use Rattle.script_model.specs.Sexp as sexp
use Rattle.smt_sexp.specs.Lexicon.{Front, Said, token, fault, opening, closing, word, TextFault, bad_byte, open_token, too_wide, front, silent, run, is_digit, is_symbol_byte, number_front, decimal_front, symbol_front, quoted, quoted_front, string_text, string_front, keyword_front}
use Rattle.smt_sexp.specs.Views.{leaf_of}
use Rattle.smt_sexp.specs.declared.tokens.Piece.{Piece}
use Rattle.smt_sexp.specs.declared.tokens.Piece.TheVariants.{Blank, Opening, Closing, Word, BadByte, TooWide, Unended}
use Rattle.smt_sexp.specs.declared.tokens.Lexeme.{Lexeme}

-- what stands at the front of a text
abbrev pub front_of : List ℕ → Front
front_of [] = silent 0
front_of (b ∷ bs) = front b bs

-- the same where the first byte is of a known class
abbrev pub number_at : List ℕ → Front
number_at bytes = number_front (run is_digit bytes) (drop (length (run is_digit bytes)) bytes)

abbrev pub decimal_at : ℕ → List ℕ → Front
decimal_at n bytes = let rest = drop (n + 1) bytes in decimal_front (take n bytes) (run is_digit rest) (drop (length (run is_digit rest)) rest)

abbrev pub symbol_at : List ℕ → Front
symbol_at bytes = symbol_front (run is_symbol_byte bytes)

abbrev pub quoted_at : List ℕ → Front
quoted_at bytes = quoted_front (length bytes) (quoted (drop 1 bytes))

abbrev pub string_at : List ℕ → Front
string_at bytes = string_front (length bytes) (string_text (drop 1 bytes))

abbrev pub keyword_at : List ℕ → Front
keyword_at bytes = keyword_front (run is_symbol_byte (drop 1 bytes))

-- its first fault is this one, at this distance; at most a leaf comes before it
pub data FirstFault : List (ℕ × Said) → ℕ → TextFault → Type 0 where
  at_once : {k : ℕ} {f : TextFault} {rest : List (ℕ × Said)} → FirstFault ((k, fault f) ∷ rest) k f
  after_leaf : {l : sexp.Leaf} {k : ℕ} {f : TextFault} {rest : List (ℕ × Said)} → FirstFault ((0, token (word l)) ∷ (k, fault f) ∷ rest) k f

-- a piece tells what is said of a front of this size
abbrev pub IsPieceOf : ℕ → Front → Piece → Type 0
IsPieceOf n f Blank = f.says ≡ []
IsPieceOf n f Opening = f.says ≡ (0, token opening) ∷ []
IsPieceOf n f Closing = f.says ≡ (0, token closing) ∷ []
IsPieceOf n f (Word l) = f.says ≡ (0, token (word (leaf_of l))) ∷ []
IsPieceOf n f (BadByte k) = (k ≤ n) × FirstFault f.says k bad_byte
IsPieceOf n f TooWide = FirstFault f.says 0 too_wide
IsPieceOf n f Unended = (f.says ≡ (0, fault open_token) ∷ []) × (f.size ≡ n)

-- what was found is this front of the text
pub record IsFrontOf (bytes : List ℕ) (f : Front) (found : Lexeme) : Type 0 where
  pub size : found.size ≡ f.size
  pub some : 0 < found.size
  pub within : found.size ≤ length bytes
  pub tells : IsPieceOf (length bytes) f found.piece
