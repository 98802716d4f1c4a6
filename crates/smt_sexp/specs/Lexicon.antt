-- The tokens of a text, and its first fault.
use Rattle.std.specs.Prelude.{ℕ, zero, suc, pred, ◌+◌, ◌^◌, List, [], ◌∷◌, ◌++◌, Bool, false, cond, not, ◌&&◌, Option, Some, None, nat_eq, nat_lt, nat_le, length, take, drop, codes}
use Rattle.std.specs.Str.{bytes_eq}
use Rattle.std.specs.Str.Parse.{digits_value}
use Rattle.script_model.specs.Sexp.{Place, Leaf, numeral, decimal, symbol, reserved, string, keyword, Reserved, Sexp, leaf, group, Sexps, none, more}
use Rattle.script_model.specs.Reading.{found}
pub use Rattle.script_model.specs.Symbol.{is_digit, is_letter, among, is_symbol_byte, reserved_words}

-- SMT-LIB 2.6, section 3.1
pub data Token : Type 0 where
  opening closing : Token
  word : Leaf → Token

pub data TextFault : Type 0 where
  -- a byte that is no part of a token; a token that does not end; a parenthesis without its other; a literal
  -- beyond 10^36; more than 256 open parentheses
  bad_byte open_token unbalanced too_wide too_deep : TextFault

-- ---- classes of bytes

abbrev pub is_white : ℕ → Bool
is_white b = among b (32 ∷ 9 ∷ 10 ∷ 13 ∷ [])

-- the longest run at the front
abbrev pub run : (ℕ → Bool) → List ℕ → List ℕ
run p [] = []
run p (b ∷ bs) = cond (p b) (b ∷ run p bs) []

-- ---- what stands at the front of a text

-- how many bytes it takes, and what is to be said of them: tokens and faults, each with its distance from the front
pub data Said : Type 0 where
  token : Token → Said
  fault : TextFault → Said

pub record Front : Type 0 where
  pub size : ℕ
  pub says : List (ℕ × Said)

abbrev pub one_token : ℕ → Token → Front
one_token n t = record { size = n; says = (0, token t) ∷ [] }

abbrev pub one_fault : ℕ → ℕ → TextFault → Front
one_fault n k f = record { size = n; says = (k, fault f) ∷ [] }

abbrev pub silent : ℕ → Front
silent n = record { size = n; says = [] }

-- after a number no symbol byte may follow
abbrev pub clash : ℕ → List ℕ → List (ℕ × Said)
clash n [] = []
clash n (b ∷ rest) = cond (is_symbol_byte b) ((n, fault bad_byte) ∷ []) []

-- the digits without the point, or the power of ten, exceed 10^36
abbrev pub wide : List ℕ → ℕ → List (ℕ × Said)
wide digits decimals = cond (nat_le (digits_value 10 digits) (10 ^ 36) && nat_le decimals 36) [] ((0, fault too_wide) ∷ [])

abbrev pub numeral_front : List ℕ → List ℕ → Front
numeral_front digits rest = record {
  size = length digits;
  says = wide digits 0 ++ ((0, token (word (numeral digits))) ∷ []) ++ clash (length digits) rest;
}

abbrev pub decimal_front : List ℕ → List ℕ → List ℕ → Front
decimal_front digits decimals rest = record {
  size = length digits + 1 + length decimals;
  says = wide (digits ++ decimals) (length decimals) ++ ((0, token (word (decimal digits decimals))) ∷ []) ++ clash (length digits + 1 + length decimals) rest;
}

abbrev pub point_or_end : List ℕ → List ℕ → Front
point_or_end digits [] = numeral_front digits []
point_or_end digits (b ∷ rest) = cond (nat_eq b 46)
    (decimal_front digits (run is_digit rest) (drop (length (run is_digit rest)) rest)) (numeral_front digits (b ∷ rest))

-- a run of digits that starts with 0 and goes on
abbrev pub number_front : List ℕ → List ℕ → Front
number_front (b ∷ c ∷ digits) rest = cond (nat_eq b 48) (one_fault (length (b ∷ c ∷ digits)) 1 bad_byte) (point_or_end (b ∷ c ∷ digits) rest)
number_front digits rest = point_or_end digits rest

abbrev pub word_leaf : List ℕ → Option Reserved → Leaf
word_leaf name (Some r) = reserved r
word_leaf name None = symbol name

abbrev pub symbol_front : List ℕ → Front
symbol_front name = one_token (length name) (word (word_leaf name (found name reserved_words)))

-- the name before the bar, a backslash, or neither
pub data Quoted : Type 0 where
  ends : List ℕ → Quoted
  slash : ℕ → Quoted
  no_bar : Quoted

abbrev pub quoted_more : ℕ → Quoted → Quoted
quoted_more b (ends name) = ends (b ∷ name)
quoted_more b (slash k) = slash (suc k)
quoted_more b no_bar = no_bar

abbrev pub quoted : List ℕ → Quoted
quoted [] = no_bar
quoted (b ∷ bs) = cond (nat_eq b 124) (ends []) (cond (nat_eq b 92) (slash 0) (quoted_more b (quoted bs)))

abbrev pub quoted_front : ℕ → Quoted → Front
quoted_front n (ends name) = one_token (length name + 2) (word (symbol name))
quoted_front n (slash k) = one_fault n (k + 1) bad_byte
quoted_front n no_bar = one_fault n 0 open_token

-- a string's text, and how many bytes it takes with its last quote
abbrev pub string_more : ℕ → ℕ → Option (List ℕ × ℕ) → Option (List ℕ × ℕ)
string_more b n None = None
string_more b n (Some (text, size)) = Some (b ∷ text, size + n)

abbrev pub string_text : List ℕ → Option (List ℕ × ℕ)
string_text [] = None
string_text (b ∷ []) = cond (nat_eq b 34) (Some ([], 1)) None
string_text (b ∷ c ∷ bs) = cond (nat_eq b 34) (cond (nat_eq c 34) (string_more 34 2 (string_text bs)) (Some ([], 1))) (string_more b 1 (string_text (c ∷ bs)))

abbrev pub string_front : ℕ → Option (List ℕ × ℕ) → Front
string_front n (Some (text, size)) = one_token (size + 1) (word (string text))
string_front n None = one_fault n 0 open_token

-- a colon alone is no keyword
abbrev pub keyword_front : List ℕ → Front
keyword_front [] = one_fault 1 0 bad_byte
keyword_front (b ∷ name) = one_token (suc (length (b ∷ name))) (word (keyword (b ∷ name)))

-- up to the end of the line
abbrev pub comment_front : List ℕ → Front
comment_front bytes = silent (length (run (λ b. not (among b (10 ∷ 13 ∷ []))) bytes))

-- what stands at the front of a text that begins with byte b
abbrev pub front : ℕ → List ℕ → Front
front b rest =
    cond (is_white b) (silent 1)
    (cond (nat_eq b 59) (comment_front (b ∷ rest))
    (cond (nat_eq b 40) (one_token 1 opening)
    (cond (nat_eq b 41) (one_token 1 closing)
    (cond (is_digit b) (number_front (b ∷ run is_digit rest) (drop (length (run is_digit rest)) rest))
    (cond (is_symbol_byte b) (symbol_front (b ∷ run is_symbol_byte rest))
    (cond (nat_eq b 124) (quoted_front (length (b ∷ rest)) (quoted rest))
    (cond (nat_eq b 34) (string_front (length (b ∷ rest)) (string_text rest))
    (cond (nat_eq b 58) (keyword_front (run is_symbol_byte rest))
    (one_fault 1 0 bad_byte)))))))))

-- ---- places

abbrev pub next_place : Place → ℕ → Place
next_place at b = cond (nat_eq b 10) (record { line = suc at.line; column = 1 }) (record { line = at.line; column = suc at.column })

abbrev pub place_after : Place → List ℕ → Place
place_after at [] = at
place_after at (b ∷ bs) = place_after (next_place at b) bs

abbrev pub placed : Place → List ℕ → List (ℕ × Said) → List (Place × Said)
placed at bytes [] = []
placed at bytes ((k, said) ∷ rest) = (place_after at (take k bytes), said) ∷ placed at bytes rest

-- what is said of a text, in its order: at each byte that nothing before it takes, what stands at the front there
abbrev pub sayings : ℕ → Place → List ℕ → List (Place × Said)
sayings taken at [] = []
sayings (suc k) at (b ∷ bs) = sayings k (next_place at b) bs
sayings zero at (b ∷ bs) = let f = front b bs in placed at (b ∷ bs) f.says ++ sayings (pred f.size) (next_place at b) bs

abbrev pub start : Place
start = record { line = 1; column = 1 }

-- ---- expressions and the first fault

-- what is not closed: the place of its parenthesis, and what was read in it, the last first
pub record Unclosed : Type 0 where
  pub opened : Place
  pub before : List Sexp

pub data TextRead : Type 0 where
  -- all top expressions
  whole : List Sexp → TextRead
  faulty : Place → TextFault → TextRead

abbrev pub backwards : List Sexp → Sexps → Sexps
backwards [] items = items
backwards (e ∷ rest) items = backwards rest (more e items)

abbrev pub list_of : List Sexp → List Sexp → List Sexp
list_of [] es = es
list_of (e ∷ rest) es = list_of rest (e ∷ es)

abbrev pub is_exit : Sexp → Bool
is_exit (group at (more (leaf _ (symbol name)) none)) = bytes_eq name (codes "exit")
is_exit e = false

-- at the end an unended token, met on the way, comes before the innermost parenthesis
abbrev pub end_of_text : Option Place → List Unclosed → List Sexp → TextRead
end_of_text (Some at) unclosed tops = faulty at open_token
end_of_text None (u ∷ rest) tops = faulty u.opened unbalanced
end_of_text None [] tops = whole (list_of tops [])

-- an expression is complete, in what is unclosed
abbrev pub put : Sexp → List Unclosed → List Sexp → List Unclosed × List Sexp
put e [] tops = ([], e ∷ tops)
put e (u ∷ rest) tops = (record { opened = u.opened; before = e ∷ u.before } ∷ rest, tops)

-- the first fault by place; what only the end shows comes after all others
abbrev pub expressions : Option Place → List Unclosed → List Sexp → List (Place × Said) → TextRead
expressions unended unclosed tops [] = end_of_text unended unclosed tops
expressions unended unclosed tops ((at, fault bad_byte) ∷ rest) = faulty at bad_byte
expressions unended unclosed tops ((at, fault open_token) ∷ rest) = expressions (Some at) unclosed tops rest
expressions unended unclosed tops ((at, fault f) ∷ rest) = faulty at f
expressions unended unclosed tops ((at, token opening) ∷ rest) =
    cond (nat_lt (length unclosed) 256) (expressions unended (record { opened = at; before = [] } ∷ unclosed) tops rest) (faulty at too_deep)
expressions unended [] tops ((at, token closing) ∷ rest) = faulty at unbalanced
expressions unended (u ∷ unclosed) tops ((at, token closing) ∷ rest) =
    let e = group u.opened (backwards u.before none) in let p = put e unclosed tops in
    cond (nat_eq (length unclosed) 0 && is_exit e) (whole (list_of p.1 [])) (expressions unended p.0 p.1 rest)
expressions unended unclosed tops ((at, token (word l)) ∷ rest) = let p = put (leaf at l) unclosed tops in expressions unended p.0 p.1 rest

-- the expressions of a text, up to `(exit)`, or its first fault
abbrev pub read : List ℕ → TextRead
read bytes = expressions None [] [] (sayings 0 start bytes)
