-- Texts and their first faults.
use Rattle.std.proofs.Common.{◌≡◌, [], ◌∷◌, ◌++◌, codes, refl}
use Rattle.script_model.specs.Sexp.{numeral, decimal, symbol, string, keyword, leaf, group, none, more}
use Rattle.smt_sexp.specs.Lexicon.{read, whole, faulty, bad_byte, open_token, unbalanced, too_wide, too_deep}
use Rattle.meaning_rows.proofs.Asked.{at, times}

-- ---- numbers

zeros : read (codes "007") ≡ faulty (at 1 2) bad_byte
zeros = refl

number_and_letter : read (codes "1x") ≡ faulty (at 1 2) bad_byte
number_and_letter = refl

number_and_string : read (codes "1\"a\"") ≡ whole (leaf (at 1 1) (numeral (codes "1")) ∷ leaf (at 1 2) (string (codes "a")) ∷ [])
number_and_string = refl

number_and_parenthesis : read (codes "1()") ≡ whole (leaf (at 1 1) (numeral (codes "1")) ∷ group (at 1 2) none ∷ [])
number_and_parenthesis = refl

point_without_digits : read (codes "2.") ≡ whole (leaf (at 1 1) (decimal (codes "2") []) ∷ [])
point_without_digits = refl

two_points : read (codes "1..2") ≡ faulty (at 1 3) bad_byte
two_points = refl

widest_numeral : read (codes "1000000000000000000000000000000000000") ≡ whole (leaf (at 1 1) (numeral (codes "1000000000000000000000000000000000000")) ∷ [])
widest_numeral = refl

wide_numeral : read (codes "1000000000000000000000000000000000001") ≡ faulty (at 1 1) too_wide
wide_numeral = refl

-- at its first byte, though a symbol byte follows
wide_then_letter : read (codes "1000000000000000000000000000000000001x") ≡ faulty (at 1 1) too_wide
wide_then_letter = refl

wide_power : read (codes "0.0000000000000000000000000000000000001") ≡ faulty (at 1 1) too_wide
wide_power = refl

wide_in_a_comparison : read (codes "(declare-const x Real)\n(assert (< x 1000000000000000000000000000000000000000))\n(check-sat)\n") ≡ faulty (at 2 14) too_wide
wide_in_a_comparison = refl

-- ---- quoted symbols, strings, keywords, comments

open_bar : read (codes "|a") ≡ faulty (at 1 1) open_token
open_bar = refl

open_quote : read (codes "\"a\"\"") ≡ faulty (at 1 1) open_token
open_quote = refl

-- what does not end comes before what is not closed, wherever each begins
open_bar_in_a_list : read (codes "(a |b") ≡ faulty (at 1 4) open_token
open_bar_in_a_list = refl

backslash : read (codes "|a\\b|") ≡ faulty (at 1 3) bad_byte
backslash = refl

any_byte_between_bars : read (codes "|a;(\n|") ≡ whole (leaf (at 1 1) (symbol (codes "a;(\n")) ∷ [])
any_byte_between_bars = refl

doubled_quote : read (codes "\"a\"\"b\"") ≡ whole (leaf (at 1 1) (string (codes "a\"b")) ∷ [])
doubled_quote = refl

colon_alone : read (codes "a :") ≡ faulty (at 1 3) bad_byte
colon_alone = refl

colon_and_name : read (codes ":a") ≡ whole (leaf (at 1 1) (keyword (codes "a")) ∷ [])
colon_and_name = refl

bad_byte_here : read (codes "a [") ≡ faulty (at 1 3) bad_byte
bad_byte_here = refl

-- a carriage return ends a comment, and lines are counted by line feeds alone
comment_ends : read (codes ";a" ++ (13 ∷ []) ++ codes "b\nc") ≡ whole (leaf (at 1 4) (symbol (codes "b")) ∷ leaf (at 2 1) (symbol (codes "c")) ∷ [])
comment_ends = refl

-- ---- parentheses

open_parenthesis : read (codes "(assert true") ≡ faulty (at 1 1) unbalanced
open_parenthesis = refl

one_too_many : read (codes "(check-sat))") ≡ faulty (at 1 12) unbalanced
one_too_many = refl

deepest : read (times 256 (codes "(")) ≡ faulty (at 1 256) unbalanced
deepest = refl

too_deep_here : read (times 257 (codes "(")) ≡ faulty (at 1 257) too_deep
too_deep_here = refl

-- the first fault by place
first_of_two : read (codes "007 )") ≡ faulty (at 1 2) bad_byte
first_of_two = refl

-- nothing behind `(exit)` is read, quoted or not
after_exit : read (codes "(exit) ((") ≡ whole (group (at 1 1) (more (leaf (at 1 2) (symbol (codes "exit"))) none) ∷ [])
after_exit = refl

after_quoted_exit : read (codes "(|exit|) ((") ≡ whole (group (at 1 1) (more (leaf (at 1 2) (symbol (codes "exit"))) none) ∷ [])
after_quoted_exit = refl
