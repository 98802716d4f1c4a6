-- The demo's script as expressions.
use Rattle.std.specs.Prelude.{ℕ, zero, suc, List, [], ◌∷◌, codes, decimal, get_or}
use Rattle.script_model.specs.Sexp.{Place, numeral, symbol, Sexp, leaf, group, Sexps, none, more}
use Rattle.script_model.specs.Script.{Command, declare, claim, check, ineffective}
use Rattle.dyadic.specs.Point.{real_sort}
use Rattle.smt_sexp.specs.Lexicon.{place_after}
use Rattle.gen_script.specs.Demo.{next_number, coefficient}

abbrev pub further : ℕ → ℕ → ℕ
further zero c = c
further (suc k) c = suc (further k c)

-- so many columns further on
abbrev pub shift : ℕ → Place → Place
shift k p = record { line = p.line; column = further k p.column }

abbrev pub named : Place → List ℕ → Sexp
named p name = leaf p (symbol name)

abbrev pub two : Sexp → Sexp → Sexps
two a b = more a (more b none)

abbrev pub three : Sexp → Sexp → Sexp → Sexps
three a b c = more a (two b c)

abbrev pub number : Place → List ℕ → Sexp
number p ds = leaf p (numeral ds)

-- the parts of an atom whose coefficient has these digits; its tokens stand at these places
abbrev pub first_product : (ℕ → Place) → List ℕ → Sexp
first_product at ds = group (at 6) (more (named (at 7) (codes "*")) (three (number (at 8) ds) (named (at 9) (codes "x")) (named (at 10) (codes "y"))))

abbrev pub second_product : (ℕ → Place) → List ℕ → Sexp
second_product at ds = group (at 11) (more (named (at 12) (codes "*")) (three (number (at 13) ds) (named (at 14) (codes "y")) (named (at 15) (codes "x"))))

abbrev pub difference : (ℕ → Place) → List ℕ → Sexp
difference at ds = group (at 4) (three (named (at 5) (codes "-")) (first_product at ds) (second_product at ds))

abbrev pub eighth : (ℕ → Place) → List ℕ → Sexp
eighth at ds = group (at 16) (three (named (at 17) (codes "/")) (number (at 18) ds) (number (at 19) (codes "8")))

abbrev pub equation : (ℕ → Place) → List ℕ → Sexp
equation at ds = group (at 2) (three (named (at 3) (codes "=")) (difference at ds) (eighth at ds))

-- the assertion of the atom
abbrev pub atom_claim : (ℕ → Place) → List ℕ → Sexp
atom_claim at ds = group (at 0) (two (named (at 1) (codes "assert")) (equation at ds))

-- the places in a line that begins at p
abbrev pub in_line : Place → List ℕ → ℕ → Place
in_line p ds k =
    let first = shift 17 p in let second = shift 9 (place_after first ds) in let third = shift 10 (place_after second ds) in
    get_or (p ∷ shift 1 p ∷ shift 8 p ∷ shift 9 p ∷ shift 11 p ∷ shift 12 p ∷ shift 14 p ∷ shift 15 p
    ∷ first ∷ shift 1 (place_after first ds) ∷ shift 3 (place_after first ds) ∷ shift 6 (place_after first ds) ∷ shift 7 (place_after first ds)
    ∷ second ∷ shift 1 (place_after second ds) ∷ shift 3 (place_after second ds) ∷ shift 7 (place_after second ds) ∷ shift 8 (place_after second ds)
    ∷ third ∷ shift 1 (place_after third ds) ∷ []) k p

abbrev pub next_line : Place → Place
next_line p = record { line = suc p.line; column = 1 }

-- where the line behind it begins
abbrev pub behind_line : Place → List ℕ → Place
behind_line p ds = next_line (place_after (in_line p ds 18) ds)

abbrev pub last_lines : Place → List Sexp
last_lines p = group p (more (named (shift 1 p) (codes "check-sat")) none) ∷ group (next_line p) (more (named (shift 1 (next_line p)) (codes "exit")) none) ∷ []

unfoldable pub atom_claims : Place → ℕ → ℕ → List Sexp
atom_claims p number zero = last_lines p
atom_claims p number (suc left) = atom_claim (in_line p (decimal (coefficient (next_number number)))) (decimal (coefficient (next_number number))) ∷ atom_claims (behind_line p (decimal (coefficient (next_number number)))) (next_number number) left

abbrev pub atom_claimed : Place → ℕ → Command
atom_claimed p number = claim p (equation (in_line p (decimal (coefficient (next_number number)))) (decimal (coefficient (next_number number))))

-- the commands that are written
unfoldable pub atom_written : Place → ℕ → ℕ → List Command
atom_written p number zero = check p ∷ ineffective (next_line p) ∷ []
atom_written p number (suc left) = atom_claimed p number ∷ atom_written (behind_line p (decimal (coefficient (next_number number)))) (next_number number) left

-- those that are in force at the check, with the check
unfoldable pub atom_commands : Place → ℕ → ℕ → List Command
atom_commands p number zero = check p ∷ []
atom_commands p number (suc left) = atom_claimed p number ∷ atom_commands (behind_line p (decimal (coefficient (next_number number)))) (next_number number) left

-- where the check stands
unfoldable pub check_place : Place → ℕ → ℕ → Place
check_place p number zero = p
check_place p number (suc left) = check_place (behind_line p (decimal (coefficient (next_number number)))) (next_number number) left

-- the commands of the head
abbrev pub place : ℕ → ℕ → Place
place line column = record { line = line; column = column }

-- that the constant of this name, asked for in this line, lies from 0 to 1
abbrev pub within : ℕ → List ℕ → Sexp
within line name = group (place line 9) (more (named (place line 10) (codes "<=")) (three (number (place line 13) (codes "0")) (named (place line 15) name) (number (place line 17) (codes "1"))))

abbrev pub demo_with : List Command → List Command
demo_with rest = declare (place 2 1) (codes "x") real_sort ∷ declare (place 3 1) (codes "y") real_sort
    ∷ claim (place 4 1) (within 4 (codes "x")) ∷ claim (place 5 1) (within 5 (codes "y")) ∷ rest

-- all commands that are written
abbrev pub demo_written : List Command → List Command
demo_written rest = ineffective (place 1 1) ∷ demo_with rest
