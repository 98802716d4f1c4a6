-- The demo's script is read to the expressions that its lines spell.
use Rattle.std.proofs.Common.{◌≡◌, ℕ, zero, suc, List, [], ◌∷◌, ◌++◌, None, refl, ap, ◌∙◌, arith, append_assoc, codes}
use Rattle.std.specs.Prelude.{decimal}
use Rattle.script_model.specs.Sexp.{Place, numeral, Sexp}
use Rattle.smt_sexp.specs.Lexicon.{expressions, Unclosed, list_of, sayings, place_after, Said, token, word, whole}
use Rattle.gen_script.specs.Demo.{next_number, coefficient, atom_line, atom_lines, tail}
use Rattle.demo_law.proofs.Shape.{named, first_product, difference, atom_claim, in_line, behind_line, atom_claims}
use Rattle.demo_law.proofs.Numeral.{IsNumeralText, decimal_is_numeral, numeral_reads}

-- what is not closed before each of the three numerals
abbrev first_open : (ℕ → Place) → List Unclosed
first_open at = record { opened = at 6; before = named (at 7) (codes "*") ∷ [] } ∷ record { opened = at 4; before = named (at 5) (codes "-") ∷ [] }
    ∷ record { opened = at 2; before = named (at 3) (codes "=") ∷ [] } ∷ record { opened = at 0; before = named (at 1) (codes "assert") ∷ [] } ∷ []

abbrev second_open : (ℕ → Place) → List ℕ → List Unclosed
second_open at ds = record { opened = at 11; before = named (at 12) (codes "*") ∷ [] } ∷ record { opened = at 4; before = first_product at ds ∷ named (at 5) (codes "-") ∷ [] }
    ∷ record { opened = at 2; before = named (at 3) (codes "=") ∷ [] } ∷ record { opened = at 0; before = named (at 1) (codes "assert") ∷ [] } ∷ []

abbrev third_open : (ℕ → Place) → List ℕ → List Unclosed
third_open at ds = record { opened = at 16; before = named (at 17) (codes "/") ∷ [] }
    ∷ record { opened = at 2; before = difference at ds ∷ named (at 3) (codes "=") ∷ [] } ∷ record { opened = at 0; before = named (at 1) (codes "assert") ∷ [] } ∷ []

-- behind the first numeral, the second and the third
abbrev third_rest : List ℕ → List ℕ
third_rest rest = codes "8)))\n" ++ rest

abbrev second_rest : List ℕ → List ℕ → List ℕ
second_rest ds rest = codes "y x)) (/ " ++ (ds ++ 32 ∷ third_rest rest)

abbrev first_rest : List ℕ → List ℕ → List ℕ
first_rest ds rest = codes "x y) (* " ++ (ds ++ 32 ∷ second_rest ds rest)

abbrev line_text : List ℕ → List ℕ → List ℕ
line_text ds rest = codes "(assert (= (- (* " ++ (ds ++ 32 ∷ first_rest ds rest)

module _ (p : Place) (ds rest : List ℕ) (tops : List Sexp) where
  abbrev at : ℕ → Place
  at = in_line p ds

  abbrev numeral_said : ℕ → List (Place × Said) → List (Place × Said)
  numeral_said k more = (at k, token (word (numeral ds))) ∷ more

  to_first : expressions None [] tops (sayings zero p (line_text ds rest)) ≡ expressions None (first_open at) tops (sayings zero (at 8) (ds ++ 32 ∷ first_rest ds rest))
  to_first = refl

  to_second : expressions None (first_open at) tops (numeral_said 8 (sayings zero (place_after (at 8) ds) (32 ∷ first_rest ds rest))) ≡ expressions None (second_open at ds) tops (sayings zero (at 13) (ds ++ 32 ∷ second_rest ds rest))
  to_second = refl

  to_third : expressions None (second_open at ds) tops (numeral_said 13 (sayings zero (place_after (at 13) ds) (32 ∷ second_rest ds rest))) ≡ expressions None (third_open at ds) tops (sayings zero (at 18) (ds ++ 32 ∷ third_rest rest))
  to_third = refl

  to_end : expressions None (third_open at ds) tops (numeral_said 18 (sayings zero (place_after (at 18) ds) (32 ∷ third_rest rest))) ≡ expressions None [] (atom_claim at ds ∷ tops) (sayings zero (behind_line p ds) rest)
  to_end = refl

  line_reads : IsNumeralText ds → expressions None [] tops (sayings zero p (line_text ds rest)) ≡ expressions None [] (atom_claim at ds ∷ tops) (sayings zero (behind_line p ds) rest)
  line_reads h = to_first
      ∙ ap (expressions None (first_open at) tops) (numeral_reads (at 8) ds (first_rest ds rest) h) ∙ to_second
      ∙ ap (expressions None (second_open at ds) tops) (numeral_reads (at 13) ds (second_rest ds rest) h) ∙ to_third
      ∙ ap (expressions None (third_open at ds) tops) (numeral_reads (at 18) ds (third_rest rest) h) ∙ to_end

-- the lines' coefficients are numerals
pub coefficient_is_numeral : (n : ℕ) → IsNumeralText (decimal (coefficient n))
coefficient_is_numeral n = decimal_is_numeral (coefficient n) (omega arith) (omega arith)

line_is : (f : ℕ) (rest : List ℕ) → atom_line f ++ rest ≡ line_text (decimal f) rest
line_is f rest = simp append_assoc

pub lines_read : (number left : ℕ) (p : Place) (tops : List Sexp)
    → expressions None [] tops (sayings zero p (atom_lines number left ++ tail)) ≡ whole (list_of tops (atom_claims p number left))
unfolding atom_lines atom_claims
lines_read number zero p tops = refl
lines_read number (suc left) p tops =
    ap (λ text. expressions None [] tops (sayings zero p text)) (append_assoc (atom_line (coefficient (next_number number))) (atom_lines (next_number number) left) tail ∙ line_is (coefficient (next_number number)) (atom_lines (next_number number) left ++ tail))
    ∙ line_reads p (decimal (coefficient (next_number number))) (atom_lines (next_number number) left ++ tail) tops (coefficient_is_numeral (next_number number))
    ∙ lines_read (next_number number) left (behind_line p (decimal (coefficient (next_number number)))) (atom_claim (in_line p (decimal (coefficient (next_number number)))) (decimal (coefficient (next_number number))) ∷ tops)
