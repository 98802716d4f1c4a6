-- How the decimal of a number is read.
use Rattle.std.proofs.Common.{◌≡◌, ℕ, zero, pred, ◌^◌, ◌<◌, ◌≤◌, List, [], ◌∷◌, ◌++◌, Bool, true, false, not, ◌&&◌, refl, ap, ◌∙◌, arith, length, drop, get_or, nat_eq, nat_le}
use Rattle.std.specs.Prelude.{decimal}
use Rattle.std.specs.Str.{all_ascii_digits}
use Rattle.std.specs.Str.Parse.{digits_value}
use Rattle.std.proofs.lemmas.Bool.Decides.{nat_tests}
use Rattle.std.proofs.lemmas.Fmt.{digits_decimal, digits_value-decimal, first_decimal}
use Rattle.std.proofs.lemmas.Str.Parse.{IsNumeralModel, tells_all_ascii_digits, numerals_by_value}
use Rattle.script_model.specs.Sexp.{Place, numeral}
use Rattle.smt_sexp.specs.Lexicon.{is_digit, is_white, run, front, number_front, numeral_front, placed, place_after, next_place, sayings, Said, token, word, Front}
use Rattle.smt_sexp.specs.Classes.{is_wide}
use Rattle.smt_sexp.proofs.Fronts.{at_true, at_false, numeral_says, says_leaf}
use Rattle.std.proofs.lemmas.List.{append-nil}

abbrev AreDigits : List ℕ → Type 0
AreDigits w = all_ascii_digits w ≡ true

model : IsNumeralModel AreDigits (digits_value 10)
model = numerals_by_value AreDigits tells_all_ascii_digits

-- digits without a zero in front, of a number that is not too wide
pub record IsNumeralText (ds : List ℕ) : Type 0 where
  pub digits : AreDigits ds
  pub first : 48 < get_or ds 0 0
  pub narrow : digits_value 10 ds ≤ 10 ^ 36

pub decimal_is_numeral : (n : ℕ) → 0 < n → n < 2 ^ 64 → IsNumeralText (decimal n)
decimal_is_numeral n some small = record {
  digits = digits_decimal model n small;
  first = first_decimal n some small;
  narrow = omega (arith, digits_value-decimal model n small, small);
}

-- ---- the front

white_not : (d : ℕ) → 48 ≤ d → d < 58 → is_white d ≡ false
white_not d low high = grind (arith, nat_tests)

is-not : (d c : ℕ) → 48 ≤ d → c < 48 → nat_eq d c ≡ false
is-not d c low h = grind (arith, nat_tests)

above-not : (d c : ℕ) → d < 58 → 58 ≤ c → nat_eq d c ≡ false
above-not d c low h = grind (arith, nat_tests)

digit-is : (d : ℕ) → 48 ≤ d → d < 58 → is_digit d ≡ true
digit-is d low high = grind (arith, nat_tests)

-- what stands at the front where a digit is first
front_digit : (d : ℕ) (rest : List ℕ) → 48 ≤ d → d < 58 → front d rest ≡ number_front (d ∷ run is_digit rest) (drop (length (run is_digit rest)) rest)
front_digit d rest low high = at_false _ _ _ (white_not d low high) ∙ at_false _ _ _ (above-not d 59 high (omega arith))
    ∙ at_false _ _ _ (is-not d 40 low (omega arith)) ∙ at_false _ _ _ (is-not d 41 low (omega arith)) ∙ at_true _ _ _ (digit-is d low high)

first_digit : (b : ℕ) (bs : List ℕ) → AreDigits (b ∷ bs) → (48 ≤ b) × (b < 58) × AreDigits bs
first_digit b bs h = let e = tells_all_ascii_digits.parts b bs h in (e.0.0, omega (arith, e.0.1), e.1)

-- the digits are the run
run_of_digits : (ds : List ℕ) (r : ℕ) (rest : List ℕ) → AreDigits ds → is_digit r ≡ false → run is_digit (ds ++ r ∷ rest) ≡ ds
run_of_digits [] r rest h other = at_false _ _ _ other
run_of_digits (d ∷ ds) r rest h other = let e = first_digit d ds h in
    at_true _ _ _ (digit-is d e.0 e.1) ∙ ap (λ xs. d ∷ xs) (run_of_digits ds r rest e.2 other)

drop_front : (ds rest : List ℕ) → drop (length ds) (ds ++ rest) ≡ rest
drop_front [] rest = refl
drop_front (d ∷ ds) rest = drop_front ds rest

number_alone : (d : ℕ) (ds rest : List ℕ) → 48 < d → number_front (d ∷ ds) (32 ∷ rest) ≡ numeral_front (d ∷ ds) (32 ∷ rest)
number_alone d [] rest h = refl
number_alone d (c ∷ cs) rest h = at_false _ _ _ (no_zero d h)
  where
    no_zero : (b : ℕ) → 48 < b → nat_eq b 48 ≡ false
    no_zero b lt = grind (arith, nat_tests)

front_numeral : (d : ℕ) (ds rest : List ℕ) → AreDigits (d ∷ ds) → 48 < d → front d (ds ++ 32 ∷ rest) ≡ numeral_front (d ∷ ds) (32 ∷ rest)
front_numeral d ds rest h first = let e = first_digit d ds h in
    front_digit d (ds ++ 32 ∷ rest) e.0 e.1
    ∙ ap (λ xs. number_front (d ∷ xs) (drop (length xs) (ds ++ 32 ∷ rest))) (run_of_digits ds 32 rest e.2 refl)
    ∙ ap (λ xs. number_front (d ∷ ds) xs) (drop_front ds (32 ∷ rest))
    ∙ number_alone d ds rest first

skips_front : (q : Place) (ds rest : List ℕ) → sayings (length ds) q (ds ++ 32 ∷ rest) ≡ sayings zero (place_after q ds) (32 ∷ rest)
skips_front q [] rest = refl
skips_front q (d ∷ ds) rest = skips_front (next_place q d) ds rest

narrow_enough : (n : ℕ) → n ≤ 10 ^ 36 → not (nat_le n (10 ^ 36) && nat_le 0 36) ≡ false
narrow_enough n h = grind (arith, nat_tests)

-- the one thing that is said of a numeral before a blank
numeral_alone : (ds rest : List ℕ) → digits_value 10 ds ≤ 10 ^ 36 → (numeral_front ds (32 ∷ rest)).says ≡ (0, token (word (numeral ds))) ∷ []
numeral_alone ds rest h = numeral_says ds (32 ∷ rest)
    ∙ says_leaf (is_wide ds []) false (length ds) (numeral ds) (ap (λ xs. is_wide_value (digits_value 10 xs)) (append-nil ds) ∙ narrow_enough (digits_value 10 ds) h) refl
  where
    is_wide_value : ℕ → Bool
    is_wide_value n = not (nat_le n (10 ^ 36) && nat_le 0 36)

-- a numeral before a blank
pub numeral_reads : (p : Place) (ds rest : List ℕ) → IsNumeralText ds
    → sayings zero p (ds ++ 32 ∷ rest) ≡ (p, token (word (numeral ds))) ∷ sayings zero (place_after p ds) (32 ∷ rest)
numeral_reads p [] rest h = absurd (omega (arith, h.first))
numeral_reads p (d ∷ ds) rest h =
    ap (λ (f : Front). placed p (d ∷ (ds ++ 32 ∷ rest)) f.says ++ sayings (pred f.size) (next_place p d) (ds ++ 32 ∷ rest)) (front_numeral d ds rest h.digits h.first)
    ∙ ap (λ (s : List (ℕ × Said)). placed p (d ∷ (ds ++ 32 ∷ rest)) s ++ sayings (length ds) (next_place p d) (ds ++ 32 ∷ rest)) (numeral_alone (d ∷ ds) rest h.narrow)
    ∙ ap (λ xs. (p, token (word (numeral (d ∷ ds)))) ∷ xs) (skips_front (next_place p d) ds rest)
