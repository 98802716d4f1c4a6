-- What is read of an option.
use Rattle.std.proofs.Common.{◌≡◌, ◌∙◌, ◌<◌, ◌^◌, ◌&&◌, Bool, true, false, ap, sym, refl, List, [], ◌∷◌, ℕ, Option, Some, None, Result, Ok, Err, nat_lt, arith}
use Rattle.std.specs.Prelude.{option_and_then}
use Rattle.std.specs.List.{list_all}
use Rattle.std.specs.Result.{result_ok}
use Rattle.std.specs.Char.{digit_value}
use Rattle.std.specs.Str.Parse.{AllDigits, IsNumeral, ParsesUnsigned, without_leading_plus, digits_value}
use Rattle.std.proofs.lemmas.Bool.Decides.{nat_tests}
use Rattle.clap.specs.Words.{Text}
use Rattle.clap.specs.Matches.{ReadsOne}
use Rattle.command_line.specs.Words.{number_of, is_number}

and_both : (a b : Bool) → a ≡ true → b ≡ true → a && b ≡ true
and_both a b p q = rw (p, q) refl

pub and_first : (a b : Bool) → a && b ≡ true → a ≡ true
and_first true b h = refl
and_first false b h = cc

pub and_second : (a b : Bool) → a && b ≡ true → b ≡ true
and_second true b h = h
and_second false b h = cc

less_true : (a b : ℕ) → a < b → nat_lt a b ≡ true
less_true a b h = grind (arith, nat_tests)

pub true_less : (a b : ℕ) → nat_lt a b ≡ true → a < b
true_less a b h = grind (arith, nat_tests)

digits_pass : (ds : List ℕ) → AllDigits 10 ds → list_all (λ d. nat_lt (digit_value d) 10) ds ≡ true
digits_pass [] h = refl
digits_pass (d ∷ ds) h = and_both _ _ (less_true _ _ h.0) (digits_pass ds h.1)

passed_digits : (ds : List ℕ) → list_all (λ d. nat_lt (digit_value d) 10) ds ≡ true → AllDigits 10 ds
passed_digits [] h = tt
passed_digits (d ∷ ds) h = (true_less _ _ (and_first _ _ h), passed_digits ds (and_second _ _ h))

number_true : (bits : ℕ) (t : Text) → IsNumeral 10 (without_leading_plus t) × (digits_value 10 (without_leading_plus t) < 2 ^ bits) → is_number bits t ≡ true
number_true bits t h = and_both _ _ (less_true _ _ h.0.0) (and_both _ _ (digits_pass _ h.0.1) (less_true _ _ h.1))

true_number : (bits : ℕ) (t : Text) → is_number bits t ≡ true → IsNumeral 10 (without_leading_plus t) × (digits_value 10 (without_leading_plus t) < 2 ^ bits)
true_number bits t h = ((true_less _ _ (and_first _ _ h), passed_digits _ (and_first _ _ (and_second _ _ h))), true_less _ _ (and_second _ _ (and_second _ _ h)))

some_number : (bits : ℕ) (t : Text) → is_number bits t ≡ true → number_of bits t ≡ Some (digits_value 10 (without_leading_plus t))
unfolding number_of
some_number bits t h = rw h refl

no_number : (bits : ℕ) (t : Text) → (is_number bits t ≡ true → ⊥) → number_of bits t ≡ None
unfolding number_of
no_number bits t h = by_test (is_number bits t) refl where
  by_test : (b : Bool) → is_number bits t ≡ b → number_of bits t ≡ None
  by_test true e = absurd (h e)
  by_test false e = rw e refl

pub reads : {E : Type 0} (bits : ℕ) (t : Text) (r : Option ℕ) (gives : Text → Result ℕ E → Type 0)
    → ((bs : Text) (x : Result ℕ E) → gives bs x → ParsesUnsigned bits 10 bs x) → ReadsOne gives t r → r ≡ number_of bits t
reads bits t (Some v) gives parses h =
    let p = parses t (Ok v) h in
    ap (λ n. Some n) p.1 ∙ sym (some_number bits t (number_true bits t p.0))
reads bits t None gives parses h = sym (no_number bits t (λ e. parses t (Err h.0) h.1 (true_number bits t e)))

pub reads_option : {E : Type 0} (bits : ℕ) (o : Option Text) (r : Option ℕ) (gives : Text → Result ℕ E → Type 0)
    → ((bs : Text) (x : Result ℕ E) → gives bs x → ParsesUnsigned bits 10 bs x)
    → (o ≡ None → r ≡ None) → ((t : Text) → o ≡ Some t → ReadsOne gives t r) → r ≡ option_and_then (number_of bits) o
reads_option bits None r gives parses none value = none refl
reads_option bits (Some t) r gives parses none value = reads bits t r gives parses (value t refl)

-- the number that a text is parsed to
pub parsed_number : {E : Type 0} (bits : ℕ) (t : Text) (r : Result ℕ E) → ParsesUnsigned bits 10 t r → (o : Option ℕ) → o ≡ result_ok r → o ≡ number_of bits t
parsed_number bits t (Ok v) h o e = e ∙ (ap (λ n. Some n) h.1 ∙ sym (some_number bits t (number_true bits t h.0)))
parsed_number bits t (Err x) h o e = e ∙ sym (no_number bits t (λ b. h (true_number bits t b)))
