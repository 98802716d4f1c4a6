-- The number that a text spells.
use Rattle.std.proofs.Common.{◌≡◌, ℕ, zero, suc, ◌+◌, ◌-◌, ◌*◌, ◌%◌, ◌^◌, ◌<◌, ◌≤◌, arith, refl, sym, ap, ◌∙◌, ⊎_elim, Bool, true, false, List, ◌∷◌, ◌++◌, append_assoc, length, get_or, take, pos, neg_ℤ, ◌-ℤ◌}
use Rattle.std.proofs.Math.Seq.{take-length}
use Rattle.std.specs.Int.{IsInRange}
use Rattle.std.specs.Fmt.{decimal, signed_decimal}
use Rattle.std.specs.Str.Parse.{digits_value}
use Rattle.std.proofs.lemmas.Fmt.{decimal-digits_value, digits_decimal, decimal_nonempty}
use Rattle.std.proofs.lemmas.Str.{digit_value_digit}
use Rattle.std.proofs.lemmas.Str.Parse.{IsNumeralModel, numerals_by_value, tells_by_index}
use Rattle.std.proofs.lemmas.Int.{ints}
use Rattle.std.proofs.lemmas.Int.Digits.{digits_value_more}
use Rattle.std.proofs.lemmas.Bool.{cases_lt, true≢false}
use Rattle.dyadic.specs.Signed.{signed_of}
use Rattle.dyadic.specs.Text.{minus_sign, spelling, IsDigits, IsShaped}
use Rattle.dyadic.specs.Grid.{IsSpelling}
use Rattle.dyadic.proofs.Ranges.{in_range_high}

pub own : IsNumeralModel (λ ds. (i : ℕ) → i < length ds → IsInRange 48 57 (get_or ds i 0)) (digits_value 10)
own = numerals_by_value _ tells_by_index

-- digits without a leading zero are the text of their value
pub decimal_of : (ds : List ℕ) → IsDigits ds → (get_or ds 0 0 ≡ 48 → length ds ≡ 1) → digits_value 10 ds < 2 ^ 64 → decimal (digits_value 10 ds) ≡ ds
decimal_of ds d lead small = decimal-digits_value own ds d.digits d.some lead small

pub IsDigits-decimal : (n : ℕ) → n < 2 ^ 64 → IsDigits (decimal n)
IsDigits-decimal n h = record { digits = digits_decimal own n h; some = decimal_nonempty n h }

-- the last digit tells whether the number is odd
pub odd_value : (ds : List ℕ) → IsDigits ds → get_or ds (length ds - 1) 0 % 2 ≡ 1 → digits_value 10 ds % 2 ≡ 1
odd_value ds d odd =
    let i = length ds - 1 in
    let within : i < length ds = omega (arith, d.some) in
    let more = digits_value_more 10 ds i within in
    let whole : take (i + 1) ds ≡ ds = ap (λ k. take k ds) (let e : i + 1 ≡ length ds = omega (arith, d.some) in e) ∙ take-length ds in
    let digit = digit_value_digit (get_or ds i 0) (d.digits i within) in
    omega (arith, more, ap (digits_value 10) whole, digit, odd)

-- the parts of a number's text
pub shape_of : (s : Bool) (k shift : ℕ) → suc k < 2 ^ 64 → shift ≤ 242 → (e : ℕ) × (t : Bool) × (pos shift -ℤ pos 120 ≡ signed_of t e) × (e ≤ 122) × IsShaped (spelling s (suc k) shift) s (decimal (suc k)) t (decimal e) × (t ≡ true → 0 < e)
shape_of s k shift few short = ⊎_elim
    (λ (low : shift < 120).
    let e = 120 - shift in
    let same : pos shift -ℤ pos 120 ≡ neg_ℤ (pos e) = omega (arith, ints) in
    let text : signed_decimal (neg_ℤ (pos e)) ≡ 45 ∷ decimal e = minus_text e (omega arith) in (
      e,
      true,
      same,
      omega arith,
      record {
        joined = append_assoc (minus_sign s) (decimal (suc k)) (98 ∷ signed_decimal (pos shift -ℤ pos 120)) ∙ ap (λ l. minus_sign s ++ (decimal (suc k) ++ 98 ∷ l)) (ap signed_decimal same ∙ text);
        digits = IsDigits-decimal (suc k) few;
        exponent = IsDigits-decimal e (omega arith);
      },
      λ _. omega arith,
    ))
    (λ (high : 120 ≤ shift).
    let e = shift - 120 in
    let same : pos shift -ℤ pos 120 ≡ pos e = omega (arith, ints) in (
      e,
      false,
      same,
      omega arith,
      record {
        joined = append_assoc (minus_sign s) (decimal (suc k)) (98 ∷ signed_decimal (pos shift -ℤ pos 120)) ∙ ap (λ l. minus_sign s ++ (decimal (suc k) ++ 98 ∷ l)) (ap signed_decimal same);
        digits = IsDigits-decimal (suc k) few;
        exponent = IsDigits-decimal e (omega arith);
      },
      λ f. absurd (true≢false (sym f)),
    ))
    (cases_lt shift 120)
  where
    minus_text : (e : ℕ) → 0 < e → signed_decimal (neg_ℤ (pos e)) ≡ 45 ∷ decimal e
    minus_text zero h = absurd (omega arith)
    minus_text (suc e) h = refl

-- what was read has the one spelling
pub spelling_read : (m shift : ℕ) → m % 2 ≡ 1 → m ≤ 2 ^ 62 → m * 2 ^ shift ≤ 2 ^ 242 → IsSpelling m shift
spelling_read m shift odd few range =
    let some : 1 ≤ m = omega arith in
    record {
      few_bits = few;
      short = ⊎_elim (λ high. absurd (let none = in_range_high m shift high range in omega (arith, none))) (λ low. low) (cases_lt 242 shift);
      in_range = range;
      is_odd = omega arith;
      zero = λ e. absurd (omega arith);
    }

-- an odd number ends in an odd digit
pub odd_digit : (ds : List ℕ) → IsDigits ds → digits_value 10 ds % 2 ≡ 1 → get_or ds (length ds - 1) 0 % 2 ≡ 1
odd_digit ds d odd =
    let i = length ds - 1 in
    let within : i < length ds = omega (arith, d.some) in
    let more = digits_value_more 10 ds i within in
    let whole : take (i + 1) ds ≡ ds = ap (λ k. take k ds) (let e : i + 1 ≡ length ds = omega (arith, d.some) in e) ∙ take-length ds in
    let digit = digit_value_digit (get_or ds i 0) (d.digits i within) in
    omega (arith, more, ap (digits_value 10) whole, digit, odd, (d.digits i within).0)
