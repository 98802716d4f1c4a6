-- The one spelling of a number is read as that number.
use Rattle.std.proofs.Common.{◌≡◌, ℕ, zero, suc, ◌+◌, ◌*◌, ◌/◌, ◌%◌, ◌^◌, ◌<◌, ◌≤◌, min, arith, refl, sym, ap, ◌∙◌, subst, ⊎_elim, Bool, true, false, List, length, ℤ, pos, negsuc, ◌-ℤ◌, nat_abs}
use Rattle.std.specs.Fmt.{decimal}
use Rattle.std.specs.Str.Parse.{digits_value}
use Rattle.std.specs.Int.{trailing_zeros, w64}
use Rattle.std.proofs.lemmas.Fmt.{first_decimal, decimal_digit, digits_value-decimal}
use Rattle.std.proofs.lemmas.Int.{ints}
use Rattle.std.proofs.lemmas.Bool.{cases_lt}
use Rattle.dyadic.specs.Rounding.{Dyadic, IsRepresentable, IsOnGrid}
use Rattle.dyadic.specs.Grid.{IsSpelling}
use Rattle.dyadic.specs.Signed.{signed_of}
use Rattle.dyadic.specs.NumberText.{number_text, number, number_spelling, units_text, of_exponent}
use Rattle.dyadic.specs.Text.{spelling, IsCanonical, IsShift}
use Rattle.dyadic.proofs.Nearest.{representable_le}
use Rattle.dyadic.proofs.Zeros.{spelling_of, units_of_spelling}
use Rattle.dyadic.proofs.Spellings.{own, shape_of, odd_digit, IsDigits-decimal}
use Rattle.dyadic.proofs.Texts.{shaped_text, canonical_parts, by_shift, kept_shift}
use Rattle.dyadic.proofs.SpelledTexts.{spelling_is}

shift_is : (t : Bool) (e k : ℕ) → pos k -ℤ pos 120 ≡ signed_of t e → IsShift t e k
shift_is true e k h = omega (arith, ints, h)
shift_is false e k h = omega (arith, ints, h)

canonical_text : (m : ℕ) (t : Bool) (e : ℕ) → 0 < m → m % 2 ≡ 1 → m < 2 ^ 64 → e ≤ 122 → (t ≡ true → 0 < e) → IsCanonical (decimal m) t (decimal e)
canonical_text m t e some odd few short below = record {
  leading = λ h. let f = first_decimal m some few in omega (arith, f, h);
  odd = odd_digit (decimal m) (IsDigits-decimal m few) (ap (λ n. n % 2) (digits_value-decimal own m few) ∙ odd);
  exponent = λ h. ⊎_elim
      (λ (none : e < 1).
      let e0 : e ≡ 0 = omega arith in
      (ap (λ n. length (decimal n)) e0 ∙ ap (length {A = ℕ}) (decimal_digit 0 (omega arith)), plain t (λ f. let p = below f in omega (arith, p, e0))))
      (λ (more : 1 ≤ e). absurd (let f = first_decimal e more (omega (arith, short)) in omega (arith, f, h)))
      (cases_lt e 1);
}
  where
    plain : (t : Bool) → (t ≡ true → ⊥) → t ≡ false
    plain true h = absurd (h refl)
    plain false h = refl

odd_is : (n : ℕ) → n % 2 ≡ min 1 n → 0 < n → n % 2 ≡ 1
odd_is n e h = omega (arith, e, h)

pub parts_read_back : (s : Bool) (m k : ℕ) → IsSpelling m k → (s ≡ true → 0 < m) → number_text (spelling s m k) ≡ number (record { units = signed_of s (m * 2 ^ k) })
parts_read_back true zero k w p = absurd (omega (arith, p refl))
parts_read_back false zero k w p = (let e : 0 ≡ 0 * 2 ^ k = omega arith in ap (λ n. number (record { units = pos n })) e)
parts_read_back s (suc j) k w p =
    let m = suc j in
    let few : m < 2 ^ 64 = omega (arith, w.few_bits) in
    let found = shape_of s j k few w.short in
    let e = found.0 in
    let t = found.1 in
    let shape = found.4 in
    let odd = odd_is m w.is_odd (omega arith) in
    shaped_text (spelling s m k) s (decimal m) t (decimal e) shape
    ∙ canonical_parts s (decimal m) t (decimal e) shape.digits shape.exponent (canonical_text m t e (omega arith) odd few found.3 found.5)
    ∙ ap (λ n. of_exponent s n t (digits_value 10 (decimal e))) (digits_value-decimal own m few)
    ∙ ap (λ n. of_exponent s m t n) (digits_value-decimal own e (omega (arith, found.3)))
    ∙ by_shift s m t e k found.3 (shift_is t e k found.2)
    ∙ kept_shift s m k w.few_bits w.in_range

-- of every number of the grid
zero_spelling : IsSpelling 0 0
zero_spelling = record { few_bits = omega arith; short = omega arith; in_range = omega arith; is_odd = refl; zero = λ _. refl }

record IsSpelled (n : ℕ) : Type 0 where
  pub odd : ℕ
  pub shift : ℕ
  pub spelled : IsSpelling odd shift
  pub some : 0 < odd
  pub value : odd * 2 ^ shift ≡ n

spelled_size : (n : ℕ) → 0 < n → IsRepresentable n → IsSpelled n
spelled_size n p r =
    let some : 0 < r.whole = ⊎_elim (λ (none : r.whole < 1). absurd (let z : r.whole ≡ 0 = omega arith in omega (arith, p, r.value, ap (λ x. x * 2 ^ r.power) z))) (λ (k : 1 ≤ r.whole). k) (cases_lt r.whole 1) in
    let few : r.whole < 2 ^ 64 = omega (arith, r.few_bits) in
    let zeros = trailing_zeros w64 r.whole in
    let range : r.whole * 2 ^ r.power ≤ 2 ^ 242 = omega (arith, r.value, representable_le n r) in
    let m = r.whole / 2 ^ zeros in
    let k = r.power + zeros in
    let w = spelling_of r.whole r.power some few r.few_bits range in
    let same : m * 2 ^ k ≡ n = units_of_spelling r.whole r.power some few ∙ sym r.value in
    let odd : 0 < m = ⊎_elim (λ (none : m < 1). absurd (let z : m ≡ 0 = omega arith in omega (arith, p, same, ap (λ x. x * 2 ^ k) z))) (λ (j : 1 ≤ m). j) (cases_lt m 1) in
    record { odd = m; shift = k; spelled = w; some = odd; value = same }

signed_reads_back : (s : Bool) (n : ℕ) → 0 < n → IsRepresentable n → number_text (units_text (signed_of s n)) ≡ number (record { units = signed_of s n })
signed_reads_back s n p r =
    let q = spelled_size n p r in
    subst (λ x. number_text (units_text (signed_of s x)) ≡ number (record { units = signed_of s x })) q.value
    (ap number_text (sym (spelling_is s q.odd q.shift q.spelled (λ _. q.some))) ∙ parts_read_back s q.odd q.shift q.spelled (λ _. q.some))

pub spelling_reads_back : (d : Dyadic) → IsOnGrid d → number_text (number_spelling d) ≡ number d
spelling_reads_back d g = by d.units g
  where
    by : (z : ℤ) → IsRepresentable (nat_abs z) → number_text (units_text z) ≡ number (record { units = z })
    by (pos zero) r = refl
    by (pos (suc n)) r = signed_reads_back false (suc n) (omega arith) r
    by (negsuc n) r = signed_reads_back true (suc n) (omega arith) r

-- what is true of each spelling is true of the text of every number of the grid
pub each_spelling : (P : List ℕ → Type 0) → ((s : Bool) (m k : ℕ) → IsSpelling m k → P (spelling s m k)) → (d : Dyadic) → IsOnGrid d → P (number_spelling d)
each_spelling P holds d g = by d.units g
  where
    signed : (s : Bool) (n : ℕ) → 0 < n → IsRepresentable n → P (units_text (signed_of s n))
    signed s n p r =
        let q = spelled_size n p r in
        subst (λ x. P (units_text (signed_of s x))) q.value (subst P (spelling_is s q.odd q.shift q.spelled (λ _. q.some)) (holds s q.odd q.shift q.spelled))

    by : (z : ℤ) → IsRepresentable (nat_abs z) → P (units_text z)
    by (pos zero) r = holds false 0 0 zero_spelling
    by (pos (suc n)) r = signed false (suc n) (omega arith) r
    by (negsuc n) r = signed true (suc n) (omega arith) r
