-- What the bytes are, from their parts.
use Rattle.std.proofs.Common.{◌≡◌, ◌≢◌, ℕ, zero, suc, ◌+◌, ◌-◌, ◌*◌, ◌%◌, ◌^◌, ◌<◌, ◌≤◌, arith, refl, sym, ap, ◌∙◌, Bool, true, false, cond, not, ◌&&◌, ◌||◌, nat_eq, nat_lt, nat_le, Option, Some, None, List, [], ◌∷◌, ◌++◌, length, get_or, pos}
use Rattle.std.specs.Int.{IsInRange}
use Rattle.std.specs.Str.{all_ascii_digits}
use Rattle.std.specs.Str.Parse.{digits_value}
use Rattle.std.specs.Char.{is_ascii_digit}
use Rattle.std.proofs.lemmas.Bool.{cond-true, cond-false, leb-true, le-leb, lt-leb, eqb-true, eq-eqb, ne_eqb, and_from, and_left, and_right, true≢false, false_from_ne_true}
use Rattle.std.proofs.lemmas.Bool.Decides.{nat_tests}
use Rattle.std.proofs.lemmas.List.{length-append}
use Rattle.dyadic.specs.NumberText.{NumberText, number, not_a_number, not_canonical, not_representable, are_digits, after_sign, put_first, halves, is_canonical, of_shift, of_exponent, of_parts, of_halves, of_rest, is_nought, number_text}
use Rattle.dyadic.specs.Text.{minus_sign, joined_text, IsDigits, IsShaped, IsCanonical, IsShift}
use Rattle.dyadic.specs.Signed.{signed_of}

-- ---- digits

digit_test : (c : ℕ) → is_ascii_digit c ≡ true → IsInRange 48 57 c
digit_test c h = grind (arith, nat_tests, h)

digit_from : (c : ℕ) → IsInRange 48 57 c → is_ascii_digit c ≡ true
digit_from c h = grind (arith, nat_tests, h)

and_one : (x y : Bool) → (x && y) ≡ true → x ≡ true
and_one true y e = refl
and_one false y e = e

and_two : (x y : Bool) → (x && y) ≡ true → y ≡ true
and_two true y e = e
and_two false y e = absurd (let f : false ≡ true = e in cc)

pub digits_each : (ds : List ℕ) → all_ascii_digits ds ≡ true → (k : ℕ) → k < length ds → IsInRange 48 57 (get_or ds k 0)
digits_each [] h k l = absurd (omega (arith, l))
digits_each (d ∷ ds) h zero l = digit_test d (and_one (is_ascii_digit d) (all_ascii_digits ds) h)
digits_each (d ∷ ds) h (suc k) l = digits_each ds (and_two (is_ascii_digit d) (all_ascii_digits ds) h) k (omega (arith, l))

pub digits_all : (ds : List ℕ) → ((k : ℕ) → k < length ds → IsInRange 48 57 (get_or ds k 0)) → all_ascii_digits ds ≡ true
digits_all [] h = refl
digits_all (d ∷ ds) h = and_from (is_ascii_digit d) (all_ascii_digits ds) (digit_from d (h 0 (omega arith))) (digits_all ds (λ k l. h (suc k) (omega (arith, l))))

pub digits_from_test : (ds : List ℕ) → are_digits ds ≡ true → IsDigits ds
digits_from_test ds h = record {
  digits = digits_each ds (and_two (nat_lt 0 (length ds)) (all_ascii_digits ds) h);
  some = let e = and_one (nat_lt 0 (length ds)) (all_ascii_digits ds) h in grind (arith, nat_tests, e);
}

pub digits_test : (ds : List ℕ) → IsDigits ds → are_digits ds ≡ true
digits_test ds d = and_from (nat_lt 0 (length ds)) (all_ascii_digits ds) (let p = d.some in grind (arith, nat_tests, p)) (digits_all ds d.digits)

-- ---- one spelling

pub canonical_yes : (ds : List ℕ) (t : Bool) (es : List ℕ) → IsCanonical ds t es → is_canonical ds t es ≡ true
canonical_yes ds t es c = and_from _ _ (and_from _ _ (ap not (ne_eqb (get_or ds 0 0) 48 c.leading)) (eq-eqb (get_or ds (length ds - 1) 0 % 2) 1 c.odd)) (by (nat_eq (get_or es 0 0) 48) refl)
  where
    by : (b : Bool) → nat_eq (get_or es 0 0) 48 ≡ b → (not b || (nat_eq (length es) 1 && not t)) ≡ true
    by true e = let f = c.exponent (eqb-true (get_or es 0 0) 48 e) in and_from (nat_eq (length es) 1) (not t) (eq-eqb (length es) 1 f.0) (ap not f.1)
    by false e = refl

pub canonical_from : (ds : List ℕ) (t : Bool) (es : List ℕ) → is_canonical ds t es ≡ true → IsCanonical ds t es
canonical_from ds t es h =
    let x = not (nat_eq (get_or ds 0 0) 48) in
    let y = nat_eq (get_or ds (length ds - 1) 0 % 2) 1 in
    let z = not (nat_eq (get_or es 0 0) 48) || (nat_eq (length es) 1 && not t) in
    let front = and_one (x && y) z h in
    record {
      leading = λ e. absurd (clash (nat_eq (get_or ds 0 0) 48) (and_one x y front) (eq-eqb (get_or ds 0 0) 48 e));
      odd = eqb-true (get_or ds (length ds - 1) 0 % 2) 1 (and_two x y front);
      exponent = λ e. by (nat_eq (get_or es 0 0) 48) (eq-eqb (get_or es 0 0) 48 e) (and_two (x && y) z h);
    }
  where
    clash : (b : Bool) → not b ≡ true → b ≡ true → ⊥
    clash true e f = true≢false (sym e)
    clash false e f = true≢false (sym f)

    plus : (b : Bool) → not b ≡ true → b ≡ false
    plus true e = absurd (true≢false (sym e))
    plus false e = refl

    by : (b : Bool) → b ≡ true → (not b || (nat_eq (length es) 1 && not t)) ≡ true → (length es ≡ 1) × (t ≡ false)
    by true e f = (eqb-true (length es) 1 (and_one (nat_eq (length es) 1) (not t) f), plus t (and_two (nat_eq (length es) 1) (not t) f))
    by false e f = absurd (true≢false (sym e))

-- ---- signs and halves

not_minus : (ds tail : List ℕ) → IsDigits ds → get_or (ds ++ tail) 0 0 ≢ 45
not_minus [] tail d e = absurd (omega (arith, d.some))
not_minus (c ∷ ds) tail d e = let r = d.digits 0 d.some in omega (arith, r.0, e)

sign_at : (f : Bool → List ℕ → NumberText) (s : Bool) (rest : List ℕ) → get_or rest 0 0 ≢ 45 → after_sign f (minus_sign s ++ rest) ≡ f s rest
sign_at f true rest h = refl
sign_at f false [] h = refl
sign_at f false (b ∷ bs) h = cond-false (nat_eq b 45) (f true bs) (f false (b ∷ bs)) (ne_eqb b 45 h)

-- whatever holds of each way to take a sign
sign_cases : (f : Bool → List ℕ → NumberText) (P : NumberText → Type 0) (bs : List ℕ) → ((s : Bool) (rest : List ℕ) → bs ≡ minus_sign s ++ rest → P (f s rest)) → P (after_sign f bs)
sign_cases f P [] h = h false [] refl
sign_cases f P (b ∷ bs) h = by (nat_eq b 45) refl
  where
    by : (t : Bool) → nat_eq b 45 ≡ t → P (cond t (f true bs) (f false (b ∷ bs)))
    by true e = h true bs (ap (λ c. c ∷ bs) (eqb-true b 45 e))
    by false e = h false (b ∷ bs) refl

halves_at : (ds tail : List ℕ) → ((k : ℕ) → k < length ds → IsInRange 48 57 (get_or ds k 0)) → halves (ds ++ 98 ∷ tail) ≡ Some (ds, tail)
halves_at [] tail h = refl
halves_at (d ∷ ds) tail h =
    cond-false (nat_eq d 98) (Some ([], ds ++ 98 ∷ tail)) (put_first d (halves (ds ++ 98 ∷ tail))) (ne_eqb d 98 (λ e. let r = h 0 (omega arith) in omega (arith, r.1, e)))
    ∙ ap (put_first d) (halves_at ds tail (λ k l. h (suc k) (omega (arith, l))))

-- what a list is joined of, if of anything
abbrev joined_by : List ℕ → Option (List ℕ × List ℕ) → Type 0
joined_by bs None = Unit {0}
joined_by bs (Some p) = bs ≡ p.0 ++ 98 ∷ p.1

halves_join : (bs : List ℕ) → joined_by bs (halves bs)
halves_join [] = tt
halves_join (b ∷ bs) = by (nat_eq b 98) refl (halves bs) (halves_join bs)
  where
    by : (t : Bool) → nat_eq b 98 ≡ t → (o : Option (List ℕ × List ℕ)) → joined_by bs o → joined_by (b ∷ bs) (cond t (Some ([], bs)) (put_first b o))
    by true e o h = ap (λ c. c ∷ bs) (eqb-true b 98 e)
    by false e None h = tt
    by false e (Some p) h = ap (λ l. b ∷ l) h

-- ---- whole texts

long_not_nought : (bs : List ℕ) → 2 ≤ length bs → is_nought bs ≡ false
long_not_nought [] h = refl
long_not_nought (b ∷ []) h = absurd (omega (arith, h))
long_not_nought (b ∷ c ∷ bs) h = refl

pub shaped_text : (bs : List ℕ) (s : Bool) (ds : List ℕ) (t : Bool) (es : List ℕ) → IsShaped bs s ds t es → number_text bs ≡ of_parts s ds t es
shaped_text bs s ds t es shape =
    let tail = minus_sign t ++ es in
    let rest = ds ++ 98 ∷ tail in
    let long : 2 ≤ length bs = omega (arith, ap (length {A = ℕ}) shape.joined, length-append (minus_sign s) rest, length-append ds (98 ∷ tail), shape.digits.some) in
    cond-false (is_nought bs) (number (record { units = pos 0 })) (after_sign of_rest bs) (long_not_nought bs long)
    ∙ ap (after_sign of_rest) shape.joined
    ∙ sign_at of_rest s rest (not_minus ds (98 ∷ tail) shape.digits)
    ∙ ap (of_halves s) (halves_at ds tail shape.digits.digits)
    ∙ sign_at (of_parts s ds) t es (λ e. not_minus es [] shape.exponent (first_of es e))
  where
    first_of : (l : List ℕ) → get_or l 0 0 ≡ 45 → get_or (l ++ []) 0 0 ≡ 45
    first_of [] e = e
    first_of (c ∷ l) e = e

pub unshaped_text : (bs : List ℕ) → is_nought bs ≡ false → ((s : Bool) (ds : List ℕ) (t : Bool) (es : List ℕ) → ¬ IsShaped bs s ds t es) → number_text bs ≡ not_a_number
unshaped_text bs nought none =
    cond-false (is_nought bs) (number (record { units = pos 0 })) (after_sign of_rest bs) nought
    ∙ sign_cases of_rest (λ x. x ≡ not_a_number) bs (λ s rest e. by_halves s rest e (halves rest) (halves_join rest))
  where
    by_test : (s : Bool) (ds : List ℕ) (t : Bool) (es : List ℕ) → bs ≡ joined_text s ds t es → (a : Bool) → (are_digits ds && are_digits es) ≡ a →
        cond a (cond (is_canonical ds t es) (of_exponent s (digits_value 10 ds) t (digits_value 10 es)) not_canonical) not_a_number ≡ not_a_number
    by_test s ds t es e true f = absurd (none s ds t es (record { joined = e; digits = digits_from_test ds (and_one (are_digits ds) (are_digits es) f); exponent = digits_from_test es (and_two (are_digits ds) (are_digits es) f) }))
    by_test s ds t es e false f = refl

    by_halves : (s : Bool) (rest : List ℕ) → bs ≡ minus_sign s ++ rest → (o : Option (List ℕ × List ℕ)) → joined_by rest o → of_halves s o ≡ not_a_number
    by_halves s rest e None j = refl
    by_halves s rest e (Some p) j = sign_cases (of_parts s p.0) (λ x. x ≡ not_a_number) p.1
        (λ t es f. by_test s p.0 t es (e ∙ ap (λ l. minus_sign s ++ l) (j ∙ ap (λ l. p.0 ++ 98 ∷ l) f)) (are_digits p.0 && are_digits es) refl)

-- ---- the parts

pub canonical_parts : (s : Bool) (ds : List ℕ) (t : Bool) (es : List ℕ) → IsDigits ds → IsDigits es → IsCanonical ds t es → of_parts s ds t es ≡ of_exponent s (digits_value 10 ds) t (digits_value 10 es)
canonical_parts s ds t es d e c =
    cond-true (are_digits ds && are_digits es) (cond (is_canonical ds t es) (of_exponent s (digits_value 10 ds) t (digits_value 10 es)) not_canonical) not_a_number (and_from (are_digits ds) (are_digits es) (digits_test ds d) (digits_test es e))
    ∙ cond-true (is_canonical ds t es) (of_exponent s (digits_value 10 ds) t (digits_value 10 es)) not_canonical (canonical_yes ds t es c)

pub other_parts : (s : Bool) (ds : List ℕ) (t : Bool) (es : List ℕ) → IsDigits ds → IsDigits es → ¬ IsCanonical ds t es → of_parts s ds t es ≡ not_canonical
other_parts s ds t es d e c =
    cond-true (are_digits ds && are_digits es) (cond (is_canonical ds t es) (of_exponent s (digits_value 10 ds) t (digits_value 10 es)) not_canonical) not_a_number (and_from (are_digits ds) (are_digits es) (digits_test ds d) (digits_test es e))
    ∙ cond-false (is_canonical ds t es) (of_exponent s (digits_value 10 ds) t (digits_value 10 es)) not_canonical (false_from_ne_true (is_canonical ds t es) (λ y. c (canonical_from ds t es y)))

-- ---- the value

either_cond : (b : Bool) (x : NumberText) → cond b x x ≡ x
either_cond true x = refl
either_cond false x = refl

too_many_shift : (s : Bool) (m k : ℕ) → 2 ^ 62 < m → of_shift s m k ≡ not_representable
too_many_shift s m k h = cond-false (nat_le m (2 ^ 62) && nat_le (m * 2 ^ k) (2 ^ 242)) (number (record { units = signed_of s (m * 2 ^ k) })) not_representable (and_left (nat_le m (2 ^ 62)) (nat_le (m * 2 ^ k) (2 ^ 242)) (lt-leb m (2 ^ 62) h))

pub too_many_bits : (s : Bool) (m : ℕ) (t : Bool) (e : ℕ) → 2 ^ 62 < m → not_representable ≡ of_exponent s m t e
too_many_bits s m true e h = sym (ap (λ x. cond (nat_le e 120) x not_representable) (too_many_shift s m (120 - e) h) ∙ either_cond (nat_le e 120) not_representable)
too_many_bits s m false e h = sym (ap (λ x. cond (nat_le e 122) x not_representable) (too_many_shift s m (120 + e) h) ∙ either_cond (nat_le e 122) not_representable)

pub too_far : (s : Bool) (m : ℕ) (t : Bool) (e : ℕ) → 122 < e → not_representable ≡ of_exponent s m t e
too_far s m true e h = sym (cond-false (nat_le e 120) (of_shift s m (120 - e)) not_representable (lt-leb e 120 (omega (arith, h))))
too_far s m false e h = sym (cond-false (nat_le e 122) (of_shift s m (120 + e)) not_representable (lt-leb e 122 h))

pub too_fine : (s : Bool) (m : ℕ) (t : Bool) (e : ℕ) → t ≡ true → 120 < e → not_representable ≡ of_exponent s m t e
too_fine s m true e f h = sym (cond-false (nat_le e 120) (of_shift s m (120 - e)) not_representable (lt-leb e 120 h))
too_fine s m false e f h = absurd (let g : false ≡ true = f in cc)

pub by_shift : (s : Bool) (m : ℕ) (t : Bool) (e shift : ℕ) → e ≤ 122 → IsShift t e shift → of_exponent s m t e ≡ of_shift s m shift
by_shift s m true e shift few h =
    cond-true (nat_le e 120) (of_shift s m (120 - e)) not_representable (le-leb e 120 (omega (arith, h))) ∙ ap (of_shift s m) (let k : 120 - e ≡ shift = omega (arith, h) in k)
by_shift s m false e shift few h =
    cond-true (nat_le e 122) (of_shift s m (120 + e)) not_representable (le-leb e 122 few) ∙ ap (of_shift s m) (sym h)

pub kept_shift : (s : Bool) (m k : ℕ) → m ≤ 2 ^ 62 → m * 2 ^ k ≤ 2 ^ 242 → of_shift s m k ≡ number (record { units = signed_of s (m * 2 ^ k) })
kept_shift s m k few range = cond-true (nat_le m (2 ^ 62) && nat_le (m * 2 ^ k) (2 ^ 242)) (number (record { units = signed_of s (m * 2 ^ k) })) not_representable (and_from (nat_le m (2 ^ 62)) (nat_le (m * 2 ^ k) (2 ^ 242)) (le-leb m (2 ^ 62) few) (le-leb (m * 2 ^ k) (2 ^ 242) range))

pub out_of_range : (s : Bool) (m k : ℕ) → ¬ (m * 2 ^ k ≤ 2 ^ 242) → not_representable ≡ of_shift s m k
out_of_range s m k h = sym (cond-false (nat_le m (2 ^ 62) && nat_le (m * 2 ^ k) (2 ^ 242)) (number (record { units = signed_of s (m * 2 ^ k) })) not_representable (and_right (nat_le m (2 ^ 62)) (nat_le (m * 2 ^ k) (2 ^ 242)) (false_from_ne_true (nat_le (m * 2 ^ k) (2 ^ 242)) (λ e. h (leb-true (m * 2 ^ k) (2 ^ 242) e)))))
