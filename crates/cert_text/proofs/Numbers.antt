-- The spelling of a number is a word, and is read back.
use Rattle.std.proofs.Common.{◌≡◌, ℕ, zero, suc, ◌<◌, ◌≤◌, List, [], ◌∷◌, ◌++◌, Bool, true, false, not, ◌&&◌, nat_eq, nat_lt, IsTrue, length, get_or, refl, sym, subst, arith}
use Rattle.std.specs.Fmt.{decimal}
use Rattle.std.specs.Int.{IsInRange}
use Rattle.std.proofs.lemmas.Bool.Decides.{nat_tests}
use Rattle.dyadic.specs.declared.dy.Dy.{Dy}
use Rattle.dyadic.specs.Grid.{IsSpelling}
use Rattle.dyadic.specs.Rounding.{Dyadic}
use Rattle.dyadic.specs.NumberText.{number, not_a_number, number_text, number_spelling}
use Rattle.dyadic.specs.Text.{minus_sign, spelling, joined_text, IsDigits}
use Rattle.dyadic.specs.Views.{dyadic_of}
use Rattle.dyadic.proofs.Equal.{both_true, both_pass}
use Rattle.dyadic.proofs.Floors.{number_on_grid}
use Rattle.dyadic.proofs.Spellings.{shape_of}
use Rattle.dyadic.proofs.TextLaws.{spelling_reads_back, each_spelling}
use Rattle.cert_read.specs.Lines.{all_bytes}
use Rattle.cert_read.specs.LineText.{is_word_byte, IsSpelledNumber}

abbrev Clean : List ℕ → Type 0
Clean bs = IsTrue (all_bytes is_word_byte bs)

clean-append : (xs ys : List ℕ) → Clean xs → Clean ys → Clean (xs ++ ys)
clean-append [] ys h k = k
clean-append (x ∷ xs) ys h k = let e = both_true (is_word_byte x) (all_bytes is_word_byte xs) h in both_pass (is_word_byte x) (all_bytes is_word_byte (xs ++ ys)) e.0 (clean-append xs ys e.1 k)

digit-byte : (b : ℕ) → 48 ≤ b → b ≤ 57 → IsTrue (is_word_byte b)
digit-byte b h k = both_pass (nat_lt b 128 && not (nat_eq b 32)) (not (nat_eq b 10))
    (both_pass (nat_lt b 128) (not (nat_eq b 32)) (grind (arith, nat_tests)) (grind (arith, nat_tests)))
    (grind (arith, nat_tests))

digits-clean : (ds : List ℕ) → ((k : ℕ) → k < length ds → IsInRange 48 57 (get_or ds k 0)) → Clean ds
digits-clean [] h = refl
digits-clean (b ∷ bs) h = let e = h 0 (omega arith) in both_pass (is_word_byte b) (all_bytes is_word_byte bs) (digit-byte b e.0 e.1) (digits-clean bs (λ k l. h (suc k) (omega (arith, l))))

sign-clean : (s : Bool) → Clean (minus_sign s)
sign-clean true = refl
sign-clean false = refl

joined-clean : (s : Bool) (ds : List ℕ) (t : Bool) (es : List ℕ) → IsDigits ds → IsDigits es → Clean (joined_text s ds t es)
joined-clean s ds t es d e =
    clean-append (minus_sign s) (ds ++ 98 ∷ (minus_sign t ++ es)) (sign-clean s)
    (clean-append ds (98 ∷ (minus_sign t ++ es)) (digits-clean ds d.digits)
    (clean-append (98 ∷ []) (minus_sign t ++ es) refl
    (clean-append (minus_sign t) es (sign-clean t) (digits-clean es e.digits))))

spelling-clean : (s : Bool) (m k : ℕ) → IsSpelling m k → Clean (spelling s m k)
spelling-clean s zero k w = refl
spelling-clean s (suc m) k w = let f = shape_of s m k (omega (arith, w.few_bits)) w.short in
    subst Clean (sym f.4.joined) (joined-clean s (decimal (suc m)) f.1 (decimal f.0) f.4.digits f.4.exponent)

some-bytes : (bs : List ℕ) (d : Dyadic) → number_text bs ≡ number d → 0 < length bs
some-bytes [] d h = absurd (no-number d h) where
  no-number : (d : Dyadic) → not_a_number ≡ number d → ⊥
  no-number d h = cc
some-bytes (b ∷ bs) d h = omega arith

-- the text of a number of the code
pub number_spelled : (a : Dy) → IsSpelledNumber (dyadic_of a)
number_spelled a =
    let back = spelling_reads_back (dyadic_of a) (number_on_grid a) in (
      back,
      some-bytes (number_spelling (dyadic_of a)) (dyadic_of a) back,
      each_spelling Clean spelling-clean (dyadic_of a) (number_on_grid a),
    )
