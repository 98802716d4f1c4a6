-- Plain numbers and lists of them.
use Rattle.std.proofs.Common.{◌≡◌, ◌≢◌, ◌<◌, ◌≤◌, ◌^◌, ℕ, ◌+◌, List, [], ◌∷◌, ◌++◌, append_assoc, Bool, true, false, not, nat_eq, nat_lt, Option, Some, None, length, take, drop, get_or, refl, ap, sym, ◌∙◌, true≢false, arith}
use Rattle.std.specs.Str.{all_ascii_digits}
use Rattle.std.specs.Str.Parse.{digits_value}
use Rattle.std.proofs.lemmas.Bool.Decides.{nat_tests}
use Rattle.dyadic.proofs.Equal.{both_true, both_pass}
use Rattle.dyadic.proofs.Texts.{digits_each, digits_all}
use Rattle.cert_read.specs.CertLine.{is_plain, if_plain, if_below, count_of, and_count, counts_of}
use Rattle.cert_read.specs.Lines.{words_of}
use Rattle.cert_read.specs.Numbers.{IsPlain}
use Rattle.cert_read.proofs.Parts.{split_found, split_whole}

not_same : (b c : ℕ) → b ≢ c → not (nat_eq b c) ≡ true
not_same b c h = grind (arith, nat_tests)

same_not : (b c : ℕ) → not (nat_eq b c) ≡ true → b ≢ c
same_not b c h e = grind (arith, nat_tests)

plain_test : (w : List ℕ) → IsPlain w → is_plain w ≡ true
plain_test [] p = absurd (let s = p.some in omega (arith, s))
plain_test (b ∷ []) p = digits_all (b ∷ []) p.digits
plain_test (b ∷ c ∷ bs) p = both_pass (not (nat_eq b 48)) (all_ascii_digits (b ∷ c ∷ bs)) (not_same b 48 (p.leading (omega arith))) (digits_all (b ∷ c ∷ bs) p.digits)

plain_back : (w : List ℕ) → is_plain w ≡ true → IsPlain w
plain_back [] h = absurd (true≢false (sym h))
plain_back (b ∷ []) h = record { digits = digits_each (b ∷ []) h; some = omega arith; leading = λ l. absurd (omega (arith, l)) }
plain_back (b ∷ c ∷ bs) h =
    let e = both_true (not (nat_eq b 48)) (all_ascii_digits (b ∷ c ∷ bs)) h in
    record { digits = digits_each (b ∷ c ∷ bs) e.1; some = omega arith; leading = λ l. same_not b 48 e.0 }

not_plain : (w : List ℕ) → (IsPlain w → ⊥) → is_plain w ≡ false
not_plain w h = by_test (is_plain w) refl where
  by_test : (t : Bool) → is_plain w ≡ t → is_plain w ≡ false
  by_test true e = absurd (h (plain_back w e))
  by_test false e = e

pub no_count : (w : List ℕ) → (IsPlain w → ⊥) → count_of w ≡ None
no_count w h = ap (λ (t : Bool). if_plain t w) (not_plain w h)

below_test : (n m : ℕ) → n < m → nat_lt n m ≡ true
below_test n m h = grind (arith, nat_tests)

above_test : (n m : ℕ) → m ≤ n → nat_lt n m ≡ false
above_test n m h = grind (arith, nat_tests)

pub some_count : (w : List ℕ) (n : ℕ) → IsPlain w → n ≡ digits_value 10 w → n < 2 ^ 32 → count_of w ≡ Some n
some_count w n p e l =
    ap (λ (t : Bool). if_plain t w) (plain_test w p)
    ∙ ap (λ (m : ℕ). if_below (nat_lt m (2 ^ 32)) m) (sym e)
    ∙ ap (λ (t : Bool). if_below t n) (below_test n (2 ^ 32) l)

pub wide_count : (w : List ℕ) → IsPlain w → 2 ^ 32 ≤ digits_value 10 w → count_of w ≡ None
wide_count w p l =
    ap (λ (t : Bool). if_plain t w) (plain_test w p)
    ∙ ap (λ (t : Bool). if_below t (digits_value 10 w)) (above_test (digits_value 10 w) (2 ^ 32) l)

-- ---- lists

-- some numbers and then these
abbrev pub joined : List ℕ → Option (List ℕ) → Option (List ℕ)
joined ns None = None
joined ns (Some ms) = Some (ns ++ ms)

pub joined_none : (o : Option (List ℕ)) → o ≡ joined [] o
joined_none None = refl
joined_none (Some ms) = refl

joined_more : (ns : List ℕ) (n : ℕ) (o : Option (List ℕ)) → joined ns (and_count (Some n) o) ≡ joined (ns ++ (n ∷ [])) o
joined_more ns n None = refl
joined_more ns n (Some ms) = ap (λ (l : List ℕ). Some l) (sym (append_assoc ns (n ∷ []) ms))

-- the first word of some text is at this place
pub counts_on : (ns : List ℕ) (xs : List ℕ) (size n : ℕ) → size < length xs → get_or xs size 0 ≡ 32 → ((k : ℕ) → k < size → get_or xs k 0 ≢ 32)
    → count_of (take size xs) ≡ Some n → joined ns (counts_of (words_of xs)) ≡ joined (ns ++ (n ∷ [])) (counts_of (words_of (drop (size + 1) xs)))
counts_on ns xs size n l e h k =
    ap (λ (ws : List (List ℕ)). joined ns (counts_of ws)) (split_found 32 xs size l e h)
    ∙ ap (λ (o : Option ℕ). joined ns (and_count o (counts_of (words_of (drop (size + 1) xs))))) k
    ∙ joined_more ns n (counts_of (words_of (drop (size + 1) xs)))

pub counts_last : (ns : List ℕ) (xs : List ℕ) (size n : ℕ) → size ≡ length xs → ((k : ℕ) → k < size → get_or xs k 0 ≢ 32)
    → count_of xs ≡ Some n → joined ns (counts_of (words_of xs)) ≡ Some (ns ++ (n ∷ []))
counts_last ns xs size n e h k =
    ap (λ (ws : List (List ℕ)). joined ns (counts_of ws)) (split_whole 32 xs size e h)
    ∙ ap (λ (o : Option ℕ). joined ns (and_count o (Some []))) k

-- a word without a number
pub counts_none : (ns : List ℕ) (xs w : List ℕ) (ws : List (List ℕ)) → words_of xs ≡ w ∷ ws → count_of w ≡ None → joined ns (counts_of (words_of xs)) ≡ None
counts_none ns xs w ws e k =
    ap (λ (us : List (List ℕ)). joined ns (counts_of us)) e ∙ ap (λ (o : Option ℕ). joined ns (and_count o (counts_of ws))) k
