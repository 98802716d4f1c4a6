-- The text of a string, byte by byte, and where a quoted symbol ends.
use Rattle.std.proofs.Common.{◌≡◌, ℕ, suc, ◌+◌, ◌<◌, ◌≤◌, List, [], ◌∷◌, ◌++◌, Bool, true, false, cond, Option, Some, None, refl, ap, sym, ◌∙◌, arith, length, get_or, take, drop, append_assoc, length-drop, get_or-drop, add-zero}
use Rattle.std.specs.Prelude.{nat_eq, not, ◌||◌}
use Rattle.std.proofs.lemmas.Bool.Decides.{nat_tests}
use Rattle.std.proofs.lemmas.List.{drop_more, drop_all, append-nil}
use Rattle.smt_sexp.specs.Lexicon.{run, string_text, string_more, Quoted, ends, slash, no_bar, quoted, quoted_more}

-- a text and its size, behind those read so far
abbrev pub string_behind : List ℕ → ℕ → Option (List ℕ × ℕ) → Option (List ℕ × ℕ)
string_behind t n None = None
string_behind t n (Some (text, size)) = Some (t ++ text, n + size)

behind_nothing : (o : Option (List ℕ × ℕ)) → string_behind [] 0 o ≡ o
behind_nothing None = refl
behind_nothing (Some (text, size)) = ap (λ n. Some (text, n)) (omega arith)

pub record StringSoFar (bytes text : List ℕ) (n : ℕ) : Type 0 where
  pub within : n ≤ length bytes
  pub rest : string_text bytes ≡ string_behind text n (string_text (drop n bytes))

pub string_starts : (bytes : List ℕ) → StringSoFar bytes [] 0
string_starts bytes = record { within = omega arith; rest = sym (behind_nothing (string_text bytes)) }

behind_more : (t : List ℕ) (n b k : ℕ) (o : Option (List ℕ × ℕ)) → string_behind t n (string_more b k o) ≡ string_behind (t ++ b ∷ []) (n + k) o
behind_more t n b k None = refl
behind_more t n b k (Some (text, size)) =
    let sizes : n + (size + k) ≡ n + k + size = omega arith in
    ap (λ m. Some (t ++ b ∷ text, m)) sizes ∙ ap (λ s. Some (s, n + k + size)) (sym (append_assoc t (b ∷ []) text))

-- a byte that is no quote
plain : (b : ℕ) (bs : List ℕ) → nat_eq b 34 ≡ false → string_text (b ∷ bs) ≡ string_more b 1 (string_text bs)
plain b [] h = ap (λ t. cond t (Some ([], 1)) None) h
plain b (c ∷ bs) h = ap (λ t. cond t (cond (nat_eq c 34) (string_more 34 2 (string_text bs)) (Some ([], 1))) (string_more b 1 (string_text (c ∷ bs)))) h

doubled : (b c : ℕ) (bs : List ℕ) → b ≡ 34 → c ≡ 34 → string_text (b ∷ c ∷ bs) ≡ string_more 34 2 (string_text bs)
doubled b c bs h k = ap (λ x. string_text (x ∷ c ∷ bs)) h ∙ ap (λ x. string_text (34 ∷ x ∷ bs)) k

last : (b : ℕ) (bs : List ℕ) → b ≡ 34 → (0 < length bs → nat_eq (get_or bs 0 0) 34 ≡ false) → string_text (b ∷ bs) ≡ Some ([], 1)
last b [] h k = ap (λ x. string_text (x ∷ [])) h
last b (c ∷ bs) h k = ap (λ x. string_text (x ∷ c ∷ bs)) h ∙ ap (λ t. cond t (string_more 34 2 (string_text bs)) (Some ([], 1))) (k (omega arith))

pub string_plain : (bytes text : List ℕ) (n : ℕ) → StringSoFar bytes text n → n < length bytes → nat_eq (get_or bytes n 0) 34 ≡ false → StringSoFar bytes (text ++ get_or bytes n 0 ∷ []) (n + 1)
string_plain bytes text n h lt other = record {
  within = omega arith;
  rest = h.rest ∙ ap (λ xs. string_behind text n (string_text xs)) (drop_more bytes n 0 lt) ∙ ap (string_behind text n) (plain (get_or bytes n 0) (drop (n + 1) bytes) other) ∙
      behind_more text n (get_or bytes n 0) 1 (string_text (drop (n + 1) bytes));
}

two_more : (bytes : List ℕ) (n : ℕ) → n + 1 < length bytes → drop n bytes ≡ get_or bytes n 0 ∷ get_or bytes (n + 1) 0 ∷ drop (n + 2) bytes
two_more bytes n lt =
    let sums : n + 1 + 1 ≡ n + 2 = omega arith in
    drop_more bytes n 0 (omega arith) ∙ ap (λ xs. get_or bytes n 0 ∷ xs) (drop_more bytes (n + 1) 0 lt) ∙ ap (λ m. get_or bytes n 0 ∷ get_or bytes (n + 1) 0 ∷ drop m bytes) sums

pub string_doubled : (bytes text : List ℕ) (n : ℕ) → StringSoFar bytes text n → n + 1 < length bytes → get_or bytes n 0 ≡ 34 → get_or bytes (n + 1) 0 ≡ 34 → StringSoFar bytes (text ++ 34 ∷ []) (n + 2)
string_doubled bytes text n h lt first second = record {
  within = omega arith;
  rest = h.rest ∙ ap (λ xs. string_behind text n (string_text xs)) (two_more bytes n lt) ∙ ap (string_behind text n) (doubled (get_or bytes n 0) (get_or bytes (n + 1) 0) (drop (n + 2) bytes) first second) ∙
      behind_more text n 34 2 (string_text (drop (n + 2) bytes));
}

pub string_ends : (bytes text : List ℕ) (n : ℕ) → StringSoFar bytes text n → n < length bytes → get_or bytes n 0 ≡ 34 → (n + 1 < length bytes → nat_eq (get_or bytes (n + 1) 0) 34 ≡ false) → Some (text, n + 1) ≡ string_text bytes
string_ends bytes text n h lt first other =
    sym (h.rest ∙ ap (λ xs. string_behind text n (string_text xs)) (drop_more bytes n 0 lt) ∙ ap (string_behind text n) (last (get_or bytes n 0) (drop (n + 1) bytes) first next) ∙ ap (λ t. Some (t, n + 1)) (append-nil text))
  where
    next : 0 < length (drop (n + 1) bytes) → nat_eq (get_or (drop (n + 1) bytes) 0 0) 34 ≡ false
    next some =
        let lt2 : n + 1 < length bytes = omega (arith, length-drop (n + 1) bytes) in
        ap (λ m. nat_eq m 34) (get_or-drop (n + 1) bytes 0 0 ∙ ap (λ m. get_or bytes m 0) (add-zero (n + 1))) ∙ other lt2

pub string_unended : (bytes text : List ℕ) (n : ℕ) → StringSoFar bytes text n → length bytes ≤ n → None ≡ string_text bytes
string_unended bytes text n h le = sym (h.rest ∙ ap (λ xs. string_behind text n (string_text xs)) (drop_all n bytes le))

-- ---- quoted symbols

abbrev pub goes_on : ℕ → Bool
goes_on b = not (nat_eq b 124 || nat_eq b 92)

-- what ends a run at n
abbrev pub quoted_end : ℕ → List ℕ → List ℕ → Quoted
quoted_end n xs [] = no_bar
quoted_end n xs (b ∷ rest) = cond (nat_eq b 92) (slash n) (ends (take n xs))

quoted_end_more : (x n : ℕ) (xs rest : List ℕ) → quoted_more x (quoted_end n xs rest) ≡ quoted_end (suc n) (x ∷ xs) rest
quoted_end_more x n xs [] = refl
quoted_end_more x n xs (b ∷ rest) = by (nat_eq b 92)
  where
    by : (t : Bool) → quoted_more x (cond t (slash n) (ends (take n xs))) ≡ cond t (slash (suc n)) (ends (x ∷ take n xs))
    by true = refl
    by false = refl

not_back : (x : ℕ) → nat_eq x 124 ≡ true → nat_eq x 92 ≡ false
not_back x h = grind (arith, nat_tests)

quoted_first : (x : ℕ) (xs : List ℕ) (s t : Bool) → nat_eq x 124 ≡ s → nat_eq x 92 ≡ t → quoted xs ≡ quoted_end (length (run goes_on xs)) xs (drop (length (run goes_on xs)) xs) →
    cond s (ends []) (cond t (slash 0) (quoted_more x (quoted xs))) ≡
    quoted_end (length (cond (not (s || t)) (x ∷ run goes_on xs) [])) (x ∷ xs) (drop (length (cond (not (s || t)) (x ∷ run goes_on xs) [])) (x ∷ xs))
quoted_first x xs true t bar back h = sym (ap (λ u. cond u (slash 0) (ends [])) (not_back x bar))
quoted_first x xs false true bar back h = sym (ap (λ u. cond u (slash 0) (ends [])) back)
quoted_first x xs false false bar back h = ap (quoted_more x) h ∙ quoted_end_more x (length (run goes_on xs)) xs (drop (length (run goes_on xs)) xs)

pub quoted_is : (xs : List ℕ) → quoted xs ≡ quoted_end (length (run goes_on xs)) xs (drop (length (run goes_on xs)) xs)
quoted_is [] = refl
quoted_is (x ∷ xs) = quoted_first x xs (nat_eq x 124) (nat_eq x 92) refl refl (quoted_is xs)

pub same_test : (a b : ℕ) → a ≡ b → nat_eq a b ≡ true
same_test a b h = grind (arith, nat_tests)

pub other_test : (a b : ℕ) → (a ≡ b → ⊥) → nat_eq a b ≡ false
other_test a b h = grind (arith, nat_tests)
