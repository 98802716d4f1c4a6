-- Words that are read as numbers are their spellings.
use Rattle.std.proofs.Common.{◌≡◌, ℕ, suc, ◌^◌, inl, inr, ◌<◌, List, [], ◌∷◌, map, Bool, true, false, not, IsTrue, Option, Some, None, refl, ap, ap₂, sym, subst, ◌∙◌, true≢false, nat_eq, nat_lt, length, get_or, arith}
use Rattle.std.specs.Prelude.{decimal}
use Rattle.std.specs.List.{AllByRecursion}
use Rattle.std.specs.Str.{all_ascii_digits}
use Rattle.std.specs.Str.Parse.{digits_value}
use Rattle.std.proofs.lemmas.Bool.Decides.{eqb_tells}
use Rattle.std.proofs.lemmas.Bool.{leb-true}
use Rattle.std.proofs.lemmas.Fmt.{decimal-digits_value}
use Rattle.std.proofs.lemmas.Str.Parse.{IsNumeralModel, tells_all_ascii_digits, numerals_by_value}
use Rattle.dyadic.specs.Rounding.{Dyadic}
use Rattle.dyadic.specs.NumberText.{NumberText, number, not_a_number, not_canonical, not_representable, number_text, number_spelling}
use Rattle.dyadic.proofs.Equal.{both_true}
use Rattle.cover_line.specs.Line.{Multipliers}
use Rattle.cert_read.specs.CertLine.{is_plain, if_below, if_plain, count_of, if_number, dyadic_of, and_count, counts_of, and_pair, pairs_of, are_paired}
use Rattle.cert_read.specs.Lines.{all_bytes}
use Rattle.cert_read.specs.LineText.{is_word_byte, pair_words, IsCount, IsSpelledNumber, IsSpelledPair}
use Rattle.cert_read.proofs.Spelled.{IsCleanWord, AreCleanWords}
use Rattle.spelling_law.proofs.Read.{only_spellings}

-- ---- plain numbers

model : IsNumeralModel (λ w. all_ascii_digits w ≡ true) (digits_value 10)
model = numerals_by_value (λ w. all_ascii_digits w ≡ true) tells_all_ascii_digits

plain-some : (w : List ℕ) → is_plain w ≡ true → 0 < length w
plain-some [] h = absurd (true≢false (sym h))
plain-some (b ∷ bs) h = omega arith

plain-digits : (w : List ℕ) → is_plain w ≡ true → all_ascii_digits w ≡ true
plain-digits [] h = absurd (true≢false (sym h))
plain-digits (b ∷ []) h = h
plain-digits (b ∷ c ∷ bs) h = (both_true (not (nat_eq b 48)) (all_ascii_digits (b ∷ c ∷ bs)) h).1

not-same : (b c : ℕ) → IsTrue (not (nat_eq b c)) → b ≡ c → ⊥
not-same b c h e = elim (eqb_tells b c) [ inl k ↦ true≢false (sym h ∙ ap not k.0) | inr k ↦ k.1 e ]

plain-leading : (w : List ℕ) → is_plain w ≡ true → get_or w 0 0 ≡ 48 → length w ≡ 1
plain-leading [] h e = absurd (true≢false (sym h))
plain-leading (b ∷ []) h e = refl
plain-leading (b ∷ c ∷ bs) h e = absurd (not-same b 48 (both_true (not (nat_eq b 48)) (all_ascii_digits (b ∷ c ∷ bs)) h).0 e)

wide : (n : ℕ) → n < 2 ^ 32 → n < 2 ^ 64
wide n h = omega (arith, h)

plain-decimal : (w : List ℕ) → is_plain w ≡ true → digits_value 10 w < 2 ^ 32 → decimal (digits_value 10 w) ≡ w
plain-decimal w h l = decimal-digits_value model w (plain-digits w h) (plain-some w h) (plain-leading w h) (wide (digits_value 10 w) l)

same-some : {A : Type 0} (x y : A) → Some x ≡ Some y → x ≡ y
same-some x y h = cc

none-some : {A : Type 0} (x : A) → None ≡ Some x → ⊥
none-some x h = absurd (cc)

if-below : (m k n : ℕ) → if_below (nat_lt m k) m ≡ Some n → (m ≡ n) × (m < k)
if-below m k n h = by (nat_lt m k) refl h where
  by : (t : Bool) → nat_lt m k ≡ t → if_below t m ≡ Some n → (m ≡ n) × (m < k)
  by true e g = (same-some m n g, leb-true (suc m) k e)
  by false e g = absurd (none-some n g)

-- a word that is read as a plain number is that one's digits
pub count_back : (w : List ℕ) (n : ℕ) → count_of w ≡ Some n → (decimal n ≡ w) × IsCount n
count_back w n h = by (is_plain w) refl h where
  by : (t : Bool) → is_plain w ≡ t → if_plain t w ≡ Some n → (decimal n ≡ w) × IsCount n
  by true e g = let k = if-below (digits_value 10 w) (2 ^ 32) n g in subst (λ m. (decimal m ≡ w) × IsCount m) k.0 (plain-decimal w e k.1, k.1)
  by false e g = absurd (none-some n g)

-- ---- numbers of the grid

number-found : (t : NumberText) (d : Dyadic) → if_number t ≡ Some d → t ≡ number d
number-found (number c) d h = ap number (same-some c d h)
number-found not_a_number d h = absurd (none-some d h)
number-found not_canonical d h = absurd (none-some d h)
number-found not_representable d h = absurd (none-some d h)

spelled-at : (w v : List ℕ) (d : Dyadic) → w ≡ v → IsCleanWord w → number_text w ≡ number d → (number_text v ≡ number d) × (0 < length v) × IsTrue (all_bytes is_word_byte v)
spelled-at w v d e c h = (ap number_text (sym e) ∙ h, subst (λ u. 0 < length u) e c.some, subst (λ u. IsTrue (all_bytes is_word_byte u)) e c.clean)

-- a word that is read as a number of the grid is that one's spelling
pub number_back : (w : List ℕ) (d : Dyadic) → IsCleanWord w → dyadic_of w ≡ Some d → (number_spelling d ≡ w) × IsSpelledNumber d
number_back w d c h =
    let read = number-found (number_text w) d h in
    let e = only_spellings w d read in
    (sym e, spelled-at w (number_spelling d) d e c read)

-- ---- lists

pub counts_back : (ws : List (List ℕ)) (ns : List ℕ) → counts_of ws ≡ Some ns → (map decimal ns ≡ ws) × AllByRecursion IsCount ns
counts_back [] ns h = subst (λ ms. (map decimal ms ≡ []) × AllByRecursion IsCount ms) (same-some [] ns h) (refl, tt)
counts_back (w ∷ ws) ns h = by (count_of w) (counts_of ws) (count_back w) (counts_back ws) h where
  by : (o : Option ℕ) (q : Option (List ℕ)) → ((n : ℕ) → o ≡ Some n → (decimal n ≡ w) × IsCount n)
      → ((ms : List ℕ) → q ≡ Some ms → (map decimal ms ≡ ws) × AllByRecursion IsCount ms) → and_count o q ≡ Some ns → (map decimal ns ≡ w ∷ ws) × AllByRecursion IsCount ns
  by (Some n) (Some ms) f g e = let a = f n refl in let b = g ms refl in
      subst (λ ls. (map decimal ls ≡ w ∷ ws) × AllByRecursion IsCount ls) (same-some (n ∷ ms) ns e)
      (ap₂ (λ (u : List ℕ) (us : List (List ℕ)). u ∷ us) a.0 b.0, (a.1, b.1))
  by (Some n) None f g e = absurd (none-some ns e)
  by None q f g e = absurd (none-some ns e)

twice-not : (t : Bool) → IsTrue (not (not t)) → IsTrue t
twice-not true h = refl
twice-not false h = h

-- what is read as pairs are these
abbrev ArePairs : List (List ℕ) → Multipliers → Type 0
ArePairs ws ps = (pair_words ps ≡ ws) × AllByRecursion IsSpelledPair ps

pub pairs_back : (ws : List (List ℕ)) (ps : Multipliers) → AreCleanWords ws → IsTrue (are_paired ws) → pairs_of ws ≡ Some ps → ArePairs ws ps
pairs_back [] ps c t h = subst (ArePairs []) (same-some [] ps h) (refl, tt)
pairs_back (w ∷ []) ps c t h = absurd (true≢false (sym t))
pairs_back (v ∷ w ∷ ws) ps c t h = by (count_of v) (dyadic_of w) (pairs_of ws) (count_back v) (λ d. number_back w d c.1.0) (λ qs. pairs_back ws qs c.1.1 (twice-not (are_paired ws) t)) h where
  by : (o : Option ℕ) (q : Option Dyadic) (r : Option Multipliers) → ((n : ℕ) → o ≡ Some n → (decimal n ≡ v) × IsCount n)
      → ((d : Dyadic) → q ≡ Some d → (number_spelling d ≡ w) × IsSpelledNumber d) → ((qs : Multipliers) → r ≡ Some qs → ArePairs ws qs)
      → and_pair o q r ≡ Some ps → ArePairs (v ∷ w ∷ ws) ps
  by (Some n) (Some d) (Some qs) f g k e = let x = f n refl in let y = g d refl in let z = k qs refl in
      subst (ArePairs (v ∷ w ∷ ws)) (same-some ((n, d) ∷ qs) ps e)
      (ap₂ (λ (u : List ℕ) (us : List (List ℕ)). u ∷ us) x.0 (ap₂ (λ (u : List ℕ) (us : List (List ℕ)). u ∷ us) y.0 z.0), ((x.1, y.1), z.1))
  by (Some n) (Some d) None f g k e = absurd (none-some ps e)
  by (Some n) None r f g k e = absurd (none-some ps e)
  by None q r f g k e = absurd (none-some ps e)
