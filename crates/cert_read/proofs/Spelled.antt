-- A line's spelling says that line.
use Rattle.std.proofs.Common.{◌≡◌, inl, inr, ℕ, zero, suc, ◌^◌, ◌<◌, ◌≤◌, List, [], ◌∷◌, map, Bool, true, false, not, ◌&&◌, cond, IsTrue, Option, Some, None, ◌+◌, ◌++◌, append_assoc, refl, ap, ap₂, sym, ◌∙◌, true≢false, nat_eq, nat_lt, length, get_or, codes, arith}
use Rattle.std.specs.Prelude.{decimal}
use Rattle.std.specs.List.{AllByRecursion}
use Rattle.std.specs.Str.{bytes_eq, all_ascii_digits}
use Rattle.std.specs.Str.Parse.{digits_value}
use Rattle.std.proofs.lemmas.Slice.Eq.{bytes_eq-Decides}
use Rattle.std.proofs.lemmas.Bool.Decides.{eqb_tells, leb_tells}
use Rattle.std.proofs.lemmas.Bool.{leb-true, le-leb}
use Rattle.std.proofs.lemmas.List.{length-append}
use Rattle.std.proofs.lemmas.Fmt.{digits_decimal, digits_value-decimal, first_decimal}
use Rattle.std.proofs.lemmas.Str.Parse.{IsNumeralModel, tells_all_ascii_digits, numerals_by_value}
use Rattle.dyadic.specs.Rounding.{Dyadic}
use Rattle.dyadic.specs.NumberText.{number_spelling}
use Rattle.dyadic.proofs.Equal.{both_true, both_pass}
use Rattle.cert_read.specs.Lines.{all_bytes, is_word, are_words, words_of, is_too_long, longest_line}
use Rattle.cover_line.specs.Line.{Multipliers, Factor, no_factor, bound_of, Block, void_squares, Line, pull, unit, void, push, void_no, combine, void_combine, ban, by, cut, flip, case, either, stuck, narrow_by, by_range, by_off_range, by_combination, end_by, void_by, by_squares, false_form, by_lemma, mark_by, unit_atom, ban_atom, branch_by, cut_axis, flip_axis, case_atom, either_group, stay_by, open_state, stuck_atom}
use Rattle.cover_line.specs.Words.{of_squares, of_groups, either_word, void_squares_word, RuleWord, empty_word, pull_word, unit_word, ban_word, void_word, push_word, void_no_word, false_word, by_word, cut_word, flip_word, case_word, open_word, stuck_word, combine_word, void_combine_word, word_of, word_text, Operands, of_nothing, of_atom, of_lemma, of_atom_lemma, of_axis, of_axis_place, of_multipliers, operands_of}
use Rattle.cert_read.specs.CertLine.{BoolWord, says_false, says_true, says_both, CertLine, version, margin, delta, bound, lower, goal, over, checks, cover, keep, point_word, tree_word, end_word, lemma, real_interval, real_value, bool_value, yes_list, no_list, rule_line, crossing, is_plain, if_below, if_plain, count_of, if_number, dyadic_of, counts_of, and_count, pairs_of, and_pair, are_paired, has_pairs, line, parsed, with_count, with_counts, with_dyadic, with_dyadics, with_both, with_list, taken, taken_if, take_count, take_dyadic, take_many, take_pair, take_monomial, take_rows, take_factor, take_block, take_blocks, bound_in, lower_in, paired, by_first, if_words, unless_long}
use Rattle.cert_read.specs.LineText.{spaced, line_words, line_text, rule_words, operand_words, pair_words, factor_words, monomial_words, row_words, block_words, bound_text, lower_text, bool_text, is_word_byte, IsCount, IsSpelledNumber, IsSpelledPair, AreSpelledPairs, IsSpelledFactor, IsSpelledMonomial, AreSpelledRows, IsSpelledBlock, AreSpelledOperands, IsSpelledRule, IsSpelledBound, IsSpelledLower, HasSpelling, IsSpelled}
use Rattle.cert_read.proofs.Paired.{paired_line}
use Rattle.cert_read.proofs.Pieces.{lacks, AllLack, words_of_spaced, spaced_lacks}
use Rattle.cert_read.proofs.Takings.{first_taken, pair_on, monomial_on, factor_on, bound_on, block_on, blocks_some, blocks_none, squares_on, groups_on}

-- ---- plain numbers

abbrev AreDigits : List ℕ → Type 0
AreDigits w = all_ascii_digits w ≡ true

model : IsNumeralModel AreDigits (digits_value 10)
model = numerals_by_value AreDigits tells_all_ascii_digits

small : (n : ℕ) → IsCount n → n < 2 ^ 64
small n h = omega (arith, h)

digits-of : (n : ℕ) → IsCount n → AreDigits (decimal n)
digits-of n h = digits_decimal model n (small n h)

not-nought : (b : ℕ) → 48 < b → not (nat_eq b 48) ≡ true
not-nought b h = elim (eqb_tells b 48) [ inl e ↦ absurd (omega (arith, e.1, h)) | inr e ↦ ap not e.0 ]

plain-by : (w : List ℕ) → AreDigits w → 48 < get_or w 0 0 → is_plain w ≡ true
plain-by [] d h = absurd (omega (arith, h))
plain-by (b ∷ []) d h = d
plain-by (b ∷ c ∷ bs) d h = both_pass (not (nat_eq b 48)) (all_ascii_digits (b ∷ c ∷ bs)) (not-nought b h) d

plain-decimal : (n : ℕ) → IsCount n → is_plain (decimal n) ≡ true
unfolding Rattle.std.specs.Fmt.digits
plain-decimal zero h = refl
plain-decimal (suc n) h = plain-by (decimal (suc n)) (digits-of (suc n) h) (first_decimal (suc n) (omega arith) (small (suc n) h))

below : (n k : ℕ) → n < k → if_below (nat_lt n k) n ≡ Some n
below n k h = ap (λ (t : Bool). if_below t n) (le-leb (suc n) k h)

-- a plain number's digits give it back
pub spelled_count : (n : ℕ) → IsCount n → count_of (decimal n) ≡ Some n
spelled_count n h = ap (λ (t : Bool). if_plain t (decimal n)) (plain-decimal n h)
    ∙ ap (λ (m : ℕ). if_below (nat_lt m (2 ^ 32)) m) (digits_value-decimal model n (small n h)) ∙ below n (2 ^ 32) h

pub spelled_counts : (js : List ℕ) → AllByRecursion IsCount js → counts_of (map decimal js) ≡ Some js
spelled_counts [] h = refl
spelled_counts (j ∷ js) h = ap₂ (λ (o : Option ℕ) (os : Option (List ℕ)). and_count o os) (spelled_count j h.0) (spelled_counts js h.1)

spelled-number : (d : Dyadic) → IsSpelledNumber d → dyadic_of (number_spelling d) ≡ Some d
spelled-number d h = ap if_number h.0

-- ---- what the words say

-- the first of some digits is one, and the rest are digits
first-digit : (b : ℕ) (bs : List ℕ) → AreDigits (b ∷ bs) → (48 ≤ b) × (b ≤ 57) × AreDigits bs
first-digit b bs h = let e = tells_all_ascii_digits.parts b bs h in (e.0.0, e.0.1, e.1)

differs : (b c : ℕ) → b < c → nat_eq b c ≡ false
differs b c h = elim (eqb_tells b c) [ inl e ↦ absurd (omega (arith, e.1, h)) | inr e ↦ e.0 ]

differs-above : (b c : ℕ) → c < b → nat_eq b c ≡ false
differs-above b c h = elim (eqb_tells b c) [ inl e ↦ absurd (omega (arith, e.1, h)) | inr e ↦ e.0 ]

no-word : (w : List ℕ) → AreDigits w → bytes_eq w (codes "none") ≡ false
no-word [] h = refl
no-word (b ∷ bs) h = let e = first-digit b bs h in ap (λ (t : Bool). t && bytes_eq bs (codes "one")) (differs b 110 (omega (arith, e.1)))

-- digits stand in a word
digit-byte : (b : ℕ) → 48 ≤ b → b ≤ 57 → IsTrue (is_word_byte b)
digit-byte b h k = both_pass (nat_lt b 128 && not (nat_eq b 32)) (not (nat_eq b 10))
    (both_pass (nat_lt b 128) (not (nat_eq b 32)) (le-leb (suc b) 128 (omega (arith, k))) (ap not (differs-above b 32 (omega (arith, h)))))
    (ap not (differs-above b 10 (omega (arith, h))))

digits-stand : (w : List ℕ) → AreDigits w → IsTrue (all_bytes is_word_byte w)
digits-stand [] h = refl
digits-stand (b ∷ bs) h = let e = first-digit b bs h in both_pass (is_word_byte b) (all_bytes is_word_byte bs) (digit-byte b e.0 e.1) (digits-stand bs e.2)

-- a word: some bytes, all of which may stand in one
pub record IsCleanWord (w : List ℕ) : Type 0 where
  pub some : 0 < length w
  pub clean : IsTrue (all_bytes is_word_byte w)

abbrev pub AreCleanWords : List (List ℕ) → Type 0
AreCleanWords [] = Unit {0}
AreCleanWords (w ∷ ws) = IsCleanWord w × AreCleanWords ws

plain-some : (w : List ℕ) → is_plain w ≡ true → 0 < length w
plain-some [] h = absurd (true≢false (sym h))
plain-some (b ∷ bs) h = omega arith

decimal-clean : (n : ℕ) → IsCount n → IsCleanWord (decimal n)
decimal-clean n h = record { some = plain-some (decimal n) (plain-decimal n h); clean = digits-stand (decimal n) (digits-of n h) }

decimals-clean : (js : List ℕ) → AllByRecursion IsCount js → AreCleanWords (map decimal js)
decimals-clean [] h = tt
decimals-clean (j ∷ js) h = (decimal-clean j h.0, decimals-clean js h.1)

number-clean : (d : Dyadic) → IsSpelledNumber d → IsCleanWord (number_spelling d)
number-clean d h = record { some = h.1; clean = h.2 }

pairs-clean : (ps : List (ℕ × Dyadic)) → AllByRecursion IsSpelledPair ps → AreCleanWords (pair_words ps)
pairs-clean [] h = tt
pairs-clean ((j, l) ∷ ps) h = (decimal-clean j h.0.0, (number-clean l h.0.1, pairs-clean ps h.1))

-- ---- the words of squares

clean-both : (vs ws : List (List ℕ)) → AreCleanWords vs → AreCleanWords ws → AreCleanWords (vs ++ ws)
clean-both [] ws h k = k
clean-both (v ∷ vs) ws h k = (h.0, clean-both vs ws h.1 k)

numbers-clean : (r : List Dyadic) → AllByRecursion IsSpelledNumber r → AreCleanWords (map number_spelling r)
numbers-clean [] h = tt
numbers-clean (d ∷ r) h = (number-clean d h.0, numbers-clean r h.1)

factor-clean : (f : Factor) → IsSpelledFactor f → AreCleanWords (factor_words f)
factor-clean no_factor h = (decimal-clean 0 (omega arith), tt)
factor-clean (bound_of i) h = (decimal-clean 1 (omega arith), (decimal-clean i h, tt))

monomials-clean : (ms : List (List ℕ)) → AllByRecursion IsSpelledMonomial ms → AreCleanWords (monomial_words ms)
monomials-clean [] h = tt
monomials-clean (m ∷ ms) h = (decimal-clean (length m) h.0.0, clean-both (map decimal m) (monomial_words ms) (decimals-clean m h.0.1) (monomials-clean ms h.1))

rows-clean : (n : ℕ) (rs : List (List Dyadic)) → AreSpelledRows n rs → AreCleanWords (row_words rs)
rows-clean zero [] h = tt
rows-clean zero (r ∷ rs) h = absurd h
rows-clean (suc n) [] h = absurd h
rows-clean (suc n) (r ∷ rs) h = clean-both (map number_spelling r) (row_words rs) (numbers-clean r h.1) (rows-clean n rs h.2)

blocks-clean : (bs : List Block) → AllByRecursion IsSpelledBlock bs → AreCleanWords (block_words bs)
blocks-clean [] h = tt
blocks-clean (b ∷ bs) h =
    let rows = clean-both (row_words b.rows) (block_words bs) (rows-clean (length b.monomials) b.rows h.0.rows) (blocks-clean bs h.1) in
    let monomials = clean-both (monomial_words b.monomials) (row_words b.rows ++ block_words bs) (monomials-clean b.monomials h.0.monomials) rows in
    clean-both (factor_words b.factor) (decimal (length b.monomials) ∷ (monomial_words b.monomials ++ (row_words b.rows ++ block_words bs)))
    (factor-clean b.factor h.0.factor) (decimal-clean (length b.monomials) h.0.count, monomials)

-- of a word that stands in the text
literal : (w : List ℕ) → IsTrue (nat_lt 0 (length w)) → IsTrue (all_bytes is_word_byte w) → IsCleanWord w
literal w h k = record { some = leb-true 1 (length w) h; clean = k }

bound-clean : (b : Option ℕ) → IsSpelledBound b → IsCleanWord (bound_text b)
bound-clean None h = literal (codes "none") refl refl
bound-clean (Some n) h = decimal-clean n h

lower-clean : (b : Option Dyadic) → IsSpelledLower b → IsCleanWord (lower_text b)
lower-clean None h = literal (codes "none") refl refl
lower-clean (Some d) h = number-clean d h

bool-clean : (w : BoolWord) → IsCleanWord (bool_text w)
bool-clean says_false = literal (codes "false") refl refl
bool-clean says_true = literal (codes "true") refl refl
bool-clean says_both = literal (codes "both") refl refl

word-clean : (w : RuleWord) → IsCleanWord (word_text w)
word-clean empty_word = literal (word_text empty_word) refl refl
word-clean pull_word = literal (word_text pull_word) refl refl
word-clean unit_word = literal (word_text unit_word) refl refl
word-clean ban_word = literal (word_text ban_word) refl refl
word-clean void_word = literal (word_text void_word) refl refl
word-clean push_word = literal (word_text push_word) refl refl
word-clean void_no_word = literal (word_text void_no_word) refl refl
word-clean false_word = literal (word_text false_word) refl refl
word-clean by_word = literal (word_text by_word) refl refl
word-clean cut_word = literal (word_text cut_word) refl refl
word-clean flip_word = literal (word_text flip_word) refl refl
word-clean case_word = literal (word_text case_word) refl refl
word-clean open_word = literal (word_text open_word) refl refl
word-clean stuck_word = literal (word_text stuck_word) refl refl
word-clean combine_word = literal (word_text combine_word) refl refl
word-clean void_combine_word = literal (word_text void_combine_word) refl refl
word-clean void_squares_word = literal (word_text void_squares_word) refl refl
word-clean either_word = literal (word_text either_word) refl refl

operands-clean : (o : Operands) → AreSpelledOperands o → AreCleanWords (operand_words o)
operands-clean of_nothing h = tt
operands-clean (of_atom j) h = (decimal-clean j h, tt)
operands-clean (of_lemma i) h = (decimal-clean i h, tt)
operands-clean (of_atom_lemma j i) h = (decimal-clean j h.0, (decimal-clean i h.1, tt))
operands-clean (of_axis axis) h = (decimal-clean axis h, tt)
operands-clean (of_axis_place axis c) h = (decimal-clean axis h.0, (number-clean c h.1, tt))
operands-clean (of_multipliers ps) h = pairs-clean ps h.1
operands-clean (of_groups js ks) h = (decimal-clean (length js) h.0, clean-both (map decimal js) (map decimal ks) (decimals-clean js h.1) (decimals-clean ks h.2))
operands-clean (of_squares ms bs) h = (decimal-clean (length ms) h.0, clean-both (pair_words ms) (block_words bs) (pairs-clean ms h.1) (blocks-clean bs h.2))

rule-clean : (l : Line) → IsSpelledRule l → AreCleanWords (rule_words l)
rule-clean l h = (word-clean (word_of l), operands-clean (operands_of l) h)

line-clean : (l : CertLine) → HasSpelling l → AreCleanWords (line_words l)
line-clean (version n) h = (literal (codes "dpoly") refl refl, (decimal-clean n h, tt))
line-clean (margin m) h = (literal (codes "margin") refl refl, (decimal-clean m h, tt))
line-clean (delta d) h = (literal (codes "delta") refl refl, (decimal-clean d h, tt))
line-clean (bound b) h = (literal (codes "bound") refl refl, (bound-clean b h, tt))
line-clean (lower d) h = (literal (codes "lower") refl refl, (lower-clean d h, tt))
line-clean (goal k) h = (literal (codes "goal") refl refl, (decimal-clean k h, tt))
line-clean (checks c) h = (literal (codes "checks") refl refl, (decimal-clean c h, tt))
line-clean (cover k) h = (literal (codes "cover") refl refl, (decimal-clean k h, tt))
line-clean (keep q) h = (literal (codes "keep") refl refl, (decimal-clean q h, tt))
line-clean point_word h = (literal (codes "point") refl refl, tt)
line-clean tree_word h = (literal (codes "tree") refl refl, tt)
line-clean end_word h = (literal (codes "end") refl refl, tt)
line-clean (lemma i) h = (literal (codes "lemma") refl refl, (decimal-clean i h, tt))
line-clean (real_interval l u) h = (literal (codes "real") refl refl, (number-clean l h.0, (number-clean u h.1, tt)))
line-clean (real_value v) h = (literal (codes "real") refl refl, (number-clean v h, tt))
line-clean (bool_value w) h = (literal (codes "bool") refl refl, (bool-clean w, tt))
line-clean (yes_list js) h = (literal (codes "yes") refl refl, decimals-clean js h)
line-clean (no_list js) h = (literal (codes "no") refl refl, decimals-clean js h)
line-clean (rule_line l) h = rule-clean l h
line-clean over h = (literal (codes "over") refl refl, tt)
line-clean (crossing i) h = (word-clean empty_word, (decimal-clean i h, tt))

-- ---- the forms, by their words

bound-says : (b : Option ℕ) → IsSpelledBound b → bound_in (bound_text b ∷ []) ≡ line (bound b)
bound-says None h = refl
bound-says (Some n) h = ap (λ (t : Bool). cond t (line (bound None)) (with_count (λ m. bound (Some m)) (count_of (decimal n)))) (no-word (decimal n) (digits-of n h))
    ∙ ap (λ (o : Option ℕ). with_count (λ m. bound (Some m)) o) (spelled_count n h)

-- a number is spelled otherwise than `none`
no-number : (w : List ℕ) (d : Dyadic) → dyadic_of w ≡ Some d → bytes_eq w (codes "none") ≡ false
no-number w d h = by_test (bytes_eq w (codes "none")) refl where
  by_test : (t : Bool) → bytes_eq w (codes "none") ≡ t → t ≡ false
  by_test true e = let f : ◌≡◌ {A = Option Dyadic} None (Some d) = ap dyadic_of (sym ((bytes_eq-Decides w (codes "none")).0 e)) ∙ h in cc
  by_test false e = refl

lower-says : (b : Option Dyadic) → IsSpelledLower b → lower_in (lower_text b ∷ []) ≡ line (lower b)
lower-says None h = refl
lower-says (Some d) h = ap (λ (t : Bool). cond t (line (lower None)) (with_dyadic (λ e. lower (Some e)) (dyadic_of (number_spelling d)))) (no-number (number_spelling d) d (spelled-number d h))
    ∙ ap (λ (o : Option Dyadic). with_dyadic (λ e. lower (Some e)) o) (spelled-number d h)

bool-says : (w : BoolWord) → by_first (codes "bool" ∷ bool_text w ∷ []) ≡ line (bool_value w)
bool-says says_false = refl
bool-says says_true = refl
bool-says says_both = refl

one-says : (f : ℕ → CertLine) (n : ℕ) → IsCount n → with_count f (count_of (decimal n)) ≡ line (f n)
one-says f n h = ap (λ (o : Option ℕ). with_count f o) (spelled_count n h)

spelled_pairs : (ps : List (ℕ × Dyadic)) → AllByRecursion IsSpelledPair ps → pairs_of (pair_words ps) ≡ Some ps
spelled_pairs [] h = refl
spelled_pairs ((j, l) ∷ ps) h =
    ap₂ (λ (o : Option ℕ) (q : Option Dyadic). and_pair o q (pairs_of (pair_words ps))) (spelled_count j h.0.0) (spelled-number l h.0.1)
    ∙ ap (λ (os : Option (List (ℕ × Dyadic))). and_pair (Some j) (Some l) os) (spelled_pairs ps h.1)

words-paired : (ps : List (ℕ × Dyadic)) → IsTrue (are_paired (pair_words ps))
words-paired [] = refl
words-paired ((j, l) ∷ ps) = ap (λ (t : Bool). not (not t)) (words-paired ps)

spelled-some : (ps : List (ℕ × Dyadic)) → 0 < length ps → IsTrue (has_pairs (pair_words ps))
spelled-some [] h = absurd (omega (arith, h))
spelled-some ((j, l) ∷ ps) h = words-paired ((j, l) ∷ ps)

pairs-say : (f : Multipliers → CertLine) (ps : Multipliers) → AreSpelledPairs ps → paired f (pair_words ps) ≡ line (f ps)
pairs-say f ps h = paired_line f (pair_words ps) (Some ps) (spelled-some ps h.0) (spelled_pairs ps h.1)

-- ---- what is read from the left

take-decimal : (n : ℕ) → IsCount n → (ws : List (List ℕ)) → take_count (decimal n ∷ ws) ≡ taken n ws
take-decimal n h ws = ap (λ (o : Option ℕ). taken_if o ws) (spelled_count n h)

take-number : (d : Dyadic) → IsSpelledNumber d → (ws : List (List ℕ)) → take_dyadic (number_spelling d ∷ ws) ≡ taken d ws
take-number d h ws = ap (λ (o : Option Dyadic). taken_if o ws) (spelled-number d h)

take-decimals : (js : List ℕ) → AllByRecursion IsCount js → (ws : List (List ℕ)) → take_many take_count (length js) (map decimal js ++ ws) ≡ taken js ws
take-decimals [] h ws = refl
take-decimals (j ∷ js) h ws =
    let us = map decimal js ++ ws in
    first_taken (take_count (decimal j ∷ us)) (take_many take_count (length js)) j us js ws (take-decimal j h.0 us) (take-decimals js h.1 ws)

take-numbers : (r : List Dyadic) → AllByRecursion IsSpelledNumber r → (ws : List (List ℕ)) → take_many take_dyadic (length r) (map number_spelling r ++ ws) ≡ taken r ws
take-numbers [] h ws = refl
take-numbers (d ∷ r) h ws =
    let us = map number_spelling r ++ ws in
    first_taken (take_dyadic (number_spelling d ∷ us)) (take_many take_dyadic (length r)) d us r ws (take-number d h.0 us) (take-numbers r h.1 ws)

take-pairs : (ps : Multipliers) → AllByRecursion IsSpelledPair ps → (ws : List (List ℕ)) → take_many take_pair (length ps) (pair_words ps ++ ws) ≡ taken ps ws
take-pairs [] h ws = refl
take-pairs ((j, l) ∷ ps) h ws =
    let us = pair_words ps ++ ws in
    let one = pair_on (decimal j ∷ number_spelling l ∷ us) (number_spelling l ∷ us) us j l (take-decimal j h.0.0 (number_spelling l ∷ us)) (take-number l h.0.1 us) in
    first_taken (take_pair (decimal j ∷ number_spelling l ∷ us)) (take_many take_pair (length ps)) (j, l) us ps ws one (take-pairs ps h.1 ws)

take-monomials : (ms : List (List ℕ)) → AllByRecursion IsSpelledMonomial ms → (ws : List (List ℕ)) → take_many take_monomial (length ms) (monomial_words ms ++ ws) ≡ taken ms ws
take-monomials [] h ws = refl
take-monomials (m ∷ ms) h ws =
    let us = monomial_words ms ++ ws in
    let vs = map decimal m ++ us in
    let one : take_monomial (decimal (length m) ∷ vs) ≡ taken m us = monomial_on (decimal (length m) ∷ vs) vs (length m) (take-decimal (length m) h.0.0 vs) ∙ take-decimals m h.0.1 us in
    ap (λ (xs : List (List ℕ)). take_many take_monomial (suc (length ms)) (decimal (length m) ∷ xs)) (append_assoc (map decimal m) (monomial_words ms) ws)
    ∙ first_taken (take_monomial (decimal (length m) ∷ vs)) (take_many take_monomial (length ms)) m us ms ws one (take-monomials ms h.1 ws)

take-rows : (n : ℕ) (rs : List (List Dyadic)) → AreSpelledRows n rs → (ws : List (List ℕ)) → take_rows n (row_words rs ++ ws) ≡ taken rs ws
take-rows zero [] h ws = refl
take-rows zero (r ∷ rs) h ws = absurd h
take-rows (suc n) [] h ws = absurd h
take-rows (suc n) (r ∷ rs) h ws =
    let us = row_words rs ++ ws in
    let vs = map number_spelling r ++ us in
    let one : take_many take_dyadic (suc n) vs ≡ taken r us = ap (λ (k : ℕ). take_many take_dyadic k vs) (sym h.0) ∙ take-numbers r h.1 us in
    ap (take_rows (suc n)) (append_assoc (map number_spelling r) (row_words rs) ws)
    ∙ first_taken (take_many take_dyadic (suc n) vs) (take_rows n) r us rs ws one (take-rows n rs h.2 ws)

take-the-factor : (f : Factor) → IsSpelledFactor f → (ws : List (List ℕ)) → take_factor (factor_words f ++ ws) ≡ taken f ws
take-the-factor no_factor h ws = factor_on (decimal 0 ∷ ws) ws 0 (take-decimal 0 (omega arith) ws)
take-the-factor (bound_of i) h ws =
    bound_on (decimal 1 ∷ decimal i ∷ ws) (decimal i ∷ ws) ws 1 i (take-decimal 1 (omega arith) (decimal i ∷ ws)) refl (take-decimal i h ws)

-- the words of a block with others behind them
abbrev block-then : Block → List (List ℕ) → List (List ℕ)
block-then b ws = factor_words b.factor ++ (decimal (length b.monomials) ∷ (monomial_words b.monomials ++ (row_words b.rows ++ ws)))

take-the-block : (b : Block) → IsSpelledBlock b → (ws : List (List ℕ)) → take_block (block-then b ws) ≡ taken b ws
take-the-block b h ws =
    let rows = row_words b.rows ++ ws in
    let monomials = monomial_words b.monomials ++ rows in
    block_on (block-then b ws) (decimal (length b.monomials) ∷ monomials) monomials rows ws b.factor (length b.monomials) b.monomials b.rows
    (take-the-factor b.factor h.factor (decimal (length b.monomials) ∷ monomials))
    (take-decimal (length b.monomials) h.count monomials)
    (take-monomials b.monomials h.monomials rows)
    (take-rows (length b.monomials) b.rows h.rows ws)

factor-some : (f : Factor) (ws : List (List ℕ)) → 0 < length (factor_words f ++ ws)
factor-some no_factor ws = omega arith
factor-some (bound_of i) ws = omega arith

-- a block has a word of its own
block-more : (b : Block) (ws : List (List ℕ)) → length ws < length (block-then b ws)
block-more b ws =
    let rows = row_words b.rows ++ ws in
    let monomials = monomial_words b.monomials ++ rows in
    let behind = decimal (length b.monomials) ∷ monomials in
    let all : length (block-then b ws) ≡ length (factor_words b.factor) + length behind = length-append (factor_words b.factor) behind in
    let first : length behind ≡ suc (length monomials) = refl in
    let second : length monomials ≡ length (monomial_words b.monomials) + length rows = length-append (monomial_words b.monomials) rows in
    let third : length rows ≡ length (row_words b.rows) + length ws = length-append (row_words b.rows) ws in
    omega (arith, all, first, second, third)

take-the-blocks : (n : ℕ) (bs : List Block) → AllByRecursion IsSpelledBlock bs → length (block_words bs) ≤ n → take_blocks n (block_words bs) ≡ taken bs []
take-the-blocks n [] h l = blocks_none n
take-the-blocks zero (b ∷ bs) h l = absurd (let m = block-more b (block_words bs) in omega (arith, l, m))
take-the-blocks (suc n) (b ∷ bs) h l =
    let m = block-more b (block_words bs) in
    blocks_some n (block-then b (block_words bs)) (factor-some b.factor _)
    ∙ first_taken (take_block (block-then b (block_words bs))) (take_blocks n) b (block_words bs) bs [] (take-the-block b h.0 (block_words bs)) (take-the-blocks n bs h.1 (omega (arith, l, m)))

rule-says : (l : Line) → IsSpelledRule l → by_first (rule_words l) ≡ line (rule_line l)
rule-says (narrow_by (by_range j)) h = one-says (λ n. rule_line (pull n)) j h
rule-says (mark_by (unit_atom j)) h = one-says (λ n. rule_line (unit n)) j h
rule-says (end_by (void_by (by_range j))) h = one-says (λ n. rule_line (void n)) j h
rule-says (narrow_by (by_off_range j)) h = one-says (λ n. rule_line (push n)) j h
rule-says (end_by (void_by (by_off_range j))) h = one-says (λ n. rule_line (void_no n)) j h
rule-says (branch_by (case_atom j)) h = one-says (λ n. rule_line (case n)) j h
rule-says (stay_by (stuck_atom j)) h = one-says (λ n. rule_line (stuck n)) j h
rule-says (end_by (by_lemma i)) h = one-says (λ n. rule_line (by n)) i h
rule-says (mark_by (ban_atom j i)) h = ap₂ (λ (o : Option ℕ) (q : Option ℕ). with_counts (λ m n. rule_line (ban m n)) o q) (spelled_count j h.0) (spelled_count i h.1)
rule-says (branch_by (cut_axis axis c)) h = ap₂ (λ (o : Option ℕ) (q : Option Dyadic). with_both (λ m d. rule_line (cut m d)) o q) (spelled_count axis h.0) (spelled-number c h.1)
rule-says (branch_by (flip_axis axis)) h = one-says (λ n. rule_line (flip n)) axis h
rule-says (narrow_by (by_combination ps)) h = pairs-say (λ ms. rule_line (combine ms)) ps h
rule-says (end_by (void_by (by_combination ps))) h = pairs-say (λ ms. rule_line (void_combine ms)) ps h
rule-says (end_by (by_squares ms bs)) h =
    let blocks = block_words bs in
    squares_on (operand_words (of_squares ms bs)) (pair_words ms ++ blocks) blocks [] (length ms) ms bs
    (take-decimal (length ms) h.0 (pair_words ms ++ blocks)) (take-pairs ms h.1 blocks) (take-the-blocks (length blocks) bs h.2 (omega arith)) (λ ps cs. rule_line (void_squares ps cs))
rule-says (branch_by (either_group js ks)) h =
    let behind = map decimal ks in
    groups_on (operand_words (of_groups js ks)) (map decimal js ++ behind) behind (length js) js ks
    (take-decimal (length js) h.0 (map decimal js ++ behind)) (take-decimals js h.1 behind) (spelled_counts ks h.2) (λ hs is. rule_line (either hs is))
rule-says (end_by false_form) h = refl
rule-says (stay_by open_state) h = refl

line-says : (l : CertLine) → HasSpelling l → by_first (line_words l) ≡ line l
line-says (version n) h = one-says version n h
line-says (margin m) h = one-says margin m h
line-says (delta d) h = one-says delta d h
line-says (bound b) h = bound-says b h
line-says (lower d) h = lower-says d h
line-says (goal k) h = one-says goal k h
line-says (checks c) h = one-says checks c h
line-says (cover k) h = one-says cover k h
line-says (keep q) h = one-says keep q h
line-says point_word h = refl
line-says tree_word h = refl
line-says end_word h = refl
line-says (lemma i) h = one-says lemma i h
line-says (real_interval l u) h = ap₂ (λ (o : Option Dyadic) (q : Option Dyadic). with_dyadics real_interval o q) (spelled-number l h.0) (spelled-number u h.1)
line-says (real_value v) h = ap (λ (o : Option Dyadic). with_dyadic real_value o) (spelled-number v h)
line-says (bool_value w) h = bool-says w
line-says (yes_list js) h = ap (λ (o : Option (List ℕ)). with_list yes_list o) (spelled_counts js h)
line-says (no_list js) h = ap (λ (o : Option (List ℕ)). with_list no_list o) (spelled_counts js h)
line-says (rule_line l) h = rule-says l h
line-says over h = refl
line-says (crossing i) h = one-says crossing i h

-- ---- the whole line

weaker : (f g : ℕ → Bool) → ((b : ℕ) → IsTrue (f b) → IsTrue (g b)) → (w : List ℕ) → IsTrue (all_bytes f w) → IsTrue (all_bytes g w)
weaker f g k [] h = refl
weaker f g k (b ∷ bs) h = let e = both_true (f b) (all_bytes f bs) h in both_pass (g b) (all_bytes g bs) (k b e.0) (weaker f g k bs e.1)

-- what is asked of a byte of a word, part by part
byte-parts : (b : ℕ) → IsTrue (is_word_byte b) → IsTrue (nat_lt b 128) × IsTrue (not (nat_eq b 32)) × IsTrue (not (nat_eq b 10))
byte-parts b h = let e = both_true (nat_lt b 128 && not (nat_eq b 32)) (not (nat_eq b 10)) h in let k = both_true (nat_lt b 128) (not (nat_eq b 32)) e.0 in (k.0, k.1, e.1)

clean-word : (w : List ℕ) → IsCleanWord w → IsTrue (is_word w)
clean-word [] h = absurd (omega (arith, h.some))
clean-word (b ∷ bs) h = weaker is_word_byte (λ c. nat_lt c 128) (λ c k. (byte-parts c k).0) (b ∷ bs) h.clean

clean-words : (ws : List (List ℕ)) → AreCleanWords ws → IsTrue (are_words ws)
clean-words [] h = refl
clean-words (w ∷ ws) h = both_pass (is_word w) (are_words ws) (clean-word w h.0) (clean-words ws h.1)

no-spaces : (ws : List (List ℕ)) → AreCleanWords ws → AllLack 32 ws
no-spaces [] h = tt
no-spaces (w ∷ ws) h = (weaker is_word_byte (λ c. not (nat_eq c 32)) (λ c k. (byte-parts c k).1) w h.0.clean, no-spaces ws h.1)

no-breaks : (ws : List (List ℕ)) → AreCleanWords ws → AllLack 10 ws
no-breaks [] h = tt
no-breaks (w ∷ ws) h = (weaker is_word_byte (λ c. not (nat_eq c 10)) (λ c k. (byte-parts c k).2) w h.0.clean, no-breaks ws h.1)

-- a line's spelling has no LF
pub line_lacks_break : (l : CertLine) → HasSpelling l → IsTrue (lacks 10 (line_text l))
line_lacks_break l h = spaced_lacks (line_words l) (no-breaks (line_words l) (line-clean l h))

not-long : (w : List ℕ) → length w ≤ longest_line → is_too_long w ≡ false
not-long w h = elim (leb_tells (suc longest_line) (length w)) [ inl e ↦ absurd (omega (arith, e.1, h)) | inr e ↦ e.0 ]

words-parted : (ws : List (List ℕ)) → 0 < length ws → AreCleanWords ws → words_of (spaced ws) ≡ ws
words-parted [] s h = absurd (omega (arith, s))
words-parted (w ∷ ws) s h = words_of_spaced w ws (no-spaces (w ∷ ws) h)

has-word : (l : CertLine) → 0 < length (line_words l)
has-word (rule_line l) = omega arith
has-word _ = omega arith

-- the spelling of a line says that line
pub spelled_line : (l : CertLine) → IsSpelled l → parsed (line_text l) ≡ line l
spelled_line l h =
    let c = line-clean l h.0 in
    let w : words_of (line_text l) ≡ line_words l = words-parted (line_words l) (has-word l) c in
    ap (λ (t : Bool). unless_long t (line_text l)) (not-long (line_text l) h.1)
    ∙ ap (λ (t : Bool). if_words t (line_text l)) (ap are_words w ∙ clean-words (line_words l) c)
    ∙ ap by_first w ∙ line-says l h.0
