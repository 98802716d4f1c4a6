-- The first word of a line of a tree, and the number of its lemma.
use Rattle.std.proofs.Common.{◌≡◌, ◌<◌, ◌≤◌, ◌^◌, ℕ, suc, zero, ◌⊎◌, inl, inr, List, [], ◌∷◌, ◌++◌, true, false, not, ◌||◌, nat_eq, IsTrue, Option, Some, None, codes, cond, refl, ap, ap₂, sym, ◌∙◌, length, subst, append_assoc, arith}
use Rattle.std.specs.Prelude.{Bool, decimal, is_some}
use Rattle.std.specs.Str.{bytes_eq, all_ascii_digits}
use Rattle.std.specs.Str.Parse.{digits_value}
use Rattle.std.proofs.lemmas.Bool.Decides.{eqb_tells}
use Rattle.std.proofs.lemmas.Fmt.{digits_decimal}
use Rattle.std.proofs.lemmas.Str.Parse.{IsNumeralModel, tells_all_ascii_digits, numerals_by_value}
use Rattle.cover_line.specs.Words.{void_squares_word, RuleWord, empty_word, pull_word, unit_word, ban_word, void_word, push_word, void_no_word, false_word, by_word, cut_word, flip_word, case_word, either_word, open_word, stuck_word, combine_word, void_combine_word, narrowing_word, voiding_word, word_of, word_text}
use Rattle.cover_model.specs.Rules.{Line, ban, by, narrow_by, Narrowing, by_range, by_off_range, by_combination, end_by, void_by, by_squares, false_form, by_lemma, mark_by, unit_atom, ban_atom, branch_by, cut_axis, flip_axis, case_atom, either_group, stay_by, open_state, stuck_atom}
use Rattle.cert_read.specs.CertLine.{CertLine, version, margin, delta, bound, lower, goal, over, checks, cover, keep, point_word, tree_word, end_word, lemma, real_interval, real_value, bool_value, yes_list, no_list, rule_line, crossing}
use Rattle.cert_read.specs.LineText.{IsSpelled, spaced, line_words, line_text}
use Rattle.cert_read.specs.Lines.{words_of}
use Rattle.cert_read.proofs.Pieces.{lacks}
use Rattle.cert_joined.specs.Covers.{line_by, numbered}
use Rattle.cert_join.specs.declared.line.Left.{Left}
use Rattle.cert_join.specs.declared.line.Left.TheVariants.{Nothing, One, Open}
use Rattle.cert_join.specs.declared.numbering.Kind.TheVariants.{Other}
use Rattle.cert_join.specs.Numbered.{word_kind}
use Rattle.cert_join.specs.Kinds.{kind_of_word, left_kind, rule_text, lemma_front, lemma_named, does_name, lemma_named_in, renumbered, IsRenumbered}
use Rattle.cert_join.proofs.Spaced.{both_pass, split_spaced}

-- ---- what a first word tells

-- whether it leads a line that names a lemma
abbrev pub names_by_word : RuleWord → Bool
names_by_word by_word = true
names_by_word ban_word = true
names_by_word w = false

abbrev pub is_naming_text : List ℕ → Bool
is_naming_text w = bytes_eq w (word_text by_word) || bytes_eq w (word_text ban_word)

abbrev pub decoded : List ℕ → RuleWord
decoded w = cond (bytes_eq w (word_text void_squares_word)) void_squares_word (cond (bytes_eq w (word_text void_combine_word)) void_combine_word (cond (bytes_eq w (word_text combine_word)) combine_word (cond (bytes_eq w (word_text stuck_word)) stuck_word (cond (bytes_eq w (word_text open_word)) open_word (cond (bytes_eq w (word_text either_word)) either_word (cond (bytes_eq w (word_text case_word)) case_word (cond (bytes_eq w (word_text flip_word)) flip_word (cond (bytes_eq w (word_text cut_word)) cut_word (cond (bytes_eq w (word_text by_word)) by_word (cond (bytes_eq w (word_text false_word)) false_word (cond (bytes_eq w (word_text void_no_word)) void_no_word (cond (bytes_eq w (word_text push_word)) push_word (cond (bytes_eq w (word_text void_word)) void_word (cond (bytes_eq w (word_text ban_word)) ban_word (cond (bytes_eq w (word_text unit_word)) unit_word (cond (bytes_eq w (word_text pull_word)) pull_word empty_word))))))))))))))))

-- The spelling of a rule's word tells which word it is.
pub record IsWordTold (w : RuleWord) : Type 0 where
  pub one : IsTrue (lacks 32 (word_text w))
  pub which : decoded (word_text w) ≡ w
  pub names : is_naming_text (word_text w) ≡ names_by_word w
  -- no word of a lemma's or a certificate's own lines
  pub other : word_kind (word_text w) ≡ Other

pub word_told : (w : RuleWord) → IsWordTold w
word_told empty_word = record { one = refl; which = refl; names = refl; other = refl }
word_told pull_word = record { one = refl; which = refl; names = refl; other = refl }
word_told unit_word = record { one = refl; which = refl; names = refl; other = refl }
word_told ban_word = record { one = refl; which = refl; names = refl; other = refl }
word_told void_word = record { one = refl; which = refl; names = refl; other = refl }
word_told push_word = record { one = refl; which = refl; names = refl; other = refl }
word_told void_no_word = record { one = refl; which = refl; names = refl; other = refl }
word_told false_word = record { one = refl; which = refl; names = refl; other = refl }
word_told by_word = record { one = refl; which = refl; names = refl; other = refl }
word_told cut_word = record { one = refl; which = refl; names = refl; other = refl }
word_told flip_word = record { one = refl; which = refl; names = refl; other = refl }
word_told case_word = record { one = refl; which = refl; names = refl; other = refl }
word_told either_word = record { one = refl; which = refl; names = refl; other = refl }
word_told open_word = record { one = refl; which = refl; names = refl; other = refl }
word_told stuck_word = record { one = refl; which = refl; names = refl; other = refl }
word_told combine_word = record { one = refl; which = refl; names = refl; other = refl }
word_told void_combine_word = record { one = refl; which = refl; names = refl; other = refl }
word_told void_squares_word = record { one = refl; which = refl; names = refl; other = refl }

-- no two words have one spelling
pub same_word : (v w : RuleWord) → word_text v ≡ word_text w → v ≡ w
same_word v w e = sym (word_told v).which ∙ ap (λ (t : List ℕ). decoded t) e ∙ (word_told w).which

abbrev IsTold : Left → Bool → RuleWord → Type 0
IsTold k b w = (kind_of_word w ≡ k) × (names_by_word w ≡ b)

narrowing-told : (n : Narrowing) → IsTold One false (narrowing_word n)
narrowing-told (by_range j) = (refl, refl)
narrowing-told (by_off_range j) = (refl, refl)
narrowing-told (by_combination ms) = (refl, refl)

voiding-told : (n : Narrowing) → IsTold Nothing false (voiding_word n)
voiding-told (by_range j) = (refl, refl)
voiding-told (by_off_range j) = (refl, refl)
voiding-told (by_combination ms) = (refl, refl)

-- the first word of a line tells what the line leaves, and whether it names a lemma
line-told : (r : Line) → IsTold (left_kind r) (does_name (rule_line r)) (word_of r)
line-told (narrow_by n) = narrowing-told n
line-told (end_by (void_by n)) = voiding-told n
line-told (end_by (by_squares ms bs)) = (refl, refl)
line-told (end_by false_form) = (refl, refl)
line-told (end_by (by_lemma i)) = (refl, refl)
line-told (mark_by (unit_atom j)) = (refl, refl)
line-told (mark_by (ban_atom j i)) = (refl, refl)
line-told (branch_by (cut_axis axis c)) = (refl, refl)
line-told (branch_by (flip_axis axis)) = (refl, refl)
line-told (branch_by (case_atom j)) = (refl, refl)
line-told (branch_by (either_group js ks)) = (refl, refl)
line-told (stay_by open_state) = (refl, refl)
line-told (stay_by (stuck_atom j)) = (refl, refl)

pub word_leaves : (r : Line) → kind_of_word (word_of r) ≡ left_kind r
word_leaves r = (line-told r).0

open-text : (r : Line) → left_kind r ≡ Open → rule_text r ≡ word_text open_word
open-text (narrow_by n) e = absurd (cc)
open-text (end_by k) e = absurd (cc)
open-text (mark_by m) e = absurd (cc)
open-text (branch_by b) e = absurd (cc)
open-text (stay_by open_state) e = refl
open-text (stay_by (stuck_atom j)) e = absurd (cc)

-- a line that leaves its state open is that word alone
pub open_alone : (r : Line) → open_word ≡ word_of r → rule_text r ≡ word_text open_word
open_alone r e = open-text r (sym (word_leaves r) ∙ ap kind_of_word (sym e))

-- ---- the first word

-- the first word of a line, and the others
abbrev pub first_of : CertLine → List ℕ
first_of (version n) = codes "dpoly"
first_of (margin m) = codes "margin"
first_of (delta d) = codes "delta"
first_of (bound b) = codes "bound"
first_of (lower d) = codes "lower"
first_of (goal n) = codes "goal"
first_of (checks n) = codes "checks"
first_of (cover k) = codes "cover"
first_of (keep q) = codes "keep"
first_of point_word = codes "point"
first_of tree_word = codes "tree"
first_of end_word = codes "end"
first_of (lemma i) = codes "lemma"
first_of (real_interval l h) = codes "real"
first_of (real_value v) = codes "real"
first_of (bool_value w) = codes "bool"
first_of (yes_list js) = codes "yes"
first_of (no_list js) = codes "no"
first_of (rule_line l) = word_text (word_of l)
first_of over = codes "over"
first_of (crossing i) = word_text empty_word

abbrev behind-first : List (List ℕ) → List (List ℕ)
behind-first [] = []
behind-first (w ∷ ws) = ws

abbrev others_of : CertLine → List (List ℕ)
others_of l = behind-first (line_words l)

-- the line is its first word and the others, and the first one tells whether the line names a lemma
parted : (l : CertLine) → (line_text l ≡ spaced (first_of l ∷ others_of l)) × IsTrue (lacks 32 (first_of l)) × (is_naming_text (first_of l) ≡ does_name l)
parted (version n) = (refl, refl, refl)
parted (margin m) = (refl, refl, refl)
parted (delta d) = (refl, refl, refl)
parted (bound b) = (refl, refl, refl)
parted (lower d) = (refl, refl, refl)
parted (goal n) = (refl, refl, refl)
parted (checks n) = (refl, refl, refl)
parted (cover k) = (refl, refl, refl)
parted (keep q) = (refl, refl, refl)
parted point_word = (refl, refl, refl)
parted tree_word = (refl, refl, refl)
parted end_word = (refl, refl, refl)
parted (lemma i) = (refl, refl, refl)
parted (real_interval l h) = (refl, refl, refl)
parted (real_value v) = (refl, refl, refl)
parted (bool_value w) = (refl, refl, refl)
parted (yes_list js) = (refl, refl, refl)
parted (no_list js) = (refl, refl, refl)
parted (rule_line r) = (refl, (word_told (word_of r)).one, (word_told (word_of r)).names ∙ (line-told r).1)
parted over = (refl, refl, refl)
parted (crossing i) = (refl, refl, refl)

pub first_of_line : (l : CertLine) (text w : List ℕ) (ws : List (List ℕ)) → words_of text ≡ w ∷ ws → text ≡ line_text l → w ≡ first_of l
first_of_line l text w ws e h =
    let f = split_spaced (first_of l) (others_of l) (parted l).1 in
    let g : w ∷ ws ≡ first_of l ∷ f.0 = sym e ∙ ap words_of (h ∙ (parted l).0) ∙ f.1 in cc

pub first_of_rule : (r : Line) (text w : List ℕ) (ws : List (List ℕ)) → words_of text ≡ w ∷ ws → text ≡ rule_text r → w ≡ word_text (word_of r)
first_of_rule r = first_of_line (rule_line r)

-- ---- whether it names a lemma

pub names_from : (l : CertLine) (text w : List ℕ) (ws : List (List ℕ)) → words_of text ≡ w ∷ ws → text ≡ line_text l
    → (t u : List ℕ) → t ≡ word_text by_word → u ≡ word_text ban_word → (bytes_eq w t || bytes_eq w u) ≡ does_name l
names_from l text w ws e h t u f g =
    ap (λ (x : List ℕ). bytes_eq x t || bytes_eq x u) (first_of_line l text w ws e h)
    ∙ ap₂ (λ (y z : List ℕ). bytes_eq (first_of l) y || bytes_eq (first_of l) z) f g ∙ (parted l).2

-- a line that names no lemma is the same with other numbers
same-without : (f : ℕ → ℕ) (r : Line) → lemma_named r ≡ None → line_by f r ≡ r
same-without f (narrow_by n) h = refl
same-without f (end_by (void_by n)) h = refl
same-without f (end_by (by_squares ms bs)) h = refl
same-without f (end_by false_form) h = refl
same-without f (end_by (by_lemma i)) h = absurd (cc)
same-without f (mark_by (unit_atom j)) h = refl
same-without f (mark_by (ban_atom j i)) h = absurd (cc)
same-without f (branch_by b) h = refl
same-without f (stay_by t) h = refl

-- a line of a tree, or one that names no lemma
rule-or-same : (f : ℕ → ℕ) (l : CertLine) → ((r : Line) × (l ≡ rule_line r)) ⊎ ((lemma_named_in l ≡ None) × (renumbered f l ≡ l))
rule-or-same f (version n) = inr (refl, refl)
rule-or-same f (margin m) = inr (refl, refl)
rule-or-same f (delta d) = inr (refl, refl)
rule-or-same f (bound b) = inr (refl, refl)
rule-or-same f (lower d) = inr (refl, refl)
rule-or-same f (goal n) = inr (refl, refl)
rule-or-same f (checks n) = inr (refl, refl)
rule-or-same f (cover k) = inr (refl, refl)
rule-or-same f (keep q) = inr (refl, refl)
rule-or-same f point_word = inr (refl, refl)
rule-or-same f tree_word = inr (refl, refl)
rule-or-same f end_word = inr (refl, refl)
rule-or-same f (lemma i) = inr (refl, refl)
rule-or-same f (real_interval l h) = inr (refl, refl)
rule-or-same f (real_value v) = inr (refl, refl)
rule-or-same f (bool_value w) = inr (refl, refl)
rule-or-same f (yes_list js) = inr (refl, refl)
rule-or-same f (no_list js) = inr (refl, refl)
rule-or-same f (rule_line r) = inl (r, refl)
rule-or-same f over = inr (refl, refl)
rule-or-same f (crossing i) = inr (refl, refl)

none-is : (o : Option ℕ) → is_some o ≡ false → o ≡ None
none-is None e = refl
none-is (Some i) e = absurd (cc)

some-is : (o : Option ℕ) → is_some o ≡ true → (i : ℕ) × (o ≡ Some i)
some-is None e = absurd (cc)
some-is (Some i) e = (i, refl)

pub none_named : (l : CertLine) → does_name l ≡ false → (f : ℕ → ℕ) → (lemma_named_in l ≡ None) × (renumbered f l ≡ l)
none_named l h f = elim (rule-or-same f l) [
  | inl (r, e) ↦
      let none = none-is (lemma_named_in l) h in
      (none, ap (renumbered f) e ∙ ap rule_line (same-without f r (sym (ap lemma_named_in e) ∙ none)) ∙ sym e)
  | inr q ↦ q
]

pub one_named : (l : CertLine) → does_name l ≡ true → (r : Line) × (i : ℕ) × (l ≡ rule_line r) × (lemma_named r ≡ Some i)
one_named l h = let some = some-is (lemma_named_in l) h in elim (rule-or-same (λ n. n) l) [
  | inl (r, e) ↦ (r, some.0, e, sym (ap lemma_named_in e) ∙ some.1)
  | inr q ↦ absurd (let e : ◌≡◌ {A = Option ℕ} None (Some some.0) = sym q.0 ∙ some.1 in cc)
]

-- ---- the number of its lemma

-- the two lines that name a lemma
data IsNaming : Line → ℕ → Type 0 where
  by_names : (i : ℕ) → IsNaming (by i) i
  ban_names : (j i : ℕ) → IsNaming (ban j i) i

is-naming : (r : Line) (i : ℕ) → lemma_named r ≡ Some i → IsNaming r i
is-naming (narrow_by n) i h = absurd (let e : ◌≡◌ {A = Option ℕ} None (Some i) = h in cc)
is-naming (end_by (void_by n)) i h = absurd (let e : ◌≡◌ {A = Option ℕ} None (Some i) = h in cc)
is-naming (end_by (by_squares ms bs)) i h = absurd (let e : ◌≡◌ {A = Option ℕ} None (Some i) = h in cc)
is-naming (end_by false_form) i h = absurd (let e : ◌≡◌ {A = Option ℕ} None (Some i) = h in cc)
is-naming (end_by (by_lemma k)) i h = let e : k ≡ i = cc in subst (IsNaming (by k)) e (by_names k)
is-naming (mark_by (unit_atom j)) i h = absurd (let e : ◌≡◌ {A = Option ℕ} None (Some i) = h in cc)
is-naming (mark_by (ban_atom j k)) i h = let e : k ≡ i = cc in subst (IsNaming (ban j k)) e (ban_names j k)
is-naming (branch_by b) i h = absurd (let e : ◌≡◌ {A = Option ℕ} None (Some i) = h in cc)
is-naming (stay_by t) i h = absurd (let e : ◌≡◌ {A = Option ℕ} None (Some i) = h in cc)

front-ends : {r : Line} {i : ℕ} → IsNaming r i → (front : List ℕ) × (lemma_front r ≡ front ++ (32 ∷ []))
front-ends (by_names i) = (codes "by", refl)
front-ends (ban_names j i) = (codes "ban " ++ decimal j, refl)

-- what stands before the number up to its space
pub front_ends : (r : Line) (i : ℕ) → lemma_named r ≡ Some i → (front : List ℕ) × (lemma_front r ≡ front ++ (32 ∷ []))
front_ends r i h = front-ends (is-naming r i h)

with-number : (f : ℕ → ℕ) {r : Line} {i : ℕ} → IsNaming r i → rule_text (line_by f r) ≡ lemma_front r ++ decimal (f i)
with-number f (by_names i) = refl
with-number f (ban_names j i) = ap (λ (xs : List ℕ). codes "ban " ++ xs) (sym (append_assoc (decimal j) (32 ∷ []) (decimal (f i))))

-- the line with another number
pub front_and_number : (r : Line) (i : ℕ) → lemma_named r ≡ Some i → (f : ℕ → ℕ) → rule_text (line_by f r) ≡ lemma_front r ++ decimal (f i)
front_and_number r i h f = with-number f (is-naming r i h)

same-line : {r : Line} {i : ℕ} → IsNaming r i → line_by (λ n. n) r ≡ r
same-line (by_names i) = refl
same-line (ban_names j i) = refl

pub its_number : (r : Line) (i : ℕ) → lemma_named r ≡ Some i → rule_text r ≡ lemma_front r ++ decimal i
its_number r i h = ap rule_text (sym (same-line (is-naming r i h))) ∙ front_and_number r i h (λ n. n)

number-counts : {r : Line} {i : ℕ} → IsNaming r i → IsSpelled (rule_line r) → i < 2 ^ 32
number-counts (by_names i) s = s.0
number-counts (ban_names j i) s = s.0.1

pub number_counts : (r : Line) (i : ℕ) → lemma_named r ≡ Some i → IsSpelled (rule_line r) → i < 2 ^ 32
number_counts r i h s = number-counts (is-naming r i h) s

-- ---- digits

abbrev AreDigits : List ℕ → Type 0
AreDigits w = all_ascii_digits w ≡ true

model : IsNumeralModel AreDigits (digits_value 10)
model = numerals_by_value AreDigits tells_all_ascii_digits

not-space : (b : ℕ) → 48 ≤ b → IsTrue (not (nat_eq b 32))
not-space b h = elim (eqb_tells b 32) [ inl e ↦ absurd (omega (arith, e.1, h)) | inr e ↦ ap not e.0 ]

digits-lack : (w : List ℕ) → AreDigits w → IsTrue (lacks 32 w)
digits-lack [] h = refl
digits-lack (b ∷ bs) h = let e = tells_all_ascii_digits.parts b bs h in both_pass (not (nat_eq b 32)) (lacks 32 bs) (not-space b e.0.0) (digits-lack bs e.1)

pub decimal_lacks : (n : ℕ) → n < 2 ^ 32 → IsTrue (lacks 32 (decimal n))
decimal_lacks n h = digits-lack (decimal n) (digits_decimal model n (omega (arith, h)))

-- ---- the line with the number that is given

-- lemmas that are not there have number 0
pub number_past : (numbers : List ℕ) (i : ℕ) → length numbers ≤ i → 0 ≡ numbered numbers i
number_past [] zero h = refl
number_past [] (suc i) h = refl
number_past (n ∷ numbers) zero h = absurd (omega (arith, h))
number_past (n ∷ numbers) (suc i) h = number_past numbers i (omega (arith, h))

pub with_number : (r : Line) (i : ℕ) (numbers old new front : List ℕ) (n : ℕ) → lemma_named r ≡ Some i → front ≡ lemma_front r → n ≡ numbered numbers i
    → new ≡ old ++ (front ++ decimal n) → IsRenumbered numbers (rule_line r) old new
with_number r i numbers old new front n h f at k =
    k ∙ ap₂ (λ (xs : List ℕ) (m : ℕ). old ++ (xs ++ decimal m)) f at ∙ ap (λ (xs : List ℕ). old ++ xs) (sym (front_and_number r i h (numbered numbers)))

-- a line that names none stays
pub as_it_is : (l : CertLine) (numbers old new text : List ℕ) → does_name l ≡ false → text ≡ line_text l → new ≡ old ++ text
    → IsRenumbered numbers l old new
as_it_is l numbers old new text h e k =
    let none = none_named l h (numbered numbers) in k ∙ ap (λ (xs : List ℕ). old ++ xs) (e ∙ ap line_text (sym none.1))
