-- Lines that can be spelled, and are appended.
use Rattle.std.proofs.Common.{◌≡◌, ℕ, suc, ◌+◌, ◌*◌, ◌≤◌, List, [], ◌∷◌, ◌++◌, map, Bool, true, false, cond, length, length-append, append_assoc, refl, ap, sym, ◌∙◌, arith}
use Rattle.std.specs.Prelude.{codes, decimal, Some}
use Rattle.std.specs.List.{AllByRecursion}
use Rattle.std.proofs.lemmas.Fmt.{length-decimal-le}
use Rattle.std.proofs.lemmas.List.{append-nil}
use Rattle.cover_model.specs.Rules.{Line}
use Rattle.poly_graph.specs.Marks.{Mark, is_yes, is_no, numbers_from}
use Rattle.dyadic.specs.Rounding.{Dyadic}
use Rattle.dyadic.specs.NumberText.{number_spelling}
use Rattle.cert_read.specs.CertLine.{CertLine, lower, real_interval, real_value, rule_line}
use Rattle.cert_read.specs.LineText.{spaced, line_text, IsCount, IsSpelledNumber, IsSpelledPair, HasSpelling, IsSpelled}
use Rattle.cert_read.specs.Lines.{longest_line}
use Rattle.cert_model.specs.Accepted.{certificate_text}
use Rattle.cert_model.specs.Written.{rule_lines}
use Rattle.cert_text.specs.declared.keyword.Plain.{Plain}
use Rattle.cert_text.specs.declared.keyword.Plain.TheVariants as plain
use Rattle.cert_text.specs.declared.keyword.Counted.{Counted}
use Rattle.cert_text.specs.declared.keyword.Counted.TheVariants as counted
use Rattle.cert_text.specs.Lines.{HasAppended, HasPairs, paired_off, plain_line, plain_text, counted_line, counted_word, is_marked, marks_word, marks_line, listed, most_atoms}

-- ---- texts of lines

pub text_append : (ls ms : List CertLine) → certificate_text (ls ++ ms) ≡ certificate_text ls ++ certificate_text ms
text_append [] ms = refl
text_append (l ∷ ls) ms = ap (λ (t : List ℕ). line_text l ++ (10 ∷ t)) (text_append ls ms) ∙ sym (append_assoc (line_text l) (10 ∷ certificate_text ls) (certificate_text ms))

all-append : (P : CertLine → Type 0) (xs ys : List CertLine) → AllByRecursion P xs → AllByRecursion P ys → AllByRecursion P (xs ++ ys)
all-append P [] ys h k = k
all-append P (x ∷ xs) ys h k = (h.0, all-append P xs ys h.1 k)

pub nothing_appended : (a : List ℕ) → HasAppended a [] a
nothing_appended a = record { written = sym (append-nil a); spelled = tt }

-- one part behind the other
pub both_appended : (a b c : List ℕ) (ls ms : List CertLine) → HasAppended a ls b → HasAppended b ms c → HasAppended a (ls ++ ms) c
both_appended a b c ls ms h k = record {
  written = k.written ∙ ap (λ (t : List ℕ). t ++ certificate_text ms) h.written ∙ append_assoc a (certificate_text ls) (certificate_text ms) ∙ ap (λ (t : List ℕ). a ++ t) (sym (text_append ls ms));
  spelled = all-append IsSpelled ls ms h.spelled k.spelled;
}

-- a line by its bytes
pub line_appended : (a b : List ℕ) (l : CertLine) → HasSpelling l → length (line_text l) ≤ longest_line → b ≡ a ++ (line_text l ++ (10 ∷ [])) → HasAppended a (l ∷ []) b
line_appended a b l h k e = record { written = e; spelled = ((h, k), tt) }

pub rules_append : (xs ys : List Line) → rule_lines (xs ++ ys) ≡ rule_lines xs ++ rule_lines ys
rules_append [] ys = refl
rules_append (x ∷ xs) ys = ap (λ (ls : List CertLine). rule_line x ∷ ls) (rules_append xs ys)

-- ---- lines without numbers

plain-text : (w : Plain) → line_text (plain_line w) ≡ plain_text w
plain-text plain.BoundNone = refl
plain-text plain.LowerNone = refl
plain-text plain.Point = refl
plain-text plain.Tree = refl
plain-text plain.End = refl
plain-text plain.BoolFalse = refl
plain-text plain.BoolTrue = refl
plain-text plain.BoolBoth = refl
plain-text plain.Over = refl

plain-spelled : (w : Plain) → HasSpelling (plain_line w)
plain-spelled plain.BoundNone = tt
plain-spelled plain.LowerNone = tt
plain-spelled plain.Point = tt
plain-spelled plain.Tree = tt
plain-spelled plain.End = tt
plain-spelled plain.BoolFalse = tt
plain-spelled plain.BoolTrue = tt
plain-spelled plain.BoolBoth = tt
plain-spelled plain.Over = tt

plain-short : (w : Plain) → length (plain_text w) ≤ 16
plain-short plain.BoundNone = omega arith
plain-short plain.LowerNone = omega arith
plain-short plain.Point = omega arith
plain-short plain.Tree = omega arith
plain-short plain.End = omega arith
plain-short plain.BoolFalse = omega arith
plain-short plain.BoolTrue = omega arith
plain-short plain.BoolBoth = omega arith
plain-short plain.Over = omega arith

pub plain_appended : (w : Plain) (a b c : List ℕ) → b ≡ a ++ plain_text w → c ≡ b ++ (10 ∷ []) → HasAppended a (plain_line w ∷ []) c
plain_appended w a b c e f = line_appended a c (plain_line w) (plain-spelled w) (omega (arith, plain-short w, ap length (plain-text w)))
    (f ∙ ap (λ (t : List ℕ). t ++ (10 ∷ [])) (e ∙ ap (λ (t : List ℕ). a ++ t) (sym (plain-text w))) ∙ append_assoc a (line_text (plain_line w)) (10 ∷ []))

-- ---- lines with one plain number

pub decimal_short : (n : ℕ) → IsCount n → length (decimal n) ≤ 10
decimal_short n h = length-decimal-le 10 n (omega arith) (omega (arith, h)) (omega (arith, h))

counted-text : (w : Counted) (n : ℕ) → line_text (counted_line w n) ≡ counted_word w ++ (32 ∷ decimal n)
counted-text counted.Version n = refl
counted-text counted.Margin n = refl
counted-text counted.Delta n = refl
counted-text counted.Bound n = refl
counted-text counted.Goal n = refl
counted-text counted.Checks n = refl
counted-text counted.Cover n = refl
counted-text counted.Keep n = refl
counted-text counted.Lemma n = refl
counted-text counted.Empty n = refl

counted-spelled : (w : Counted) (n : ℕ) → IsCount n → HasSpelling (counted_line w n)
counted-spelled counted.Version n h = h
counted-spelled counted.Margin n h = h
counted-spelled counted.Delta n h = h
counted-spelled counted.Bound n h = h
counted-spelled counted.Goal n h = h
counted-spelled counted.Checks n h = h
counted-spelled counted.Cover n h = h
counted-spelled counted.Keep n h = h
counted-spelled counted.Lemma n h = h
counted-spelled counted.Empty n h = h

counted-short : (w : Counted) → length (counted_word w) ≤ 16
counted-short counted.Version = omega arith
counted-short counted.Margin = omega arith
counted-short counted.Delta = omega arith
counted-short counted.Bound = omega arith
counted-short counted.Goal = omega arith
counted-short counted.Checks = omega arith
counted-short counted.Cover = omega arith
counted-short counted.Keep = omega arith
counted-short counted.Lemma = omega arith
counted-short counted.Empty = omega arith

pub counted_appended : (w : Counted) (n : ℕ) (a b c : List ℕ) → IsCount n → b ≡ a ++ (counted_word w ++ (32 ∷ decimal n)) → c ≡ b ++ (10 ∷ []) → HasAppended a (counted_line w n ∷ []) c
counted_appended w n a b c h e f = line_appended a c (counted_line w n) (counted-spelled w n h)
    (omega (arith, counted-short w, decimal_short n h, ap length (counted-text w n), length-append (counted_word w) (32 ∷ decimal n)))
    (f ∙ ap (λ (t : List ℕ). t ++ (10 ∷ [])) (e ∙ ap (λ (t : List ℕ). a ++ t) (sym (counted-text w n))) ∙ append_assoc a (line_text (counted_line w n)) (10 ∷ []))

-- ---- lines with numbers of the grid

three-parts : (a w x y : List ℕ) → (((a ++ w) ++ x) ++ (32 ∷ y)) ++ (10 ∷ []) ≡ a ++ ((w ++ (x ++ (32 ∷ y))) ++ (10 ∷ []))
three-parts a w x y = simp append_assoc

two-parts : (a w x : List ℕ) → ((a ++ w) ++ x) ++ (10 ∷ []) ≡ a ++ ((w ++ x) ++ (10 ∷ []))
two-parts a w x = simp append_assoc

-- a number's spelling, and that it is short
pub record IsShortNumber (d : Dyadic) : Type 0 where
  pub spelled : IsSpelledNumber d
  pub short : length (number_spelling d) ≤ 64

pub value_appended : (v : Dyadic) (a b c d : List ℕ) → IsShortNumber v → b ≡ a ++ codes "real " → c ≡ b ++ number_spelling v → d ≡ c ++ (10 ∷ []) → HasAppended a (real_value v ∷ []) d
value_appended v a b c d k e f g = line_appended a d (real_value v) k.spelled (omega (arith, k.short))
    (g ∙ ap (λ (t : List ℕ). t ++ (10 ∷ [])) (f ∙ ap (λ (t : List ℕ). t ++ number_spelling v) e) ∙ two-parts a (codes "real ") (number_spelling v))

pub lower_appended : (v : Dyadic) (a b c d : List ℕ) → IsShortNumber v → b ≡ a ++ codes "lower " → c ≡ b ++ number_spelling v → d ≡ c ++ (10 ∷ []) → HasAppended a (lower (Some v) ∷ []) d
lower_appended v a b c d k e f g = line_appended a d (lower (Some v)) k.spelled (omega (arith, k.short))
    (g ∙ ap (λ (t : List ℕ). t ++ (10 ∷ [])) (f ∙ ap (λ (t : List ℕ). t ++ number_spelling v) e) ∙ two-parts a (codes "lower ") (number_spelling v))

pub interval_appended : (l h : Dyadic) (a b c d e f : List ℕ) → IsShortNumber l → IsShortNumber h → b ≡ a ++ codes "real " → c ≡ b ++ number_spelling l → d ≡ c ++ (32 ∷ []) → e ≡ d ++ number_spelling h → f ≡ e ++ (10 ∷ []) →
    HasAppended a (real_interval l h ∷ []) f
interval_appended l h a b c d e f k m p q r s t = line_appended a f (real_interval l h) (k.spelled, m.spelled)
    (omega (arith, k.short, m.short, length-append (number_spelling l) (32 ∷ number_spelling h)))
    (t ∙ ap (λ (x : List ℕ). x ++ (10 ∷ [])) (s ∙ ap (λ (x : List ℕ). x ++ number_spelling h) (r ∙ ap (λ (x : List ℕ). x ++ (32 ∷ [])) (q ∙ ap (λ (x : List ℕ). x ++ number_spelling l) p))
    ∙ append_assoc ((a ++ codes "real ") ++ number_spelling l) (32 ∷ []) (number_spelling h)) ∙ three-parts a (codes "real ") (number_spelling l) (number_spelling h))

-- ---- atoms with their multipliers

pair-parts : (a x y : List ℕ) → ((a ++ (32 ∷ x)) ++ (32 ∷ [])) ++ y ≡ a ++ (32 ∷ (x ++ (32 ∷ (y ++ []))))
pair-parts a x y = ap (λ (t : List ℕ). ((a ++ (32 ∷ x)) ++ (32 ∷ [])) ++ t) (sym (append-nil y)) ∙ append_assoc (a ++ (32 ∷ x)) (32 ∷ []) (y ++ []) ∙ append_assoc a (32 ∷ x) (32 ∷ (y ++ []))

pub pair_appended : (j : ℕ) (l : Dyadic) (a b c d : List ℕ) → IsCount j → IsShortNumber l → b ≡ a ++ (32 ∷ decimal j) → c ≡ b ++ (32 ∷ []) → d ≡ c ++ number_spelling l → HasPairs a ((j, l) ∷ []) d
pair_appended j l a b c d h k e f g = record {
  written = g ∙ ap (λ (t : List ℕ). t ++ number_spelling l) (f ∙ ap (λ (t : List ℕ). t ++ (32 ∷ [])) e) ∙ pair-parts a (decimal j) (number_spelling l);
  spelled = ((h, k.spelled), tt);
  short = omega (arith, decimal_short j h, k.short, length-append (decimal j) (32 ∷ (number_spelling l ++ [])), length-append (number_spelling l) []);
}

pub no_pairs : (a : List ℕ) → HasPairs a [] a
no_pairs a = record { written = sym (append-nil a); spelled = tt; short = omega arith }

paired-append : (ps qs : List (ℕ × Dyadic)) → paired_off (ps ++ qs) ≡ paired_off ps ++ paired_off qs
paired-append [] qs = refl
paired-append ((j, l) ∷ ps) qs =
    ap (λ (t : List ℕ). 32 ∷ (decimal j ++ (32 ∷ (number_spelling l ++ t)))) (paired-append ps qs)
    ∙ ap (λ (t : List ℕ). 32 ∷ (decimal j ++ (32 ∷ t))) (sym (append_assoc (number_spelling l) (paired_off ps) (paired_off qs)))
    ∙ ap (λ (t : List ℕ). 32 ∷ t) (sym (append_assoc (decimal j) (32 ∷ (number_spelling l ++ paired_off ps)) (paired_off qs)))

spelled-append : (ps qs : List (ℕ × Dyadic)) → AllByRecursion IsSpelledPair ps → AllByRecursion IsSpelledPair qs → AllByRecursion IsSpelledPair (ps ++ qs)
spelled-append [] qs h k = k
spelled-append (p ∷ ps) qs h k = (h.0, spelled-append ps qs h.1 k)

pub both_pairs : (a b c : List ℕ) (ps qs : List (ℕ × Dyadic)) → HasPairs a ps b → HasPairs b qs c → HasPairs a (ps ++ qs) c
both_pairs a b c ps qs h k = record {
  written = k.written ∙ ap (λ (t : List ℕ). t ++ paired_off qs) h.written ∙ append_assoc a (paired_off ps) (paired_off qs) ∙ ap (λ (t : List ℕ). a ++ t) (sym (paired-append ps qs));
  spelled = spelled-append ps qs h.spelled k.spelled;
  short = omega (arith, h.short, k.short, ap length (paired-append ps qs), length-append (paired_off ps) (paired_off qs), length-append ps qs);
}

-- ---- lines of marks

pub spaced-listed : (w : List ℕ) (js : List ℕ) → spaced (w ∷ map decimal js) ≡ w ++ listed js
spaced-listed w [] = sym (append-nil w)
spaced-listed w (j ∷ js) = ap (λ (t : List ℕ). w ++ (32 ∷ t)) (spaced-listed (decimal j) js)

cons-if : (P : List ℕ → Type 0) (t : Bool) (j : ℕ) (js : List ℕ) → P js → P (j ∷ js) → P (cond t (j ∷ js) js)
cons-if P true j js h k = k
cons-if P false j js h k = h

numbers-counts : (test : Mark → Bool) (j : ℕ) (marks : List Mark) → j + length marks ≤ most_atoms → AllByRecursion IsCount (numbers_from test j marks)
numbers-counts test j [] h = tt
numbers-counts test j (m ∷ marks) h = let r = numbers-counts test (suc j) marks (omega (arith, h)) in
    cons-if (AllByRecursion IsCount) (test m) j (numbers_from test (suc j) marks) r (omega (arith, h), r)

listed-length : (test : Mark → Bool) (j : ℕ) (marks : List Mark) → j + length marks ≤ most_atoms → length (listed (numbers_from test j marks)) ≤ 6 * length marks
listed-length test j [] h = omega arith
listed-length test j (m ∷ marks) h = let r = listed-length test (suc j) marks (omega (arith, h)) in
    cons-if (λ (js : List ℕ). length (listed js) ≤ 6 * suc (length marks)) (test m) j (numbers_from test (suc j) marks) (omega (arith, r))
    (omega (arith, r, length-append (decimal j) (listed (numbers_from test (suc j) marks)), length-decimal-le 5 j (omega arith) (omega (arith, h)) (omega (arith, h))))

marks-spelled : (t : Bool) (marks : List Mark) → length marks ≤ most_atoms → HasSpelling (marks_line t marks)
marks-spelled true marks h = numbers-counts is_yes 0 marks (omega (arith, h))
marks-spelled false marks h = numbers-counts is_no 0 marks (omega (arith, h))

marks-text : (t : Bool) (marks : List Mark) → line_text (marks_line t marks) ≡ marks_word t ++ listed (numbers_from (is_marked t) 0 marks)
marks-text true marks = spaced-listed (marks_word true) (numbers_from is_yes 0 marks)
marks-text false marks = spaced-listed (marks_word false) (numbers_from is_no 0 marks)

marks-short : (t : Bool) → length (marks_word t) ≤ 16
marks-short true = omega arith
marks-short false = omega arith

pub marks_appended : (t : Bool) (marks : List Mark) (a b c d : List ℕ) → length marks ≤ most_atoms → b ≡ a ++ marks_word t → c ≡ b ++ listed (numbers_from (is_marked t) 0 marks) → d ≡ c ++ (10 ∷ []) →
    HasAppended a (marks_line t marks ∷ []) d
marks_appended t marks a b c d h e f g = line_appended a d (marks_line t marks) (marks-spelled t marks h)
    (omega (arith, h, marks-short t, listed-length (is_marked t) 0 marks (omega (arith, h)), ap length (marks-text t marks), length-append (marks_word t) (listed (numbers_from (is_marked t) 0 marks))))
    (g ∙ ap (λ (s : List ℕ). s ++ (10 ∷ [])) (f ∙ ap (λ (s : List ℕ). s ++ listed (numbers_from (is_marked t) 0 marks)) e ∙ append_assoc a (marks_word t) (listed (numbers_from (is_marked t) 0 marks)) ∙ ap (λ (s : List ℕ). a ++ s) (sym (marks-text t marks)))
    ∙ append_assoc a (line_text (marks_line t marks)) (10 ∷ []))
