-- Lines that are appended to a text, and the forms in which the code has them.
use Rattle.std.specs.Prelude.{◌≡◌, ℕ, ◌*◌, ◌≤◌, List, [], ◌∷◌, ◌++◌, Bool, true, false, Some, None, codes, decimal, length}
use Rattle.std.specs.List.{AllByRecursion}
use Rattle.cover_line.specs.Words.{empty_word, word_text}
use Rattle.cert_read.specs.CertLine.{says_false, says_true, says_both, CertLine, version, margin, delta, bound, lower, goal, over, checks, cover, keep, point_word, tree_word, end_word, lemma, bool_value, yes_list, no_list, crossing}
use Rattle.cert_read.specs.LineText.{IsSpelled, IsSpelledPair}
use Rattle.dyadic.specs.Rounding.{Dyadic}
use Rattle.dyadic.specs.NumberText.{number_spelling}
use Rattle.poly_graph.specs.Marks.{Mark, is_yes, is_no, numbers_from}
use Rattle.cert_model.specs.Accepted.{certificate_text}
use Rattle.cert_text.specs.declared.keyword.Plain.{Plain}
use Rattle.cert_text.specs.declared.keyword.Plain.TheVariants as plain
use Rattle.cert_text.specs.declared.keyword.Counted.{Counted}
use Rattle.cert_text.specs.declared.keyword.Counted.TheVariants as counted

-- the new text is the old one and these lines behind it, each of which can be spelled
pub record HasAppended (old : List ℕ) (ls : List CertLine) (new : List ℕ) : Type 0 where
  pub written : new ≡ old ++ certificate_text ls
  pub spelled : AllByRecursion IsSpelled ls

-- ---- lines without numbers

abbrev pub plain_line : Plain → CertLine
plain_line plain.BoundNone = bound None
plain_line plain.LowerNone = lower None
plain_line plain.Point = point_word
plain_line plain.Tree = tree_word
plain_line plain.End = end_word
plain_line plain.BoolFalse = bool_value says_false
plain_line plain.BoolTrue = bool_value says_true
plain_line plain.BoolBoth = bool_value says_both
plain_line plain.Over = over

abbrev pub plain_text : Plain → List ℕ
plain_text plain.BoundNone = codes "bound none"
plain_text plain.LowerNone = codes "lower none"
plain_text plain.Point = codes "point"
plain_text plain.Tree = codes "tree"
plain_text plain.End = codes "end"
plain_text plain.BoolFalse = codes "bool false"
plain_text plain.BoolTrue = codes "bool true"
plain_text plain.BoolBoth = codes "bool both"
plain_text plain.Over = codes "over"

-- ---- lines with one plain number

abbrev pub counted_line : Counted → ℕ → CertLine
counted_line counted.Version n = version n
counted_line counted.Margin n = margin n
counted_line counted.Delta n = delta n
counted_line counted.Bound n = bound (Some n)
counted_line counted.Goal n = goal n
counted_line counted.Checks n = checks n
counted_line counted.Cover n = cover n
counted_line counted.Keep n = keep n
counted_line counted.Lemma n = lemma n
counted_line counted.Empty n = crossing n

abbrev pub counted_word : Counted → List ℕ
counted_word counted.Version = codes "dpoly"
counted_word counted.Margin = codes "margin"
counted_word counted.Delta = codes "delta"
counted_word counted.Bound = codes "bound"
counted_word counted.Goal = codes "goal"
counted_word counted.Checks = codes "checks"
counted_word counted.Cover = codes "cover"
counted_word counted.Keep = codes "keep"
counted_word counted.Lemma = codes "lemma"
counted_word counted.Empty = word_text empty_word

-- ---- atoms with their multipliers

-- each atom and each multiplier with a space before it
abbrev pub paired_off : List (ℕ × Dyadic) → List ℕ
paired_off [] = []
paired_off ((j, l) ∷ ps) = 32 ∷ (decimal j ++ (32 ∷ (number_spelling l ++ paired_off ps)))

-- the new text is the old one and these pairs behind it, each of which can be spelled and is short
pub record HasPairs (old : List ℕ) (ps : List (ℕ × Dyadic)) (new : List ℕ) : Type 0 where
  pub written : new ≡ old ++ paired_off ps
  pub spelled : AllByRecursion IsSpelledPair ps
  pub short : length (paired_off ps) ≤ length ps * 76

-- ---- lines of marks

-- marked yes, or no
abbrev pub is_marked : Bool → Mark → Bool
is_marked true m = is_yes m
is_marked false m = is_no m

abbrev pub marks_word : Bool → List ℕ
marks_word true = codes "yes"
marks_word false = codes "no"

abbrev pub marks_line : Bool → List Mark → CertLine
marks_line true marks = yes_list (numbers_from is_yes 0 marks)
marks_line false marks = no_list (numbers_from is_no 0 marks)

-- each number with a space before it
abbrev pub listed : List ℕ → List ℕ
listed [] = []
listed (j ∷ js) = 32 ∷ (decimal j ++ listed js)

-- a book has at most so many atoms
abbrev pub most_atoms : ℕ
most_atoms = 65536
