-- The one spelling of each line, and the text of some lines.
use Rattle.std.specs.Prelude.{◌≡◌, ℕ, zero, suc, ◌<◌, ◌≤◌, ◌^◌, List, [], ◌∷◌, ◌++◌, map, length, Bool, not, ◌&&◌, Option, Some, None, nat_eq, nat_lt, codes, decimal, IsTrue}
use Rattle.std.specs.List.{AllByRecursion}
use Rattle.dyadic.specs.Rounding.{Dyadic}
use Rattle.dyadic.specs.NumberText.{number, number_text, number_spelling}
use Rattle.cert_read.specs.Lines.{all_bytes, longest_line}
use Rattle.cover_line.specs.Line.{Multipliers, Factor, no_factor, bound_of, Block, Line}
use Rattle.cover_line.specs.Words.{empty_word, word_of, word_text, Operands, of_nothing, of_atom, of_lemma, of_atom_lemma, of_axis, of_axis_place, of_multipliers, of_squares, of_groups, operands_of}
use Rattle.cert_read.specs.CertLine.{BoolWord, says_false, says_true, says_both, CertLine, version, margin, delta, bound, lower, goal, over, checks, cover, keep, point_word, tree_word, end_word, lemma, real_interval, real_value, bool_value, yes_list, no_list, rule_line, crossing}

-- words parted by one space
abbrev pub spaced : List (List ℕ) → List ℕ
spaced [] = []
spaced (w ∷ []) = w
spaced (w ∷ v ∷ ws) = w ++ (32 ∷ spaced (v ∷ ws))

-- lines that end with LF
abbrev pub text_of_lines : List (List ℕ) → List ℕ
text_of_lines [] = []
text_of_lines (l ∷ ls) = l ++ (10 ∷ text_of_lines ls)

abbrev pub bound_text : Option ℕ → List ℕ
bound_text None = codes "none"
bound_text (Some n) = decimal n

abbrev pub lower_text : Option Dyadic → List ℕ
lower_text None = codes "none"
lower_text (Some d) = number_spelling d

abbrev pub bool_text : BoolWord → List ℕ
bool_text says_false = codes "false"
bool_text says_true = codes "true"
bool_text says_both = codes "both"

-- atoms, each with its multiplier
abbrev pub pair_words : Multipliers → List (List ℕ)
pair_words [] = []
pair_words ((j, l) ∷ ps) = decimal j ∷ number_spelling l ∷ pair_words ps

abbrev pub factor_words : Factor → List (List ℕ)
factor_words no_factor = decimal 0 ∷ []
factor_words (bound_of i) = decimal 1 ∷ decimal i ∷ []

-- each with the number of its axes before it
abbrev pub monomial_words : List (List ℕ) → List (List ℕ)
monomial_words [] = []
monomial_words (m ∷ ms) = decimal (length m) ∷ (map decimal m ++ monomial_words ms)

abbrev pub row_words : List (List Dyadic) → List (List ℕ)
row_words [] = []
row_words (r ∷ rs) = map number_spelling r ++ row_words rs

abbrev pub block_words : List Block → List (List ℕ)
block_words [] = []
block_words (b ∷ bs) = factor_words b.factor ++ (decimal (length b.monomials) ∷ (monomial_words b.monomials ++ (row_words b.rows ++ block_words bs)))

abbrev pub operand_words : Operands → List (List ℕ)
operand_words of_nothing = []
operand_words (of_atom j) = decimal j ∷ []
operand_words (of_lemma i) = decimal i ∷ []
operand_words (of_atom_lemma j i) = decimal j ∷ decimal i ∷ []
operand_words (of_axis axis) = decimal axis ∷ []
operand_words (of_axis_place axis c) = decimal axis ∷ number_spelling c ∷ []
operand_words (of_multipliers ps) = pair_words ps
operand_words (of_squares ms bs) = decimal (length ms) ∷ (pair_words ms ++ block_words bs)
operand_words (of_groups js ks) = decimal (length js) ∷ (map decimal js ++ map decimal ks)

abbrev pub rule_words : Line → List (List ℕ)
rule_words l = word_text (word_of l) ∷ operand_words (operands_of l)

abbrev pub line_words : CertLine → List (List ℕ)
line_words (version n) = codes "dpoly" ∷ decimal n ∷ []
line_words (margin m) = codes "margin" ∷ decimal m ∷ []
line_words (delta d) = codes "delta" ∷ decimal d ∷ []
line_words (bound b) = codes "bound" ∷ bound_text b ∷ []
line_words (lower d) = codes "lower" ∷ lower_text d ∷ []
line_words (goal k) = codes "goal" ∷ decimal k ∷ []
line_words (checks c) = codes "checks" ∷ decimal c ∷ []
line_words (cover k) = codes "cover" ∷ decimal k ∷ []
line_words (keep q) = codes "keep" ∷ decimal q ∷ []
line_words point_word = codes "point" ∷ []
line_words tree_word = codes "tree" ∷ []
line_words end_word = codes "end" ∷ []
line_words (lemma i) = codes "lemma" ∷ decimal i ∷ []
line_words (real_interval l h) = codes "real" ∷ number_spelling l ∷ number_spelling h ∷ []
line_words (real_value v) = codes "real" ∷ number_spelling v ∷ []
line_words (bool_value w) = codes "bool" ∷ bool_text w ∷ []
line_words (yes_list js) = codes "yes" ∷ map decimal js
line_words (no_list js) = codes "no" ∷ map decimal js
line_words (rule_line l) = rule_words l
line_words over = codes "over" ∷ []
line_words (crossing i) = word_text empty_word ∷ decimal i ∷ []

abbrev pub line_text : CertLine → List ℕ
line_text l = spaced (line_words l)

-- ---- lines that can be spelled

-- an ASCII byte other than space and LF
abbrev pub is_word_byte : ℕ → Bool
is_word_byte b = nat_lt b 128 && not (nat_eq b 32) && not (nat_eq b 10)

-- below 2^32
abbrev pub IsCount : ℕ → Type 0
IsCount n = n < 2 ^ 32

-- a number that its spelling gives back
abbrev pub IsSpelledNumber : Dyadic → Type 0
IsSpelledNumber d = (number_text (number_spelling d) ≡ number d) × (0 < length (number_spelling d)) × IsTrue (all_bytes is_word_byte (number_spelling d))

abbrev pub IsSpelledPair : (ℕ × Dyadic) → Type 0
IsSpelledPair (j, l) = IsCount j × IsSpelledNumber l

abbrev pub AreSpelledPairs : Multipliers → Type 0
AreSpelledPairs ps = (0 < length ps) × AllByRecursion IsSpelledPair ps

abbrev pub IsSpelledFactor : Factor → Type 0
IsSpelledFactor no_factor = Unit {0}
IsSpelledFactor (bound_of i) = IsCount i

abbrev pub IsSpelledMonomial : List ℕ → Type 0
IsSpelledMonomial m = IsCount (length m) × AllByRecursion IsCount m

-- rows with so many numbers, one less, .. and one
abbrev pub AreSpelledRows : ℕ → List (List Dyadic) → Type 0
AreSpelledRows zero [] = Unit {0}
AreSpelledRows (suc n) (r ∷ rs) = (length r ≡ suc n) × AllByRecursion IsSpelledNumber r × AreSpelledRows n rs
AreSpelledRows _ _ = ⊥

pub record IsSpelledBlock (b : Block) : Type 0 where
  pub factor : IsSpelledFactor b.factor
  pub count : IsCount (length b.monomials)
  pub monomials : AllByRecursion IsSpelledMonomial b.monomials
  pub rows : AreSpelledRows (length b.monomials) b.rows

abbrev pub AreSpelledOperands : Operands → Type 0
AreSpelledOperands of_nothing = Unit {0}
AreSpelledOperands (of_atom j) = IsCount j
AreSpelledOperands (of_lemma i) = IsCount i
AreSpelledOperands (of_atom_lemma j i) = IsCount j × IsCount i
AreSpelledOperands (of_axis axis) = IsCount axis
AreSpelledOperands (of_axis_place axis c) = IsCount axis × IsSpelledNumber c
AreSpelledOperands (of_multipliers ps) = AreSpelledPairs ps
AreSpelledOperands (of_squares ms bs) = IsCount (length ms) × AllByRecursion IsSpelledPair ms × AllByRecursion IsSpelledBlock bs
AreSpelledOperands (of_groups js ks) = IsCount (length js) × AllByRecursion IsCount js × AllByRecursion IsCount ks

abbrev pub IsSpelledRule : Line → Type 0
IsSpelledRule l = AreSpelledOperands (operands_of l)

abbrev pub IsSpelledBound : Option ℕ → Type 0
IsSpelledBound None = Unit {0}
IsSpelledBound (Some n) = IsCount n

abbrev pub IsSpelledLower : Option Dyadic → Type 0
IsSpelledLower None = Unit {0}
IsSpelledLower (Some d) = IsSpelledNumber d

abbrev pub HasSpelling : CertLine → Type 0
HasSpelling (version n) = IsCount n
HasSpelling (margin m) = IsCount m
HasSpelling (delta d) = IsCount d
HasSpelling (bound b) = IsSpelledBound b
HasSpelling (lower d) = IsSpelledLower d
HasSpelling (goal k) = IsCount k
HasSpelling (checks c) = IsCount c
HasSpelling (cover k) = IsCount k
HasSpelling (keep q) = IsCount q
HasSpelling (lemma i) = IsCount i
HasSpelling (real_interval l h) = IsSpelledNumber l × IsSpelledNumber h
HasSpelling (real_value v) = IsSpelledNumber v
HasSpelling (yes_list js) = AllByRecursion IsCount js
HasSpelling (no_list js) = AllByRecursion IsCount js
HasSpelling (rule_line l) = IsSpelledRule l
HasSpelling (crossing i) = IsCount i
HasSpelling _ = Unit {0}

-- the line can be spelled, and is not too long then
abbrev pub IsSpelled : CertLine → Type 0
IsSpelled l = HasSpelling l × (length (line_text l) ≤ longest_line)
