-- The forms of a certificate's lines, and what the bytes of a line say.
use Rattle.std.specs.Prelude.{ℕ, zero, suc, ◌^◌, length, List, [], ◌∷◌, Bool, true, false, cond, not, ◌&&◌, Option, Some, None, nat_eq, nat_lt, map, codes}
use Rattle.std.specs.Str.{bytes_eq, all_ascii_digits}
use Rattle.std.specs.Str.Parse.{digits_value}
use Rattle.dyadic.specs.Rounding.{Dyadic}
use Rattle.dyadic.specs.NumberText.{NumberText, number, number_text}
use Rattle.cover_line.specs.Line.{Multipliers, Factor, no_factor, bound_of, Block, Line}
use Rattle.cover_line.specs.Words.{Form, with_none, with_number, with_numbers, with_place, with_multipliers, with_squares, with_groups, empty_word, word_text, rule_forms}
use Rattle.cert_read.specs.Lines.{is_too_long, are_words, words_of}

-- ---- what a line says

pub data BoolWord : Type 0 where
  says_false says_true says_both : BoolWord

pub data CertLine : Type 0 where
  version margin delta : ℕ → CertLine
  bound : Option ℕ → CertLine
  -- the number of checks
  checks : ℕ → CertLine
  -- a lower bound of the goal; none where it has none
  lower : Option Dyadic → CertLine
  -- the cover is one of the problem with a limit of the goal: 2 to the power of this, times the goal, is a whole number at most
  goal : ℕ → CertLine
  -- the number of lemmas, and how many of them are those of the part before
  cover keep : ℕ → CertLine
  point_word tree_word end_word : CertLine
  lemma : ℕ → CertLine
  real_interval : Dyadic → Dyadic → CertLine
  real_value : Dyadic → CertLine
  bool_value : BoolWord → CertLine
  yes_list no_list : List ℕ → CertLine
  -- a line of a tree, but the one for crossed bounds
  rule_line : Line → CertLine
  -- the goal's enclosure is not below the lower bound
  over : CertLine
  -- the bounds of this axis cross
  crossing : ℕ → CertLine

-- ---- numbers

-- digits, at least one, without a leading zero
abbrev pub is_plain : List ℕ → Bool
is_plain [] = false
is_plain (b ∷ []) = all_ascii_digits (b ∷ [])
is_plain (b ∷ bs) = not (nat_eq b 48) && all_ascii_digits (b ∷ bs)

abbrev pub if_below : Bool → ℕ → Option ℕ
if_below true n = Some n
if_below false n = None

abbrev pub if_plain : Bool → List ℕ → Option ℕ
if_plain true w = if_below (nat_lt (digits_value 10 w) (2 ^ 32)) (digits_value 10 w)
if_plain false w = None

-- a plain number, below 2^32
abbrev pub count_of : List ℕ → Option ℕ
count_of w = if_plain (is_plain w) w

abbrev pub if_number : NumberText → Option Dyadic
if_number (number d) = Some d
if_number _ = None

-- a number of the grid in its one spelling
abbrev pub dyadic_of : List ℕ → Option Dyadic
dyadic_of w = if_number (number_text w)

-- ---- what the bytes of a line are

pub data Parsed : Type 0 where
  too_long bad_line bad_number : Parsed
  line : CertLine → Parsed

abbrev pub with_count : (ℕ → CertLine) → Option ℕ → Parsed
with_count f (Some n) = line (f n)
with_count f None = bad_number

abbrev pub with_counts : (ℕ → ℕ → CertLine) → Option ℕ → Option ℕ → Parsed
with_counts f (Some m) (Some n) = line (f m n)
with_counts f _ _ = bad_number

abbrev pub with_dyadic : (Dyadic → CertLine) → Option Dyadic → Parsed
with_dyadic f (Some d) = line (f d)
with_dyadic f None = bad_number

abbrev pub with_dyadics : (Dyadic → Dyadic → CertLine) → Option Dyadic → Option Dyadic → Parsed
with_dyadics f (Some l) (Some h) = line (f l h)
with_dyadics f _ _ = bad_number

abbrev pub with_both : (ℕ → Dyadic → CertLine) → Option ℕ → Option Dyadic → Parsed
with_both f (Some n) (Some d) = line (f n d)
with_both f _ _ = bad_number

abbrev pub and_count : Option ℕ → Option (List ℕ) → Option (List ℕ)
and_count (Some n) (Some ns) = Some (n ∷ ns)
and_count _ _ = None

abbrev pub counts_of : List (List ℕ) → Option (List ℕ)
counts_of [] = Some []
counts_of (w ∷ ws) = and_count (count_of w) (counts_of ws)

abbrev pub with_list : (List ℕ → CertLine) → Option (List ℕ) → Parsed
with_list f (Some ns) = line (f ns)
with_list f None = bad_number

abbrev pub and_pair : Option ℕ → Option Dyadic → Option Multipliers → Option Multipliers
and_pair (Some n) (Some d) (Some ps) = Some ((n, d) ∷ ps)
and_pair _ _ _ = None

-- plain numbers and numbers of the grid in turn
abbrev pub pairs_of : List (List ℕ) → Option Multipliers
pairs_of (v ∷ w ∷ ws) = and_pair (count_of v) (dyadic_of w) (pairs_of ws)
pairs_of _ = Some []

abbrev pub with_pairs : (Multipliers → CertLine) → Option Multipliers → Parsed
with_pairs f (Some ps) = line (f ps)
with_pairs f None = bad_number

-- whether the number of words is even
abbrev pub are_paired : List (List ℕ) → Bool
are_paired [] = true
are_paired (w ∷ ws) = not (are_paired ws)

-- one pair or more, and nothing left over
abbrev pub has_pairs : List (List ℕ) → Bool
has_pairs [] = false
has_pairs ws = are_paired ws

-- ---- what is read from the left

-- what the first words say, and the words behind them; or the first fault
pub data Taken (A : Type 0) : Type 0 where
  taken : A → List (List ℕ) → Taken A
  -- a word is due, or another number
  ill_formed : Taken A
  -- the word is no number of the kind that is due
  no_number : Taken A

abbrev pub and_take : {A B : Type 0} → Taken A → (A → List (List ℕ) → Taken B) → Taken B
and_take (taken a ws) f = f a ws
and_take ill_formed f = ill_formed
and_take no_number f = no_number

abbrev pub taken_if : {A : Type 0} → Option A → List (List ℕ) → Taken A
taken_if (Some a) ws = taken a ws
taken_if None ws = no_number

abbrev pub take_count : List (List ℕ) → Taken ℕ
take_count [] = ill_formed
take_count (w ∷ ws) = taken_if (count_of w) ws

abbrev pub take_dyadic : List (List ℕ) → Taken Dyadic
take_dyadic [] = ill_formed
take_dyadic (w ∷ ws) = taken_if (dyadic_of w) ws

-- so many
abbrev pub take_many : {A : Type 0} → (List (List ℕ) → Taken A) → ℕ → List (List ℕ) → Taken (List A)
take_many take zero ws = taken [] ws
take_many take (suc n) ws = and_take (take ws) (λ a vs. and_take (take_many take n vs) (λ xs us. taken (a ∷ xs) us))

abbrev pub take_pair : List (List ℕ) → Taken (ℕ × Dyadic)
take_pair ws = and_take (take_count ws) (λ j vs. and_take (take_dyadic vs) (λ l us. taken (j, l) us))

-- how many axes, and the axes
abbrev pub take_monomial : List (List ℕ) → Taken (List ℕ)
take_monomial ws = and_take (take_count ws) (λ n vs. take_many take_count n vs)

-- rows with so many numbers, one less, .. and one
abbrev pub take_rows : ℕ → List (List ℕ) → Taken (List (List Dyadic))
take_rows zero ws = taken [] ws
take_rows (suc n) ws = and_take (take_many take_dyadic (suc n) ws) (λ r vs. and_take (take_rows n vs) (λ rs us. taken (r ∷ rs) us))

abbrev pub factor_by : ℕ → List (List ℕ) → Taken Factor
factor_by zero ws = taken no_factor ws
factor_by (suc zero) ws = and_take (take_count ws) (λ i vs. taken (bound_of i) vs)
factor_by _ ws = ill_formed

-- 0, or 1 and an axis
abbrev pub take_factor : List (List ℕ) → Taken Factor
take_factor ws = and_take (take_count ws) (λ k vs. factor_by k vs)

-- behind the factor: how many monomials, the monomials and the rows
abbrev pub take_block_of : Factor → List (List ℕ) → Taken Block
take_block_of f ws = and_take (take_count ws) (λ n vs. and_take (take_many take_monomial n vs) (λ ms us. and_take (take_rows n us) (λ rs ts. taken (record { factor = f; monomials = ms; rows = rs }) ts)))

abbrev pub take_block : List (List ℕ) → Taken Block
take_block ws = and_take (take_factor ws) (λ f vs. take_block_of f vs)

-- all there are, no more than this
abbrev pub take_blocks : ℕ → List (List ℕ) → Taken (List Block)
take_blocks n [] = taken [] []
take_blocks zero (w ∷ ws) = ill_formed
take_blocks (suc n) (w ∷ ws) = and_take (take_block (w ∷ ws)) (λ b vs. and_take (take_blocks n vs) (λ bs us. taken (b ∷ bs) us))

-- how many pairs, the pairs, and blocks up to the end
abbrev pub take_squares : List (List ℕ) → Taken (Multipliers × List Block)
take_squares ws = and_take (take_count ws) (λ k vs. and_take (take_many take_pair k vs) (λ ms us. and_take (take_blocks (length us) us) (λ bs ts. taken (ms, bs) ts)))

-- plain numbers up to the end
abbrev pub take_list : List (List ℕ) → Taken (List ℕ)
take_list ws = taken_if (counts_of ws) []

-- how many atoms, the atoms, and others up to the end
abbrev pub take_groups : List (List ℕ) → Taken (List ℕ × List ℕ)
take_groups ws = and_take (take_count ws) (λ n vs. and_take (take_many take_count n vs) (λ js us. and_take (take_list us) (λ ks ts. taken (js, ks) ts)))

abbrev pub line_taken : {A B : Type 0} → (A → B → CertLine) → Taken (A × B) → Parsed
line_taken f (taken x ws) = line (f x.0 x.1)
line_taken f ill_formed = bad_line
line_taken f no_number = bad_number

-- ---- the forms, by what stands behind the first word

-- nothing
abbrev pub alone : CertLine → List (List ℕ) → Parsed
alone l [] = line l
alone l ws = bad_line

-- one plain number
abbrev pub counted : (ℕ → CertLine) → List (List ℕ) → Parsed
counted f (w ∷ []) = with_count f (count_of w)
counted f ws = bad_line

-- two plain numbers
abbrev pub counted_twice : (ℕ → ℕ → CertLine) → List (List ℕ) → Parsed
counted_twice f (v ∷ w ∷ []) = with_counts f (count_of v) (count_of w)
counted_twice f ws = bad_line

-- a plain number and a number of the grid
abbrev pub placed : (ℕ → Dyadic → CertLine) → List (List ℕ) → Parsed
placed f (v ∷ w ∷ []) = with_both f (count_of v) (dyadic_of w)
placed f ws = bad_line

-- pairs of such numbers
abbrev pub paired : (Multipliers → CertLine) → List (List ℕ) → Parsed
paired f ws = cond (has_pairs ws) (with_pairs f (pairs_of ws)) bad_line

-- those of a sum of squares
abbrev pub squared : (Multipliers → List Block → CertLine) → List (List ℕ) → Parsed
squared f ws = line_taken f (take_squares ws)

-- two groups of atoms
abbrev pub grouped : (List ℕ → List ℕ → CertLine) → List (List ℕ) → Parsed
grouped f ws = line_taken f (take_groups ws)

-- any number of plain numbers
abbrev pub listed : (List ℕ → CertLine) → List (List ℕ) → Parsed
listed f ws = with_list f (counts_of ws)

-- `none` or a plain number
abbrev pub bound_in : List (List ℕ) → Parsed
bound_in (w ∷ []) = cond (bytes_eq w (codes "none")) (line (bound None)) (with_count (λ n. bound (Some n)) (count_of w))
bound_in ws = bad_line

-- `none` or a number of the grid
abbrev pub lower_in : List (List ℕ) → Parsed
lower_in (w ∷ []) = cond (bytes_eq w (codes "none")) (line (lower None)) (with_dyadic (λ d. lower (Some d)) (dyadic_of w))
lower_in ws = bad_line

-- the values that are left
abbrev pub bool_in : List (List ℕ) → Parsed
bool_in (w ∷ []) =
    cond (bytes_eq w (codes "false")) (line (bool_value says_false))
    (cond (bytes_eq w (codes "true")) (line (bool_value says_true))
    (cond (bytes_eq w (codes "both")) (line (bool_value says_both)) bad_line))
bool_in ws = bad_line

-- a value, or the ends of an interval
abbrev pub real_in : List (List ℕ) → Parsed
real_in (w ∷ []) = with_dyadic real_value (dyadic_of w)
real_in (v ∷ w ∷ []) = with_dyadics real_interval (dyadic_of v) (dyadic_of w)
real_in ws = bad_line

-- ---- lines by their first words

-- the entry under a name
abbrev pub entry : {A : Type 0} → List ℕ → List (List ℕ × A) → Option A
entry name [] = None
entry name (e ∷ rest) = cond (bytes_eq name e.0) (Some e.1) (entry name rest)

abbrev pub header_forms : List (List ℕ × (List (List ℕ) → Parsed))
header_forms =
    (codes "dpoly", counted version) ∷ (codes "margin", counted margin) ∷ (codes "delta", counted delta) ∷ (codes "bound", bound_in) ∷ (codes "lower", lower_in) ∷ (codes "goal", counted goal) ∷ (codes "checks", counted checks) ∷ (codes "cover", counted cover) ∷ (codes "keep", counted keep) ∷
    (codes "point", alone point_word) ∷ (codes "tree", alone tree_word) ∷ (codes "end", alone end_word) ∷ (codes "lemma", counted lemma) ∷
    (codes "real", real_in) ∷ (codes "bool", bool_in) ∷ (codes "yes", listed yes_list) ∷ (codes "no", listed no_list) ∷ (codes "over", alone over) ∷ (word_text empty_word, counted crossing) ∷ []

-- a line of a rule by its operands
abbrev pub ruled : Form → List (List ℕ) → Parsed
ruled (with_none l) ws = alone (rule_line l) ws
ruled (with_number f) ws = counted (λ n. rule_line (f n)) ws
ruled (with_numbers f) ws = counted_twice (λ m n. rule_line (f m n)) ws
ruled (with_place f) ws = placed (λ n d. rule_line (f n d)) ws
ruled (with_multipliers f) ws = paired (λ ps. rule_line (f ps)) ws
ruled (with_squares f) ws = squared (λ ms bs. rule_line (f ms bs)) ws
ruled (with_groups f) ws = grouped (λ js ks. rule_line (f js ks)) ws

abbrev pub tree_forms : List (List ℕ × (List (List ℕ) → Parsed))
tree_forms = map (λ x. (word_text x.0, ruled x.1)) rule_forms

abbrev pub or_bad : Option (List (List ℕ) → Parsed) → List (List ℕ) → Parsed
or_bad None ws = bad_line
or_bad (Some f) ws = f ws

abbrev pub or_rule : Option (List (List ℕ) → Parsed) → List ℕ → List (List ℕ) → Parsed
or_rule (Some f) w ws = f ws
or_rule None w ws = or_bad (entry w tree_forms) ws

abbrev pub by_first : List (List ℕ) → Parsed
by_first [] = bad_line
by_first (w ∷ ws) = or_rule (entry w header_forms) w ws

abbrev pub if_words : Bool → List ℕ → Parsed
if_words true bytes = by_first (words_of bytes)
if_words false bytes = bad_line

abbrev pub unless_long : Bool → List ℕ → Parsed
unless_long true bytes = too_long
unless_long false bytes = if_words (are_words (words_of bytes)) bytes

-- a line that is too long is told first, then one that has no form, then one whose numbers are not spelled as they must be
abbrev pub parsed : List ℕ → Parsed
parsed bytes = unless_long (is_too_long bytes) bytes
