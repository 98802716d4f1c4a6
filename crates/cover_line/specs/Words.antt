-- The lines of a cover as data: the first word of each, what stands behind it, and the lines that each word leads.
use Rattle.std.specs.Prelude.{ℕ, List, [], ◌∷◌, codes}
use Rattle.dyadic.specs.Rounding.{Dyadic}
use Rattle.cover_line.specs.Line.{Multipliers, Block, Narrowing, by_range, by_off_range, by_combination, Ending, void_by, by_squares, false_form, by_lemma, Marking, unit_atom, ban_atom, Branching, cut_axis, flip_axis, case_atom, either_group, Staying, open_state, stuck_atom, Line, narrow_by, end_by, mark_by, branch_by, stay_by, pull, unit, void, push, void_no, combine, void_combine, void_squares, ban, make_false, by, cut, flip, case, either, open_line, stuck}

-- ---- first words

-- the first words of a tree's lines; `empty` leads the line for crossed bounds, which is no rule
pub data RuleWord : Type 0 where
  empty_word pull_word unit_word ban_word void_word push_word void_no_word false_word by_word cut_word flip_word case_word either_word open_word stuck_word combine_word void_combine_word void_squares_word : RuleWord

abbrev pub narrowing_word : Narrowing → RuleWord
narrowing_word (by_range j) = pull_word
narrowing_word (by_off_range j) = push_word
narrowing_word (by_combination ms) = combine_word

-- where the narrowing leaves nothing
abbrev pub voiding_word : Narrowing → RuleWord
voiding_word (by_range j) = void_word
voiding_word (by_off_range j) = void_no_word
voiding_word (by_combination ms) = void_combine_word

abbrev pub ending_word : Ending → RuleWord
ending_word (void_by n) = voiding_word n
ending_word (by_squares ms bs) = void_squares_word
ending_word false_form = false_word
ending_word (by_lemma i) = by_word

abbrev pub marking_word : Marking → RuleWord
marking_word (unit_atom j) = unit_word
marking_word (ban_atom j i) = ban_word

abbrev pub branching_word : Branching → RuleWord
branching_word (cut_axis axis c) = cut_word
branching_word (flip_axis axis) = flip_word
branching_word (case_atom j) = case_word
branching_word (either_group js ks) = either_word

abbrev pub staying_word : Staying → RuleWord
staying_word open_state = open_word
staying_word (stuck_atom j) = stuck_word

abbrev pub word_of : Line → RuleWord
word_of (narrow_by n) = narrowing_word n
word_of (end_by e) = ending_word e
word_of (mark_by m) = marking_word m
word_of (branch_by b) = branching_word b
word_of (stay_by t) = staying_word t

-- their one spelling
abbrev pub word_text : RuleWord → List ℕ
word_text empty_word = codes "empty"
word_text pull_word = codes "pull"
word_text unit_word = codes "unit"
word_text ban_word = codes "ban"
word_text void_word = codes "void"
word_text push_word = codes "push"
word_text void_no_word = codes "voidno"
word_text false_word = codes "false"
word_text by_word = codes "by"
word_text cut_word = codes "cut"
word_text flip_word = codes "flip"
word_text case_word = codes "case"
word_text either_word = codes "either"
word_text open_word = codes "open"
word_text stuck_word = codes "stuck"
word_text combine_word = codes "comb"
word_text void_combine_word = codes "voidcomb"
word_text void_squares_word = codes "voidpos"

-- ---- operands

-- what stands behind the first word
pub data Operands : Type 0 where
  of_nothing : Operands
  of_atom : ℕ → Operands
  of_lemma : ℕ → Operands
  of_atom_lemma : ℕ → ℕ → Operands
  of_axis : ℕ → Operands
  of_axis_place : ℕ → Dyadic → Operands
  of_multipliers : Multipliers → Operands
  of_squares : Multipliers → List Block → Operands
  of_groups : List ℕ → List ℕ → Operands

abbrev pub narrowing_operands : Narrowing → Operands
narrowing_operands (by_range j) = of_atom j
narrowing_operands (by_off_range j) = of_atom j
narrowing_operands (by_combination ms) = of_multipliers ms

abbrev pub ending_operands : Ending → Operands
ending_operands (void_by n) = narrowing_operands n
ending_operands (by_squares ms bs) = of_squares ms bs
ending_operands false_form = of_nothing
ending_operands (by_lemma i) = of_lemma i

abbrev pub marking_operands : Marking → Operands
marking_operands (unit_atom j) = of_atom j
marking_operands (ban_atom j i) = of_atom_lemma j i

abbrev pub branching_operands : Branching → Operands
branching_operands (cut_axis axis c) = of_axis_place axis c
branching_operands (flip_axis axis) = of_axis axis
branching_operands (case_atom j) = of_atom j
branching_operands (either_group js ks) = of_groups js ks

abbrev pub staying_operands : Staying → Operands
staying_operands open_state = of_nothing
staying_operands (stuck_atom j) = of_atom j

abbrev pub operands_of : Line → Operands
operands_of (narrow_by n) = narrowing_operands n
operands_of (end_by e) = ending_operands e
operands_of (mark_by m) = marking_operands m
operands_of (branch_by b) = branching_operands b
operands_of (stay_by t) = staying_operands t

-- the lines that a word leads, by their operands
pub data Form : Type 0 where
  with_none : Line → Form
  with_number : (ℕ → Line) → Form
  with_numbers : (ℕ → ℕ → Line) → Form
  with_place : (ℕ → Dyadic → Line) → Form
  with_multipliers : (Multipliers → Line) → Form
  with_squares : (Multipliers → List Block → Line) → Form
  with_groups : (List ℕ → List ℕ → Line) → Form

-- each rule's word with its lines
abbrev pub rule_forms : List (RuleWord × Form)
rule_forms =
    (pull_word, with_number pull) ∷ (unit_word, with_number unit) ∷ (void_word, with_number void) ∷ (push_word, with_number push) ∷ (void_no_word, with_number void_no) ∷
    (case_word, with_number case) ∷ (stuck_word, with_number stuck) ∷ (by_word, with_number by) ∷ (ban_word, with_numbers ban) ∷ (cut_word, with_place cut) ∷ (flip_word, with_number flip) ∷
    (combine_word, with_multipliers combine) ∷ (void_combine_word, with_multipliers void_combine) ∷ (void_squares_word, with_squares void_squares) ∷ (either_word, with_groups either) ∷ (false_word, with_none make_false) ∷ (open_word, with_none open_line) ∷ []
