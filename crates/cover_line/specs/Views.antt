-- The code's rules and words as the definitions see them.
use Rattle.std.specs.Prelude.{ℕ, List, Vec, map}
use Rattle.std.specs.declared.alloc.Global.{Global}
use Rattle.dyadic.specs.Rounding.{Dyadic}
use Rattle.dyadic.specs.declared.dy.Dy.{Dy}
use Rattle.dyadic.specs.Views.{dyadic_of}
use Rattle.cover_line.specs.Line.{Multipliers, Factor, no_factor, bound_of, Block, Narrowing, by_range, by_off_range, by_combination, Ending, void_by, by_squares, false_form, by_lemma, Marking, unit_atom, ban_atom, Branching, cut_axis, flip_axis, case_atom, either_group, Staying, open_state, stuck_atom, Line, narrow_by, end_by, mark_by, branch_by, stay_by}
use Rattle.cover_line.specs.declared.block.Factor.{Factor as CodeFactor}
use Rattle.cover_line.specs.declared.block.Factor.TheVariants as factor
use Rattle.cover_line.specs.declared.block.Block.{Block as CodeBlock}
use Rattle.cover_line.specs.declared.rule.Narrowing.{Narrowing as CodeNarrowing}
use Rattle.cover_line.specs.declared.rule.Narrowing.TheVariants as narrowing
use Rattle.cover_line.specs.declared.rule.Ending.{Ending as CodeEnding}
use Rattle.cover_line.specs.declared.rule.Ending.TheVariants as ending
use Rattle.cover_line.specs.declared.rule.Marking.{Marking as CodeMarking}
use Rattle.cover_line.specs.declared.rule.Marking.TheVariants as marking
use Rattle.cover_line.specs.declared.rule.Branching.{Branching as CodeBranching}
use Rattle.cover_line.specs.declared.rule.Branching.TheVariants as branching
use Rattle.cover_line.specs.declared.rule.Staying.{Staying as CodeStaying}
use Rattle.cover_line.specs.declared.rule.Staying.TheVariants as staying
use Rattle.cover_line.specs.declared.rule.Rule.{Rule}
use Rattle.cover_line.specs.declared.rule.Rule.TheVariants as rule
use Rattle.cover_line.specs.declared.word.NarrowingKind.{NarrowingKind}
use Rattle.cover_line.specs.declared.word.NarrowingKind.TheVariants as kind
use Rattle.cover_line.specs.declared.word.Word.{Word}
use Rattle.cover_line.specs.declared.word.Word.TheVariants as word
use Rattle.cover_line.specs.Words.{RuleWord, pull_word, push_word, combine_word, void_word, void_no_word, void_combine_word, void_squares_word, false_word, by_word, unit_word, ban_word, cut_word, flip_word, case_word, either_word, open_word, stuck_word, empty_word}

-- a rule's pairs of an atom and its multiplier
abbrev pub multipliers_of : List (ℕ × Dy) → Multipliers
multipliers_of pairs = map (λ x. (x.0, dyadic_of x.1)) pairs

-- ---- squares

abbrev pub factor_of : CodeFactor → Factor
factor_of factor.One = no_factor
factor_of (factor.BoundOf axis) = bound_of axis

abbrev pub axes_of : Vec ℕ Global → List ℕ
axes_of v = v.items

abbrev pub numbers_of : Vec Dy Global → List Dyadic
numbers_of v = map dyadic_of v.items

abbrev pub block_of : CodeBlock → Block
block_of b = record { factor = factor_of b.factor; monomials = map axes_of b.monomials.items; rows = map numbers_of b.rows.items }

abbrev pub blocks_of : List CodeBlock → List Block
blocks_of bs = map block_of bs

-- ---- rules

abbrev pub narrowing_of : CodeNarrowing → Narrowing
narrowing_of (narrowing.Pull j) = by_range j
narrowing_of (narrowing.Push j) = by_off_range j
narrowing_of (narrowing.Combine pairs) = by_combination (multipliers_of pairs.items)

abbrev pub ending_of : CodeEnding → Ending
ending_of (ending.Void n) = void_by (narrowing_of n)
ending_of (ending.Squares pairs blocks) = by_squares (multipliers_of pairs.items) (blocks_of blocks.items)
ending_of ending.False = false_form
ending_of (ending.By i) = by_lemma i

abbrev pub marking_of : CodeMarking → Marking
marking_of (marking.Unit j) = unit_atom j
marking_of (marking.Ban j i) = ban_atom j i

abbrev pub branching_of : CodeBranching → Branching
branching_of (branching.Cut axis c) = cut_axis axis (dyadic_of c)
branching_of (branching.Flip axis) = flip_axis axis
branching_of (branching.Case j) = case_atom j
branching_of (branching.Either js ks) = either_group js.items ks.items

abbrev pub staying_of : CodeStaying → Staying
staying_of staying.Open = open_state
staying_of (staying.Stuck j) = stuck_atom j

abbrev pub line_of : Rule → Line
line_of (rule.Narrow n) = narrow_by (narrowing_of n)
line_of (rule.End e) = end_by (ending_of e)
line_of (rule.Mark m) = mark_by (marking_of m)
line_of (rule.Branch b) = branch_by (branching_of b)
line_of (rule.Stay t) = stay_by (staying_of t)

-- ---- words

abbrev pub kind_word : NarrowingKind → RuleWord
kind_word kind.Pull = pull_word
kind_word kind.Push = push_word
kind_word kind.Combine = combine_word

-- where the narrowing leaves nothing
abbrev pub voiding_kind_word : NarrowingKind → RuleWord
voiding_kind_word kind.Pull = void_word
voiding_kind_word kind.Push = void_no_word
voiding_kind_word kind.Combine = void_combine_word

abbrev pub rule_word : Word → RuleWord
rule_word (word.Narrow k) = kind_word k
rule_word (word.Void k) = voiding_kind_word k
rule_word word.Squares = void_squares_word
rule_word word.False = false_word
rule_word word.By = by_word
rule_word word.Unit = unit_word
rule_word word.Ban = ban_word
rule_word word.Cut = cut_word
rule_word word.Flip = flip_word
rule_word word.Case = case_word
rule_word word.Either = either_word
rule_word word.Open = open_word
rule_word word.Stuck = stuck_word
rule_word word.Empty = empty_word
