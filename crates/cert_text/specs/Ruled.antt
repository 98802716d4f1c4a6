-- Lines of trees that are appended to a text, by their first words and their operands.
use Rattle.std.specs.Prelude.{◌≡◌, ℕ, ◌<◌, ◌≤◌, ◌*◌, List, [], ◌∷◌, ◌++◌, length, Bool, IsTrue}
use Rattle.std.specs.List.{AllByRecursion, list_all}
use Rattle.dyadic.specs.Views.{dyadic_of}
use Rattle.cover_line.specs.Line.{Block, Line, branch_by}
use Rattle.cover_line.specs.Views.{multipliers_of, blocks_of}
use Rattle.cover_line.specs.Words.{RuleWord, word_text, Operands, of_nothing, of_atom, of_lemma, of_atom_lemma, of_axis, of_axis_place, of_multipliers, of_squares, of_groups, branching_operands}
use Rattle.cover_model.specs.Rules.{most_choices}
use Rattle.square_model.specs.Block.{are_rows}
use Rattle.square_model.specs.Positive.{all_numbers, most_numbers}
use Rattle.cert_read.specs.LineText.{operand_words, IsCount, IsSpelledFactor, AreSpelledOperands}
use Rattle.cert_text.specs.declared.operands.Operands.{Operands as CodeOperands}
use Rattle.cert_text.specs.declared.operands.Operands.TheVariants as operands

abbrev pub operands_in : CodeOperands → Operands
operands_in operands.Nothing = of_nothing
operands_in (operands.Atom j) = of_atom j
operands_in (operands.Lemma i) = of_lemma i
operands_in (operands.AtomLemma j i) = of_atom_lemma j i
operands_in (operands.Axis axis) = of_axis axis
operands_in (operands.AxisPlace axis c) = of_axis_place axis (dyadic_of c)
operands_in (operands.Multipliers pairs) = of_multipliers (multipliers_of pairs.now)
operands_in (operands.Squares pairs blocks) = of_squares (multipliers_of pairs.now) (blocks_of blocks.now)
operands_in (operands.Groups first second) = of_groups first.now second.now

-- each word with a space before it
abbrev pub after_spaces : List (List ℕ) → List ℕ
after_spaces [] = []
after_spaces (w ∷ ws) = 32 ∷ (w ++ after_spaces ws)

-- a row for each monomial
abbrev pub has_rows : Block → Bool
has_rows b = are_rows b.monomials b.rows

-- from 1 to 512 pairs, where they are pairs; at most 8,000 numbers, where they are those of squares; at most 64 atoms in a group
abbrev pub HasFewPairs : Operands → Type 0
HasFewPairs (of_multipliers ps) = (0 < length ps) × (length ps ≤ 512)
HasFewPairs (of_squares ms bs) = (all_numbers ms bs ≤ most_numbers) × IsTrue (list_all has_rows bs)
HasFewPairs (of_groups js ks) = (length js ≤ most_choices) × (length ks ≤ most_choices)
HasFewPairs o = Unit {0}

-- the same of a branch
abbrev pub HasFewGroups : Line → Type 0
HasFewGroups (branch_by b) = HasFewPairs (branching_operands b)
HasFewGroups l = Unit {0}

-- its axes are plain numbers
pub record HasCounts (b : Block) : Type 0 where
  pub factor : IsSpelledFactor b.factor
  pub monomials : AllByRecursion (AllByRecursion IsCount) b.monomials

-- the new text is the old one and these words behind it, each after a space, of which none is long
pub record HasWords (old : List ℕ) (ws : List (List ℕ)) (new : List ℕ) : Type 0 where
  pub written : new ≡ old ++ after_spaces ws
  pub short : length (after_spaces ws) ≤ length ws * 65

-- the new text is the old one and these operands behind it, which can be spelled and are short where they are few
pub record HasOperands (old : List ℕ) (o : Operands) (new : List ℕ) : Type 0 where
  pub written : new ≡ old ++ after_spaces (operand_words o)
  pub spelled : HasFewPairs o → AreSpelledOperands o
  pub short : HasFewPairs o → length (after_spaces (operand_words o)) ≤ 520000

-- the same with the line's first word and its end
pub record HasRuled (old : List ℕ) (w : RuleWord) (o : Operands) (new : List ℕ) : Type 0 where
  pub written : new ≡ old ++ ((word_text w ++ after_spaces (operand_words o)) ++ (10 ∷ []))
  pub spelled : HasFewPairs o → AreSpelledOperands o
  pub short : HasFewPairs o → length (after_spaces (operand_words o)) ≤ 520000
