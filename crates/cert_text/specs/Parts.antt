-- The parts of a certificate, as the code writes them.
use Rattle.std.specs.Prelude.{◌≡◌, ℕ, ◌+◌, ◌<◌, ◌≤◌, ◌^◌, ◌⊎◌, List, [], ◌∷◌, ◌++◌, map, length, Option, Some, slice_get}
use Rattle.interval_model.specs.Space.{Space}
use Rattle.cover_model.specs.State.{Loosenings}
use Rattle.cover_model.specs.Rules.{Line, open_line}
use Rattle.cover_model.specs.Derivation.{Tree, tree_lines}
use Rattle.cover_data.specs.Views.{step_line, end_line}
use Rattle.cover_book.specs.declared.node.Lines.{Lines}
use Rattle.cover_book.specs.declared.node.Learned.{Learned}
use Rattle.cover_book.specs.Model.{NodeModel, live_node, crossed_node, closed_node, parted_node, stuck_node}
use Rattle.cover_book.specs.Views.{learned_of}
use Rattle.cover_book.specs.Tree.{TreeOf, lemma_tree}
use Rattle.cert_read.specs.CertLine.{CertLine, version, margin, delta, bound, point_word, end_word, rule_line, crossing}
use Rattle.cert_model.specs.Due.{Standing}
use Rattle.cert_model.specs.Written.{rule_lines, lemmas_lines, point_line}
use Rattle.cert_text.specs.Lines.{HasAppended, most_atoms}
use Rattle.cert_text.specs.Ruled.{HasFewGroups}

abbrev pub header_lines : Loosenings → Option ℕ → List CertLine
header_lines s b = version s.version ∷ margin s.margin_bits ∷ delta s.delta_bits ∷ bound b ∷ []

-- steps, and the end
abbrev pub kept_lines : Lines → List Line
kept_lines ls = map step_line ls.steps.items ++ (end_line ls.end ∷ [])

-- ---- lemmas

-- a lemma with at most so many marks, and few atoms where its end is a branch
pub record HasShortLines (x : Learned) : Type 0 where
  pub marks : length x.state.marks ≤ most_atoms
  pub end : HasFewGroups (end_line x.lines.end)

-- the lines of these lemmas, numbered from this on
abbrev pub learned_lines : ℕ → List Learned → List CertLine
learned_lines first xs = lemmas_lines first (map lemma_tree (map learned_of xs))

-- ---- points

-- the lines of a point, from the first to the end
abbrev pub whole_point : Space → List CertLine
whole_point space = point_word ∷ (map point_line space ++ (end_word ∷ []))

-- ---- nodes

-- the lines of a node of a tree
abbrev pub node_lines : NodeModel → List CertLine
node_lines (live_node S) = rule_line open_line ∷ []
node_lines (crossed_node i) = []
node_lines (closed_node steps l) = rule_lines (steps ++ (l ∷ []))
node_lines (parted_node steps l c) = rule_lines (steps ++ (l ∷ []))
node_lines (stuck_node steps l S) = rule_lines (steps ++ (l ∷ []))

-- a node whose end has few atoms, where it is a branch
abbrev pub HasShortEnd : NodeModel → Type 0
HasShortEnd (closed_node steps l) = HasFewGroups l
HasShortEnd (parted_node steps l c) = HasFewGroups l
HasShortEnd (stuck_node steps l S) = HasFewGroups l
HasShortEnd x = Unit {0}

-- what a node itself leaves, with its line
abbrev pub node_left : NodeModel → List Standing
node_left (live_node S) = record { state = S; does = open_line } ∷ []
node_left (crossed_node i) = []
node_left (closed_node steps l) = []
node_left (parted_node steps l c) = []
node_left (stuck_node steps l S) = record { state = S; does = l } ∷ []

-- the nodes that wait behind it: the first part is taken before the second
abbrev pub kids : NodeModel → List ℕ
kids (parted_node steps l c) = (c + 1) ∷ c ∷ []
kids x = []

-- the last of the nodes that wait is taken, and it is this one
pub record IsNextTaken (nodes : List NodeModel) (old new : List ℕ) (x : NodeModel) : Type 0 where
  pub number : ℕ
  pub last : old ≡ new ++ (number ∷ [])
  pub there : slice_get nodes number ≡ Some x

-- none waits, or the last that does is no node
abbrev pub HasNothingNext : List NodeModel → List ℕ → Type 0
HasNothingNext nodes old = (old ≡ []) ⊎ ((rest : List ℕ) × (n : ℕ) × (old ≡ rest ++ (n ∷ [])) × (length nodes ≤ n))

-- the lines of any tree of these nodes were appended
abbrev pub HasAppendedTree : List ℕ → List NodeModel → List ℕ → Type 0
HasAppendedTree old nodes new = (t : Tree) (numbers : List ℕ) (left : List Standing) → TreeOf nodes 0 t numbers left → length numbers ≤ length nodes →
    HasAppended old (rule_lines (tree_lines t)) new

-- the same; where a node alone says that the bounds of an axis cross, the line that says so was appended
pub record HasAppendedCover (old : List ℕ) (nodes : List NodeModel) (new : List ℕ) : Type 0 where
  pub crossing : (i : ℕ) → nodes ≡ crossed_node i ∷ [] → HasAppended old (crossing i ∷ []) new
  pub tree : HasAppendedTree old nodes new

-- the number of such an axis is below 2^32
abbrev pub IsCountedCrossing : List NodeModel → Type 0
IsCountedCrossing nodes = (i : ℕ) → nodes ≡ crossed_node i ∷ [] → i < 2 ^ 32
