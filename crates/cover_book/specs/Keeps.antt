-- What holds of every book: its runs are lawful, its tree covers the state in which it opened, and its nodes are those of the tree.
use Rattle.std.specs.Prelude.{◌≡◌, ◌⊎◌, ℕ, suc, ◌+◌, ◌<◌, ◌≤◌, List, [], ◌∷◌, All, length, false, Some, None, IfSome, IsTrue, slice_get}
use Rattle.poly_graph.specs.Problem.{Problem, first_crossed}
use Rattle.poly_graph.specs.ProblemViews.{IsWhole}
use Rattle.interval_model.specs.Space.{Space}
use Rattle.cover_model.specs.Space.{IsGridSpace}
use Rattle.cover_model.specs.State.{State, Loosenings, IsLemma, root_state, covers}
use Rattle.cover_model.specs.Rules.{Line, open_line}
use Rattle.cover_model.specs.Derivation.{Tree}
use Rattle.cover_model.specs.Fits.{FitsProblem, IsShownAt}
use Rattle.cover_data.specs.declared.margins.Margins.{Margins}
use Rattle.cover_data.specs.Models.{KeptModel}
use Rattle.cover_data.specs.Runs.{AreKept, is_closing, children, IsRun}
use Rattle.cert_model.specs.Due.{Standing}
use Rattle.cert_model.specs.Written.{AreLemmaTrees, tree_branches}
use Rattle.cover_book.specs.Model.{LearnedLemma, NodeModel, live_node, crossed_node, closed_node, parted_node, stuck_node, BookModel, problem_in, margins_of, loosenings_in, lemma_states_in, lemma_count}
use Rattle.cover_book.specs.Limits.{IsWithinLimits}
use Rattle.cover_book.specs.Steps.{most_lemmas}
use Rattle.cover_book.specs.Tree.{TreeOf, occurrences, lemma_trees}

-- a run for the problem that begins at a state and has these lines, of which the last is no open one; the lemmas that it quotes are among these, and its numbers are kept ones
pub record HasRun (p : Problem) (m : Margins) (lemmas : List State) (S : State) (lines : List Line) (last : Line) : Type 0 where
  pub run : KeptModel
  pub first : run.first ≡ S
  pub steps : run.steps ≡ lines
  pub end : run.end ≡ Some last
  pub known : AreKept lemmas run.quoted
  pub is_run : IsRun p m run
  pub grid : IsGridSpace run.reached.space
  pub not_open : last ≡ open_line → ⊥

-- what stands behind a node that began at a state, where `firsts` are the states at which the nodes began
abbrev pub IsNodeOf : Problem → Margins → List State → List State → State → NodeModel → Type 0
IsNodeOf p m lemmas firsts S (live_node T) = S ≡ T
IsNodeOf p m lemmas firsts S (crossed_node i) = ⊥
IsNodeOf p m lemmas firsts S (closed_node steps l) = HasRun p m lemmas S steps l × IsTrue (is_closing l)
IsNodeOf p m lemmas firsts S (stuck_node steps l T) = (h : HasRun p m lemmas S steps l) × (h.run.reached ≡ T) × (is_closing l ≡ false) × (children l T ≡ None)
IsNodeOf p m lemmas firsts S (parted_node steps l c) = (h : HasRun p m lemmas S steps l) × (T : State) × (U : State) × (children l h.run.reached ≡ Some (T, U)) × (slice_get firsts c ≡ Some T) × (slice_get firsts (suc c) ≡ Some U)

-- the declared box is not empty: the nodes are those of a tree that begins in the book's first state, each once, and it has as many branch lines as are counted
pub record IsCovered (b : BookModel) : Type 0 where
  pub not_crossed : first_crossed (problem_in b) ≡ None
  pub firsts : List State
  pub count : length firsts ≡ length b.nodes
  pub root : slice_get firsts 0 ≡ Some b.root
  pub fits : (n : ℕ) (S : State) → slice_get firsts n ≡ Some S → FitsProblem (problem_in b) S × IsTrue (covers (root_state (problem_in b)) S)
  pub each : (n : ℕ) (S : State) (x : NodeModel) → slice_get firsts n ≡ Some S → slice_get b.nodes n ≡ Some x → IsNodeOf (problem_in b) (margins_of b.options) (lemma_states_in b) firsts S x
  pub tree : Tree
  pub numbers : List ℕ
  pub left : List Standing
  pub is_tree : TreeOf b.nodes 0 tree numbers left
  pub once : (n : ℕ) → n < length b.nodes → occurrences n numbers ≡ 1
  pub branches : tree_branches tree ≡ b.branches

-- the bounds of an axis cross, of the first such one, and nothing was ever to be done; no point is kept
pub record IsCrossed (b : BookModel) : Type 0 where
  pub axis : ℕ
  pub first : first_crossed (problem_in b) ≡ Some axis
  pub nodes : b.nodes ≡ crossed_node axis ∷ []
  pub branches : b.branches ≡ 0
  pub no_point : b.point ≡ None

-- a lemma that a book may open with: a state of the problem of which no point meets the form at the margin
pub record IsKeptLemma (p : Problem) (s : Loosenings) (L : State) : Type 0 where
  pub fits : FitsProblem p L
  pub lemma : IsLemma p s L

-- the lemmas that were learned follow from those that the book opened with
pub record IsBook (b : BookModel) : Type 0 where
  pub whole : IsWhole b.problem
  pub limits : IsWithinLimits b.problem b.options
  pub kept : All (IsKeptLemma (problem_in b) (loosenings_in b)) b.kept
  pub lemmas : AreLemmaTrees (problem_in b) (loosenings_in b) b.kept (lemma_trees b)
  pub lemma_grids : All (λ (x : LearnedLemma). IsGridSpace x.state.space) b.lemmas
  pub few_lemmas : lemma_count b ≤ most_lemmas
  pub budget : b.branches ≤ b.options.budget
  pub count : length b.nodes ≡ suc (b.branches + b.branches)
  pub point : IfSome b.point (λ (x : Space). IsShownAt (problem_in b) (loosenings_in b) x × IsGridSpace x)
  pub nodes : IsCrossed b ⊎ IsCovered b
