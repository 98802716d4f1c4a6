-- What every call keeps, and what it means.
use Rattle.std.specs.Prelude.{◌≡◌, ◌<◌, ◌⊎◌, ℕ, ◌+◌, ◌≤◌, List, All, length, false, Some, None, IsTrue, slice_get}
use Rattle.dyadic.specs.Point.{Coordinate, IsPoint}
use Rattle.poly_graph.specs.Problem.{sorts_of_problem, in_declared_box, first_crossed}
use Rattle.poly_graph.specs.ProblemViews.{Parts, IsWhole, problem_of}
use Rattle.cover_model.specs.Carried.{GoesOnFrom}
use Rattle.cover_model.specs.Root.{root_space}
use Rattle.cover_model.specs.State.{State, IsPointOf, MeetsForm, root_state, covers}
use Rattle.interval_model.specs.Space.{space_within}
use Rattle.cover_model.specs.Rules.{Line, open_line}
use Rattle.cover_model.specs.Honest.{is_honest, not_shown}
use Rattle.cover_model.specs.Derivation.{Tree, Lawful}
use Rattle.cover_model.specs.Fits.{FitsProblem}
use Rattle.cover_data.specs.Margins.{loosenings_of}
use Rattle.cover_data.specs.declared.margins.Options.{Options}
use Rattle.cert_model.specs.Due.{Standing}
use Rattle.cert_model.specs.Written.{left_standing, tree_standing, tree_branches, IsHonestTree, NamesWell, AreLemmaTrees}
use Rattle.cert_model.specs.Accepted.{is_header, most_lemmas}
use Rattle.cert_model.specs.Laws.{IsLawfulCover}
use Rattle.cover_book.specs.declared.calls.Call.{Call}
use Rattle.cover_book.specs.declared.calls.Reply.{Reply}
use Rattle.cover_book.specs.Model.{NodeModel, stuck_node, BookModel, problem_in, margins_of, loosenings_in, IsOfRoot, lemma_states_in, opening, opening_with, opening_at, kept_from, raised}
use Rattle.cover_book.specs.Verdict.{is_live}
use Rattle.cover_book.specs.Steps.{MayBeCalled, BookStep, IsLive}
use Rattle.cover_book.specs.Tree.{TreeOf, occurrences, lemma_trees, cover_lemmas}
use Rattle.cover_book.specs.Limits.{IsWithinLimits}
use Rattle.cover_book.specs.Keeps.{IsBook, IsKeptLemma}

-- A book opens as one.
abbrev pub OpeningIsBook : Type 0
OpeningIsBook = (p : Parts) (o : Options) → IsWhole p → IsWithinLimits p o → IsBook (opening p o)

-- So does one with the lemmas of a book whose problem the new one goes on from.
abbrev pub CarriedIsBook : Type 0
CarriedIsBook = (b : BookModel) → IsBook b → (q : Parts) → IsWhole q → IsWithinLimits q b.options → GoesOnFrom (problem_in b) (problem_of q) →
    IsBook (opening_with q b.options (kept_from b q))

-- So does one in any state of the problem within the root, with lemmas of the problem.
abbrev pub RootedIsBook : Type 0
RootedIsBook = (p : Parts) (o : Options) (kept : List State) (S : State) → IsWhole p → IsWithinLimits p o → length kept ≤ most_lemmas →
    All (IsKeptLemma (problem_of p) (loosenings_of (margins_of o))) kept → FitsProblem (problem_of p) S → IsTrue (covers (root_state (problem_of p)) S) →
    first_crossed (problem_of p) ≡ None → IsBook (opening_at p o kept S)

-- A book is one in version 5, too.
abbrev pub RaisedIsBook : Type 0
RaisedIsBook = (b : BookModel) → IsBook b → IsBook (raised b)

-- All lemmas of a book are such as another one of its problem may open with.
abbrev pub LemmasMayBeKept : Type 0
LemmasMayBeKept = (b : BookModel) → IsBook b → All (IsKeptLemma (problem_in b) (loosenings_in b)) (lemma_states_in b)

-- Every call keeps it one.
abbrev pub StepKeepsBook : Type 0
StepKeepsBook = (b : BookModel) → IsBook b → (c : Call) → MayBeCalled b c → (r : Reply) (b' : BookModel) → BookStep b c r b' → IsBook b'

-- No call changes the problem, the options, or what the book opened with.
abbrev pub StepKeepsProblem : Type 0
StepKeepsProblem = (b : BookModel) (c : Call) (r : Reply) (b' : BookModel) → BookStep b c r b' → (b'.problem ≡ b.problem) × (b'.options ≡ b.options) × (b'.kept ≡ b.kept) × (b'.root ≡ b.root)

-- So the condition of a call outlasts every call.
abbrev pub ConditionLasts : Type 0
ConditionLasts = (b : BookModel) (c : Call) (r : Reply) (b' : BookModel) (d : Call) → BookStep b c r b' → MayBeCalled b d → MayBeCalled b' d

-- No number is used again, and a node that is not live stays as it is, so it leaves being live at most once.
pub record IsLaterBook (b b' : BookModel) : Type 0 where
  pub count : length b.nodes ≤ length b'.nodes
  pub lasting : (n : ℕ) (x : NodeModel) → slice_get b.nodes n ≡ Some x → is_live x ≡ false → slice_get b'.nodes n ≡ Some x

abbrev pub StepGrows : Type 0
StepGrows = (b : BookModel) (c : Call) (r : Reply) (b' : BookModel) → BookStep b c r b' → IsLaterBook b b'

-- a node is live in this state, or stuck in it
abbrev pub IsLeft : BookModel → ℕ → State → Type 0
IsLeft b n S = IsLive b n S ⊎ ((steps : List Line) × (l : Line) × (slice_get b.nodes n ≡ Some (stuck_node steps l S)))

-- Each point of the declared box that meets the form at the margin is one of a live or stuck node's state, in a book of the whole box.
abbrev pub BookCatches : Type 0
BookCatches = (b : BookModel) → IsBook b → IsOfRoot b → (point : List Coordinate) → IsPoint (sorts_of_problem (problem_in b)) point → IsTrue (in_declared_box (problem_in b) point) →
    MeetsForm (problem_in b) (loosenings_in b) point → (n : ℕ) × (S : State) × IsLeft b n S × IsPointOf (problem_in b) (loosenings_in b) S point

-- The state of a live or stuck node is one of the problem, and its space lies within the root's.
abbrev pub NodesLieWithin : Type 0
NodesLieWithin = (b : BookModel) → IsBook b → (n : ℕ) (S : State) → IsLeft b n S → FitsProblem (problem_in b) S × IsTrue (space_within S.space (root_space (problem_in b)))

-- ---- the tree

-- a tree of the book, which begins in the book's first state, as a certificate of its lemmas and this tree has it
pub record IsTreeOfBook (b : BookModel) (t : Tree) (left : List Standing) : Type 0 where
  pub numbers : List ℕ
  pub is_tree : TreeOf b.nodes 0 t numbers left
  pub loosenings : IsTrue (is_header (loosenings_in b))
  pub few : length b.kept + length (lemma_trees b) ≤ most_lemmas
  pub lemmas : AreLemmaTrees (problem_in b) (loosenings_in b) b.kept (lemma_trees b)
  pub not_crossed : first_crossed (problem_in b) ≡ None
  pub states : List State
  pub lawful : Lawful (problem_in b) (loosenings_in b) (cover_lemmas b) b.root t states
  pub names : NamesWell (problem_in b) t
  pub stands : left_standing (problem_in b) (loosenings_in b) (cover_lemmas b) b.root t ≡ left
  pub branches : tree_branches t ≡ b.branches
  -- each node is one of the tree, once
  pub once : (n : ℕ) → n < length b.nodes → occurrences n numbers ≡ 1
  -- each line but an open one is honest
  pub honest : All (λ (x : Standing). (x.does ≡ open_line → ⊥) → IsTrue (is_honest (problem_in b) b.options.least_bits (loosenings_in b) x.state x.does))
      (tree_standing (problem_in b) (loosenings_in b) (cover_lemmas b) b.root t)

-- Where the declared box is not empty, the book has a lawful tree, of as many branch lines as it counts, all of whose lines but the open ones are honest.
abbrev pub BookHasTree : Type 0
BookHasTree = (b : BookModel) → IsBook b → first_crossed (problem_in b) ≡ None → (t : Tree) × (left : List Standing) × IsTreeOfBook b t left

-- It is honest where at each live node the form may hold and is not sure at the middle.
abbrev pub TreeIsHonest : Type 0
TreeIsHonest = (b : BookModel) → IsBook b → (t : Tree) (left : List Standing) → IsTreeOfBook b t left →
    ((n : ℕ) (S : State) → IsLive b n S → IsTrue (not_shown (problem_in b) (loosenings_in b) S)) →
    IsHonestTree (problem_in b) b.options.least_bits (loosenings_in b) (cover_lemmas b) b.root t

-- The tree of a book of the whole box is a lawful cover with the book's lemmas.
abbrev pub RootedTreeIsCover : Type 0
RootedTreeIsCover = (b : BookModel) (t : Tree) (left : List Standing) → IsOfRoot b → IsTreeOfBook b t left →
    IsLawfulCover (problem_in b) (loosenings_in b) b.kept (lemma_trees b) t
