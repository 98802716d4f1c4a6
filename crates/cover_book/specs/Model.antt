-- The book of a cover as plain data: its nodes, its lemmas, its branches and its point.
use Rattle.std.specs.Prelude.{◌≡◌, ℕ, suc, ◌+◌, List, [], ◌∷◌, ◌++◌, length, map, true, cond, is_some, Option, Some, None}
use Rattle.interval_model.specs.Space.{Space}
use Rattle.poly_graph.specs.Problem.{Problem, first_crossed}
use Rattle.poly_graph.specs.ProblemViews.{Parts, problem_of}
use Rattle.cover_model.specs.State.{State, Loosenings, root_state}
use Rattle.cover_model.specs.Rules.{Line}
use Rattle.cover_data.specs.declared.margins.Options.{Options}
pub use Rattle.cover_data.specs.Margins.{margins_of}
use Rattle.cover_data.specs.Margins.{loosenings_of, options_in}
use Rattle.cover_data.specs.Models.{LemmaModel}
use Rattle.cert_model.specs.Session.{kept_by}

-- a state that no point which meets the form is of, with the lines that close it: steps, and the end
pub record LearnedLemma : Type 0 where
  pub state : State
  pub steps : List Line
  pub end : Line

-- a box of the cover; the lines of one that is closed, parted or stuck are those that were committed: steps, and the end
pub data NodeModel : Type 0 where
  -- nothing is committed to this state yet
  live_node : State → NodeModel
  -- the bounds of this axis cross, so there is nothing to cover
  crossed_node : ℕ → NodeModel
  closed_node : List Line → Line → NodeModel
  -- in two, of which the first has this number and the second the next
  parted_node : List Line → Line → ℕ → NodeModel
  -- in the state that the steps reach
  stuck_node : List Line → Line → State → NodeModel

-- The state in which node 0 begins; nodes by their numbers; and lemmas: the states of those that the book opened with have the first numbers, in
-- order, and those that were learned since have the next.
pub record BookModel : Type 0 where
  pub problem : Parts
  pub options : Options
  pub root : State
  pub nodes : List NodeModel
  pub kept : List State
  pub lemmas : List LearnedLemma
  pub branches : ℕ
  pub point : Option Space

-- ---- what the book is for, which no call changes

abbrev pub problem_in : BookModel → Problem
problem_in b = problem_of b.problem

abbrev pub loosenings_in : BookModel → Loosenings
loosenings_in b = loosenings_of (margins_of b.options)

-- the book is one of the whole declared box
abbrev pub IsOfRoot : BookModel → Type 0
IsOfRoot b = b.root ≡ root_state (problem_in b)

-- ---- lemmas

abbrev pub learned_states : List LearnedLemma → List State
learned_states lemmas = map (λ (x : LearnedLemma). x.state) lemmas

abbrev pub lemma_states_in : BookModel → List State
lemma_states_in b = b.kept ++ learned_states b.lemmas

-- how many lemmas there are
abbrev pub lemma_count : BookModel → ℕ
lemma_count b = length b.kept + length b.lemmas

abbrev pub numbered_from : ℕ → List State → List LemmaModel
numbered_from i [] = []
numbered_from i (L ∷ lemmas) = record { id = i; state = L } ∷ numbered_from (suc i) lemmas

-- the lemmas with their numbers
abbrev pub numbered : BookModel → List LemmaModel
numbered b = numbered_from 0 (lemma_states_in b)

-- ---- the book as it opens

abbrev pub first_node : Option ℕ → State → NodeModel
first_node None S = live_node S
first_node (Some i) S = crossed_node i

-- with these lemmas, node 0 is live in the root state; where bounds cross, it is closed by the first axis whose bounds do
abbrev pub opening_with : Parts → Options → List State → BookModel
opening_with p o kept = record {
  problem = p;
  options = o;
  root = root_state (problem_of p);
  nodes = first_node (first_crossed (problem_of p)) (root_state (problem_of p)) ∷ [];
  kept = kept;
  lemmas = [];
  branches = 0;
  point = None;
}

-- with these lemmas, node 0 is live in this state
abbrev pub opening_at : Parts → Options → List State → State → BookModel
opening_at p o kept S = record {
  problem = p;
  options = o;
  root = S;
  nodes = live_node S ∷ [];
  kept = kept;
  lemmas = [];
  branches = 0;
  point = None;
}

abbrev pub opening : Parts → Options → BookModel
opening p o = opening_with p o []

-- The lemmas of a book as states of a problem that goes on from its own, each new axis having its whole domain in them. There are none where
-- the book keeps a point, or where a declared box is empty.
abbrev pub kept_from : BookModel → Parts → List State
kept_from b q = cond (is_some b.point) [] (kept_by true (problem_in b) (lemma_states_in b) (problem_of q))

-- the same book in version 5
abbrev pub raised : BookModel → BookModel
raised b = record b { options = options_in 5 b.options }
