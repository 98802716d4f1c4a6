-- The tree of a book: what was committed, and an open line for each live node.
use Rattle.std.specs.Prelude.{◌≡◌, ℕ, suc, List, [], ◌∷◌, ◌++◌, map, cond, Some, nat_eq, slice_get, sum_by}
use Rattle.cover_model.specs.State.{State}
use Rattle.cover_model.specs.Rules.{Line, open_line}
use Rattle.cover_model.specs.Derivation.{Tree, leaf, fork}
use Rattle.cover_data.specs.Runs.{tree_after}
use Rattle.cert_model.specs.Due.{Standing}
use Rattle.cert_model.specs.Written.{LemmaTree, lemma_states}
use Rattle.cover_book.specs.Model.{LearnedLemma, NodeModel, live_node, closed_node, parted_node, stuck_node, BookModel}

-- the tree of a node: its lines, and those of its parts, an open line for a live node; with the numbers of the nodes that it is made of, and, in
-- its order, the states of the live ones and those in which others are stuck, each with its line
pub data TreeOf (nodes : List NodeModel) : ℕ → Tree → List ℕ → List Standing → Type 0 where
  of_live : {n : ℕ} {S : State} → slice_get nodes n ≡ Some (live_node S) → TreeOf nodes n (leaf open_line) (n ∷ []) (record { state = S; does = open_line } ∷ [])
  of_closed : {n : ℕ} {steps : List Line} {l : Line} → slice_get nodes n ≡ Some (closed_node steps l) → TreeOf nodes n (tree_after steps (leaf l)) (n ∷ []) []
  of_stuck : {n : ℕ} {steps : List Line} {l : Line} {S : State} → slice_get nodes n ≡ Some (stuck_node steps l S) →
      TreeOf nodes n (tree_after steps (leaf l)) (n ∷ []) (record { state = S; does = l } ∷ [])
  of_parted : {n c : ℕ} {steps : List Line} {l : Line} {t u : Tree} {ns ms : List ℕ} {xs ys : List Standing} → slice_get nodes n ≡ Some (parted_node steps l c) →
      TreeOf nodes c t ns xs → TreeOf nodes (suc c) u ms ys → TreeOf nodes n (tree_after steps (fork l t u)) (n ∷ (ns ++ ms)) (xs ++ ys)

-- how often a number stands in a list
abbrev pub occurrences : ℕ → List ℕ → ℕ
occurrences n numbers = sum_by (λ i. cond (nat_eq i n) 1 0) numbers

-- ---- lemmas

abbrev pub lemma_tree : LearnedLemma → LemmaTree
lemma_tree x = record { state = x.state; tree = tree_after x.steps (leaf x.end) }

abbrev pub lemma_trees : BookModel → List LemmaTree
lemma_trees b = map lemma_tree b.lemmas

-- the states of all lemmas, as a certificate has them
abbrev pub cover_lemmas : BookModel → List State
cover_lemmas b = b.kept ++ lemma_states (lemma_trees b)
