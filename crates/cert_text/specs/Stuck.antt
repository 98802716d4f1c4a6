-- The first stuck state of what is left of a tree.
use Rattle.std.specs.Prelude.{◌≡◌, ℕ, ◌≤◌, List, [], ◌∷◌, length, Bool, true, false, cond, Option, Some, None}
use Rattle.std.specs.List.{list_any}
use Rattle.cover_model.specs.State.{State}
use Rattle.cover_model.specs.Rules.{Line, stuck, stay_by, stuck_atom}
use Rattle.cover_model.specs.Derivation.{Tree}
use Rattle.cert_model.specs.Due.{Standing}
use Rattle.cover_book.specs.Model.{NodeModel, stuck_node, BookModel}
use Rattle.cover_book.specs.Verdict.{is_stuck, has_live, has_stuck}
use Rattle.cover_book.specs.Tree.{TreeOf}
use Rattle.cover_book.specs.Laws.{IsTreeOfBook}

abbrev pub is_stuck_line : Line → Bool
is_stuck_line (stay_by (stuck_atom j)) = true
is_stuck_line l = false

-- the first state of these with a line that says that it is stuck
abbrev pub first_stuck : List Standing → Option Standing
first_stuck [] = None
first_stuck (x ∷ rest) = cond (is_stuck_line x.does) (Some x) (first_stuck rest)

-- the state, stuck at this atom
abbrev pub stuck_at : ℕ → State → Standing
stuck_at j S = record { state = S; does = stuck j }

-- ---- of nodes

-- the node is stuck at this atom in this state
abbrev pub IsStuckNode : NodeModel → ℕ → State → Type 0
IsStuckNode n j S = (steps : List Line) × (n ≡ stuck_node steps (stuck j) S)

-- of each tree of these nodes this state is the first stuck one
pub record IsFirstStuckState (nodes : List NodeModel) (j : ℕ) (S : State) : Type 0 where
  pub some : list_any is_stuck nodes ≡ true
  pub first : (t : Tree) (numbers : List ℕ) (left : List Standing) → TreeOf nodes 0 t numbers left → length numbers ≤ length nodes → first_stuck left ≡ Some (stuck_at j S)

-- no tree of these nodes has a stuck state
abbrev pub HasNoStuckState : List NodeModel → Type 0
HasNoStuckState nodes = (t : Tree) (numbers : List ℕ) (left : List Standing) → TreeOf nodes 0 t numbers left → length numbers ≤ length nodes → first_stuck left ≡ None

-- ---- of a book

-- a node is stuck, and of what is left of the book's tree this is the first stuck state; where no node is live, it is the first of all
pub record IsFirstStuck (b : BookModel) (j : ℕ) (S : State) : Type 0 where
  pub some : has_stuck b ≡ true
  pub first : (t : Tree) (left : List Standing) → IsTreeOfBook b t left → first_stuck left ≡ Some (stuck_at j S)
  pub ahead : has_live b ≡ false → (t : Tree) (left : List Standing) → IsTreeOfBook b t left → (rest : List Standing) × (left ≡ stuck_at j S ∷ rest)
