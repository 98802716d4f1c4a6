-- The states of a tree that are in work, and what a rule leaves of one.
use Rattle.std.specs.Prelude.{ℕ, ◌+◌, List, [], ◌∷◌, All, Bool, true, false, Option, Some, None, Result, IfOk}
use Rattle.cover_model.specs.State.{State}
use Rattle.cover_model.specs.Rules.{Left, closed, one, two, stays}
use Rattle.poly_graph.specs.ProblemViews.{Parts}
use Rattle.cert_check.specs.declared.standing.Lemma as code
use Rattle.cert_check.specs.declared.pending.Pending.{Pending}
use Rattle.cert_check.specs.declared.left.Left as code-left
use Rattle.cert_check.specs.declared.due.Due.{Due}
use Rattle.cert_check.specs.declared.due.Tree.{Tree}
use Rattle.cert_check.specs.declared.refusal.Refusal.{Refusal}
use Rattle.cert_check.specs.States.{state_of, lemma_of, Fits}
use Rattle.cert_check.specs.Behind.{pending_of}
use Rattle.cert_check.specs.Steps.{left_of}
use Rattle.cert_check.specs.Dues.{AllFit, IsSound}

-- the states of what is left, in the order of the tree
abbrev pub left_states : Left → List State
left_states closed = []
left_states (one S) = S ∷ []
left_states (two S T) = S ∷ T ∷ []
left_states stays = []

-- the state where the next line stands, and those behind it; none where the tree is complete
abbrev pub waiting : Option Tree → List State
waiting None = []
waiting (Some t) = state_of t.state ∷ pending_of t.pending

abbrev pub counted_stays : ℕ → Left → ℕ
counted_stays n stays = n + 1
counted_stays n l = n

-- each state that is left has a domain for each axis and a mark for each atom
abbrev pub FitsLeft : Parts → Option Left → Type 0
FitsLeft p (Some (one S)) = Fits p S
FitsLeft p (Some (two S T)) = Fits p S × Fits p T
FitsLeft p _ = Unit {0}

-- what is due in the main tree behind a rule that left this has these domains and marks, where the states before it have them
abbrev pub IsSoundBehind : List State → Pending → code-left.Left → Result Due Refusal → Type 0
IsSoundBehind lemmas pending left r =
    (p : Parts) → AllFit p lemmas → All (Fits p) (pending_of pending) → FitsLeft p (Some (left_of left)) → IfOk r (IsSound p)

-- and in the tree of a lemma
abbrev pub IsSoundInLemma : List State → code.Lemma → Pending → code-left.Left → Result Due Refusal → Type 0
IsSoundInLemma lemmas lemma pending left r =
    (p : Parts) → AllFit p lemmas → Fits p (lemma_of lemma) → All (Fits p) (pending_of pending) → FitsLeft p (Some (left_of left)) → IfOk r (IsSound p)

abbrev pub is_stays : Left → Bool
is_stays stays = true
is_stays l = false
