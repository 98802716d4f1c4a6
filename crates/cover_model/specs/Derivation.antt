-- Trees of lines, and those that are lawful at a state.
use Rattle.std.specs.Prelude.{◌≡◌, ◌⊎◌, ℕ, List, [], ◌∷◌, ◌++◌, Option, Some, None, slice_get, IsTrue}
use Rattle.std.specs.List.{AllByRecursion}
use Rattle.dyadic.specs.Point.{Coordinate}
use Rattle.poly_graph.specs.Problem.{Problem}
use Rattle.cover_model.specs.State.{State, Loosenings, IsPointOf, IsLemma, covers}
use Rattle.cover_model.specs.Rules.{Line, Left, closed, one, two, stays, rule}

pub data Tree : Type 0 where
  leaf : Line → Tree
  then : Line → Tree → Tree
  fork : Line → Tree → Tree → Tree

-- the lines of a tree, from its root, the first child's before the second's
abbrev pub tree_lines : Tree → List Line
tree_lines (leaf l) = l ∷ []
tree_lines (then l t) = l ∷ tree_lines t
tree_lines (fork l t u) = l ∷ (tree_lines t ++ tree_lines u)

-- the tree is lawful at a state, and these states stay open or stuck, in its order
pub data Lawful (p : Problem) (s : Loosenings) (lemmas : List State) : State → Tree → List State → Type 0 where
  at_closed : {S : State} {l : Line} → rule p s lemmas S l ≡ Some closed → Lawful p s lemmas S (leaf l) []
  at_left : {S : State} {l : Line} → rule p s lemmas S l ≡ Some stays → Lawful p s lemmas S (leaf l) (S ∷ [])
  at_step : {S S' : State} {l : Line} {t : Tree} {rest : List State} → rule p s lemmas S l ≡ Some (one S') → Lawful p s lemmas S' t rest → Lawful p s lemmas S (then l t) rest
  at_fork : {S S' S'' : State} {l : Line} {t u : Tree} {rest rest' : List State} → rule p s lemmas S l ≡ Some (two S' S'') →
      Lawful p s lemmas S' t rest → Lawful p s lemmas S'' u rest' → Lawful p s lemmas S (fork l t u) (rest ++ rest')

-- the same as a function: the states that stay, or none where a line breaks its rule

abbrev pub and_left : Option (List State) → Option (List State) → Option (List State)
and_left (Some xs) (Some ys) = Some (xs ++ ys)
and_left _ _ = None

abbrev pub leaf_left : State → Option Left → Option (List State)
leaf_left S (Some closed) = Some []
leaf_left S (Some stays) = Some (S ∷ [])
leaf_left S _ = None

abbrev pub step_left : Option Left → (State → Option (List State)) → Option (List State)
step_left (Some (one S')) on = on S'
step_left _ on = None

abbrev pub fork_left : Option Left → (State → Option (List State)) → (State → Option (List State)) → Option (List State)
fork_left (Some (two S' S'')) on on' = and_left (on S') (on' S'')
fork_left _ on on' = None

abbrev pub left_of : Problem → Loosenings → List State → State → Tree → Option (List State)
left_of p s lemmas S (leaf l) = leaf_left S (rule p s lemmas S l)
left_of p s lemmas S (then l t) = step_left (rule p s lemmas S l) (λ S'. left_of p s lemmas S' t)
left_of p s lemmas S (fork l t u) = fork_left (rule p s lemmas S l) (λ S'. left_of p s lemmas S' t) (λ S'. left_of p s lemmas S' u)

-- ---- what is said of rules and trees

module _ (p : Problem) (s : Loosenings) where
  -- the point is one of what the rule leaves
  abbrev pub Keeps : Left → State → List Coordinate → Type 0
  Keeps closed S point = ⊥
  Keeps (one S') S point = IsPointOf p s S' point
  Keeps (two S' S'') S point = IsPointOf p s S' point ⊎ IsPointOf p s S'' point
  Keeps stays S point = Unit {0}

  abbrev pub KeepsIf : Option Left → State → List Coordinate → Type 0
  KeepsIf None S point = Unit {0}
  KeepsIf (Some l) S point = Keeps l S point

  -- the point is one of these states'
  pub data Among (point : List Coordinate) : List State → Type 0 where
    here : {S : State} {rest : List State} → IsPointOf p s S point → Among point (S ∷ rest)
    later : {S : State} {rest : List State} → Among point rest → Among point (S ∷ rest)

  -- no point of any of these states meets the form
  abbrev pub AreLemmas : List State → Type 0
  AreLemmas lemmas = (i : ℕ) (L : State) → slice_get lemmas i ≡ Some L → IsLemma p s L

-- what is left lies within the state
abbrev pub LiesWithin : State → Left → Type 0
LiesWithin S closed = Unit {0}
LiesWithin S (one S') = IsTrue (covers S S')
LiesWithin S (two S' S'') = IsTrue (covers S S') × IsTrue (covers S S'')
LiesWithin S stays = Unit {0}

abbrev pub LiesWithinIf : State → Option Left → Type 0
LiesWithinIf S None = Unit {0}
LiesWithinIf S (Some l) = LiesWithin S l

-- each of these states lies within the state
abbrev pub EachWithin : State → List State → Type 0
EachWithin S states = AllByRecursion (λ (T : State). IsTrue (covers S T)) states
