-- What is proved of runs.
use Rattle.std.specs.Prelude.{◌≡◌, ◌⊎◌, ◌≤◌, ℕ, List, [], ◌∷◌, ◌++◌, Some, IsTrue}
use Rattle.dyadic.specs.Point.{Coordinate}
use Rattle.poly_graph.specs.Problem.{Problem, IsProblem}
use Rattle.cover_model.specs.State.{State, Loosenings, IsPointOf, MeetsForm, IsLemma, covers}
use Rattle.cover_model.specs.Rules.{Line, stuck}
use Rattle.cover_model.specs.Derivation.{Tree, leaf, fork, Lawful}
use Rattle.cover_model.specs.Fits.{FitsProblem}
use Rattle.cover_data.specs.declared.margins.Margins.{Margins}
use Rattle.cover_data.specs.Margins.{loosenings_of, margins_in}
use Rattle.cover_data.specs.Models.{KeptModel}
use Rattle.cover_data.specs.Runs.{StepsLead, tree_after, AreKept, is_closing, children, IsLawfulRun, IsRun, IsClosed}

-- Steps before a lawful tree make a lawful tree, with the same states that stay.
abbrev pub StepsBeforeTree : Type 0
StepsBeforeTree = (p : Problem) (s : Loosenings) (lemmas : List State) (S T : State) (steps : List Line) (t : Tree) (rest : List State) →
    StepsLead p s lemmas S steps T → Lawful p s lemmas T t rest → Lawful p s lemmas S (tree_after steps t) rest

-- A lawful run that has closed its state is a lawful tree in which no state stays.
abbrev pub ClosedRunIsTree : Type 0
ClosedRunIsTree = (p : Problem) (m : Margins) (k : KeptModel) → IsLawfulRun p m k → (lemmas : List State) → AreKept lemmas k.quoted →
    (l : Line) → k.end ≡ Some l → IsTrue (is_closing l) → Lawful p (loosenings_of m) lemmas k.first (tree_after k.steps (leaf l)) []

-- One that ended at a stuck state is a lawful tree in which the state stays that the steps reach.
abbrev pub StuckRunIsTree : Type 0
StuckRunIsTree = (p : Problem) (m : Margins) (k : KeptModel) → IsLawfulRun p m k → (lemmas : List State) → AreKept lemmas k.quoted →
    (j : ℕ) → k.end ≡ Some (stuck j) → Lawful p (loosenings_of m) lemmas k.first (tree_after k.steps (leaf (stuck j))) (k.reached ∷ [])

-- One that ended in a branch is a lawful tree over lawful trees of the two states.
abbrev pub BranchRunIsTree : Type 0
BranchRunIsTree = (p : Problem) (m : Margins) (k : KeptModel) → IsLawfulRun p m k → (lemmas : List State) → AreKept lemmas k.quoted →
    (l : Line) → k.end ≡ Some l → (a b : State) → children l k.reached ≡ Some (a, b) →
    (t u : Tree) (rest rest' : List State) → Lawful p (loosenings_of m) lemmas a t rest → Lawful p (loosenings_of m) lemmas b u rest' →
    Lawful p (loosenings_of m) lemmas k.first (tree_after k.steps (fork l t u)) (rest ++ rest')

-- No point of the first state of a run that has closed it meets the form.
abbrev pub ClosedRunIsLemma : Type 0
ClosedRunIsLemma = (p : Problem) (m : Margins) (k : KeptModel) → IsRun p m k → IsClosed k → IsLemma p (loosenings_of m) k.first

-- A point of the first state of a run that ended in a branch is one of the two states, where it meets the form.
abbrev pub BranchKeepsPoints : Type 0
BranchKeepsPoints = (p : Problem) → IsProblem p → (m : Margins) (k : KeptModel) → IsRun p m k → (l : Line) → k.end ≡ Some l → (a b : State) → children l k.reached ≡ Some (a, b) →
    (point : List Coordinate) → IsPointOf p (loosenings_of m) k.first point → MeetsForm p (loosenings_of m) point →
    IsPointOf p (loosenings_of m) a point ⊎ IsPointOf p (loosenings_of m) b point

-- The two states lie within the first one, and are states of the problem.
abbrev pub ChildrenLieWithin : Type 0
ChildrenLieWithin = (p : Problem) → IsProblem p → (m : Margins) (k : KeptModel) → IsRun p m k → (l : Line) → k.end ≡ Some l → (a b : State) → children l k.reached ≡ Some (a, b) →
    (IsTrue (covers k.first a) × FitsProblem p a) × (IsTrue (covers k.first b) × FitsProblem p b)

-- A run in a version is one in each later version.
abbrev pub RunIsLater : Type 0
RunIsLater = (p : Problem) (m : Margins) (v : ℕ) → m.version ≤ v → (k : KeptModel) → IsRun p m k → IsRun p (margins_in v m) k
