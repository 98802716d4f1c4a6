-- Runs of steps, the states that an end leaves, and runs that are lawful and end honestly.
use Rattle.std.specs.Prelude.{◌≡◌, List, [], ◌∷◌, All, Option, Some, None, Bool, true, false, IsTrue, IfSome, slice_get}
use Rattle.dyadic.specs.Point.{Coordinate}
use Rattle.poly_graph.specs.Problem.{Problem}
use Rattle.cover_model.specs.State.{State, Loosenings, IsPointOf, MeetsForm, IsLemma, covers}
use Rattle.cover_model.specs.Rules.{Line, end_by, branch_by, Left, one, rule, can_part, can_branch, first_child, second_child}
use Rattle.cover_model.specs.Derivation.{Tree, then}
use Rattle.cover_model.specs.Honest.{is_honest}
use Rattle.cover_model.specs.Fits.{FitsProblem}
use Rattle.cover_data.specs.declared.margins.Margins.{Margins}
use Rattle.cover_data.specs.Margins.{loosenings_of}
use Rattle.cover_data.specs.Models.{LemmaModel, KeptModel}

-- ---- steps

-- the steps lead from a state to another, each leaving one state
abbrev pub StepsLead : Problem → Loosenings → List State → State → List Line → State → Type 0
StepsLead p s lemmas S [] T = S ≡ T
StepsLead p s lemmas S (l ∷ ls) T = (S' : State) × (rule p s lemmas S l ≡ Some (one S')) × StepsLead p s lemmas S' ls T

-- the steps before a tree
abbrev pub tree_after : List Line → Tree → Tree
tree_after [] t = t
tree_after (l ∷ ls) t = then l (tree_after ls t)

-- each of these lemmas stands in the list under its number
abbrev pub AreKept : List State → List LemmaModel → Type 0
AreKept lemmas quoted = All (λ (l : LemmaModel). slice_get lemmas l.id ≡ Some l.state) quoted

-- ---- ends

-- the line closes a state
abbrev pub is_closing : Line → Bool
is_closing (end_by e) = true
is_closing l = false

-- there is an end, and it closes the state
abbrev pub closes : Option Line → Bool
closes None = false
closes (Some l) = is_closing l

-- the two states that a branch leaves of a state
abbrev pub children : Line → State → Option (State × State)
children (branch_by b) S = Some (first_child S b, second_child S b)
children l S = None

-- those that a run leaves which ended in a branch
abbrev pub kids_by : Option Line → State → Option (State × State)
kids_by None S = None
kids_by (Some l) S = children l S

abbrev pub kids_of : KeptModel → Option (State × State)
kids_of k = kids_by k.end k.reached

-- a branch has what it parts: a cut a Real axis around it, a flip an undecided Bool, a case an undecided atom, groups undecided ones
abbrev pub CanPart : Line → State → Type 0
CanPart (branch_by b) S = IsTrue (can_part S b)
CanPart l S = Unit {0}

-- a branch stands where its rule holds
abbrev pub CanBranch : Problem → Loosenings → Line → State → Type 0
CanBranch p s (branch_by b) S = IsTrue (can_branch p s S b)
CanBranch p s l S = Unit {0}

-- what an end leaves: nothing, two states, or the state itself
abbrev pub IsEnding : Option Left → Type 0
IsEnding None = ⊥
IsEnding (Some (one S)) = ⊥
IsEnding (Some l) = Unit {0}

-- ---- lawful runs

-- the run is lawful at these margins, whatever lemmas there are besides those that it quotes; where it has ended, its end meets its rule and is honest
pub record IsLawfulRun (p : Problem) (m : Margins) (k : KeptModel) : Type 0 where
  pub steps : (lemmas : List State) → AreKept lemmas k.quoted → StepsLead p (loosenings_of m) lemmas k.first k.steps k.reached
  pub end : (lemmas : List State) → AreKept lemmas k.quoted → IfSome k.end (λ (l : Line). IsEnding (rule p (loosenings_of m) lemmas k.reached l))
  pub honest : IfSome k.end (λ (l : Line). IsTrue (is_honest p m.least_bits (loosenings_of m) k.reached l))

-- what a run keeps, which quotes lemmas that have no point that meets the form
pub record IsSoundRun (p : Problem) (s : Loosenings) (k : KeptModel) : Type 0 where
  pub quoted : All (λ (l : LemmaModel). IsLemma p s l.state) k.quoted
  pub first : FitsProblem p k.first
  pub reached : FitsProblem p k.reached
  pub within : IsTrue (covers k.first k.reached)
  pub points : (point : List Coordinate) → IsPointOf p s k.first point → MeetsForm p s point → IsPointOf p s k.reached point
  pub closed : IsTrue (closes k.end) → IsLemma p s k.reached
  pub parts : IfSome k.end (λ (l : Line). CanBranch p s l k.reached)

-- a run for the problem at these margins
pub record IsRun (p : Problem) (m : Margins) (k : KeptModel) : Type 0 where
  pub lawful : IsLawfulRun p m k
  pub sound : IsSoundRun p (loosenings_of m) k

-- the run has closed its state
abbrev pub IsClosed : KeptModel → Type 0
IsClosed k = IsTrue (closes k.end)
