-- The laws of covers that go on from others.
use Rattle.std.specs.Prelude.{◌≡◌, ◌≤◌, ◌+◌, ℕ, List, [], ◌∷◌, ◌++◌, All, Option, IsTrue, length, sum_by}
use Rattle.poly_graph.specs.Problem.{Problem, IsProblem}
use Rattle.cover_model.specs.State.{State, Loosenings, IsLemma, root_state, in_version, covers}
use Rattle.cover_model.specs.Fits.{FitsProblem}
use Rattle.cover_model.specs.Rules.{Line}
use Rattle.cover_model.specs.Derivation.{Tree, leaf, Lawful}
use Rattle.cert_model.specs.Due.{Standing, left_open}
use Rattle.cert_model.specs.Accepted.{IsAccepted, most_lemmas}
use Rattle.cert_model.specs.Laws.{CanBeWritten}
use Rattle.cert_model.specs.Standing.{IsHonest, branches}
use Rattle.cert_model.specs.Written.{left_standing, tree_standing, IsHonestTree, tree_branches, LemmaTree, AreLemmaTrees}
use Rattle.cert_resumed.specs.Resumed.{Refines, grafted, CoverRead, IsCoverRead, IsSoundRead, IsVersionBehind, all_lemmas, resumed_lines, resumed_text, IsGraft, AreGrafts, each_left, joined}

-- Lines whose leaving ones are replaced by trees refine them.
abbrev pub GraftRefines : Type 0
GraftRefines = (ls : List Line) (ts : List Tree) → Refines (grafted ls ts) ls

-- What is known of a cover that was read.
abbrev pub ReadIsSound : Type 0
ReadIsSound = (p : Problem) (b : Option ℕ) (bytes : List ℕ) (c : CoverRead) → IsCoverRead p b bytes c → IsSoundRead p c

-- More lemmas change nothing of a lawful tree.
abbrev pub LawfulWithMore : Type 0
LawfulWithMore = (p : Problem) (s : Loosenings) (lemmas more : List State) (S : State) (t : Tree) (rest : List State) → Lawful p s lemmas S t rest →
    Lawful p s (lemmas ++ more) S t rest
    × (left_standing p s (lemmas ++ more) S t ≡ left_standing p s lemmas S t)
    × (tree_standing p s (lemmas ++ more) S t ≡ tree_standing p s lemmas S t)

-- A state that stayed may stay again, whatever lemmas follow, in the version that was read and in later ones.
abbrev pub LeftStays : Type 0
LeftStays = (p : Problem) (b : Option ℕ) (bytes : List ℕ) (c : CoverRead) → IsCoverRead p b bytes c → (v : ℕ) → c.loosenings.version ≤ v → (xs : List LemmaTree) →
    All (λ (x : Standing). IsGraft p (in_version v c.loosenings) (all_lemmas c xs) x (leaf x.does)
    × (left_standing p (in_version v c.loosenings) (all_lemmas c xs) x.state (leaf x.does) ≡ x ∷ [])) c.left

-- It is a state of the problem, and lies within the root.
abbrev pub LeftFits : Type 0
LeftFits = (p : Problem) → IsProblem p → (b : Option ℕ) (bytes : List ℕ) (c : CoverRead) → IsCoverRead p b bytes c →
    All (λ (x : Standing). FitsProblem p x.state × IsTrue (covers (root_state p) x.state)) c.left

-- The lemmas are states of the problem of which no point meets the form at the margin.
abbrev pub LemmasFit : Type 0
LemmasFit = (p : Problem) → IsProblem p → (b : Option ℕ) (bytes : List ℕ) (c : CoverRead) → IsCoverRead p b bytes c → (v : ℕ) →
    All (λ (L : State). FitsProblem p L × IsLemma p (in_version v c.loosenings) L) c.lemmas

-- what follows a cover that was read, in version v: lemmas with their trees, and a lawful tree for each state that stayed
pub record GoesOn (p : Problem) (b : Option ℕ) (bytes : List ℕ) (v : ℕ) (c : CoverRead) (xs : List LemmaTree) (ts : List Tree) : Type 0 where
  pub read : IsCoverRead p b bytes c
  pub behind : IsVersionBehind c.loosenings.version v
  pub few : length (all_lemmas c xs) ≤ most_lemmas
  pub lemmas : AreLemmaTrees p (in_version v c.loosenings) c.lemmas xs
  pub grafts : AreGrafts p (in_version v c.loosenings) (all_lemmas c xs) c.left ts
  pub written : CanBeWritten (resumed_lines v b c xs ts)

-- Its text is accepted, with what the trees leave.
abbrev pub ResumedIsAccepted : Type 0
ResumedIsAccepted = (p : Problem) (b : Option ℕ) (bytes : List ℕ) (v : ℕ) (c : CoverRead) (xs : List LemmaTree) (ts : List Tree) → GoesOn p b bytes v c xs ts →
    IsAccepted p b (resumed_text v b c xs ts) (in_version v c.loosenings) (left_open (joined (each_left p (in_version v c.loosenings) (all_lemmas c xs) c.left ts)))

-- It has the branches of both.
abbrev pub ResumedBranches : Type 0
ResumedBranches = (p : Problem) (b : Option ℕ) (bytes : List ℕ) (v : ℕ) (c : CoverRead) (xs : List LemmaTree) (ts : List Tree) → GoesOn p b bytes v c xs ts →
    branches p b (resumed_text v b c xs ts) ≡ branches p b bytes + sum_by tree_branches ts

-- each state that stayed has an honest tree
abbrev pub AreHonestGrafts : Problem → ℕ → Loosenings → List State → List Standing → List Tree → Type 0
AreHonestGrafts p w s lemmas [] [] = Unit {0}
AreHonestGrafts p w s lemmas (x ∷ left) (t ∷ ts) = IsHonestTree p w s lemmas x.state t × AreHonestGrafts p w s lemmas left ts
AreHonestGrafts p w s lemmas _ _ = ⊥

-- It is honest where both are.
abbrev pub ResumedIsHonest : Type 0
ResumedIsHonest = (p : Problem) (b : Option ℕ) (bytes : List ℕ) (v : ℕ) (c : CoverRead) (xs : List LemmaTree) (ts : List Tree) → GoesOn p b bytes v c xs ts →
    (w : ℕ) → IsHonest p b w bytes → AreHonestGrafts p w (in_version v c.loosenings) (all_lemmas c xs) c.left ts → IsHonest p b w (resumed_text v b c xs ts)
