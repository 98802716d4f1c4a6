-- The laws of joined trees.
use Rattle.std.specs.Prelude.{◌≡◌, ◌≤◌, ℕ, List, Option, None, IsTrue}
use Rattle.std.specs.List.{AllByRecursion}
use Rattle.poly_graph.specs.Problem.{Problem, first_crossed}
use Rattle.cover_model.specs.State.{State, Loosenings, in_version}
use Rattle.cover_model.specs.Derivation.{Tree, tree_lines, Lawful}
use Rattle.cert_model.specs.Due.{Standing, Value, is_version, left_open}
use Rattle.cert_model.specs.Accepted.{IsAccepted}
use Rattle.cert_resumed.specs.Resumed.{Refines}
use Rattle.cert_joined.specs.Covers.{Cover, IsShaped, IsTextOf}
use Rattle.cert_joined.specs.Joined.{Joins, IsAgreed, Keeps, closes}

abbrev pub IsLawfulAt : Problem → Loosenings → List State → State → Tree → Type 0
IsLawfulAt p s lemmas S t = (left : List State) × Lawful p s lemmas S t left

-- lawful there in that version or an earlier one
pub record IsLawfulBefore (p : Problem) (s : Loosenings) (lemmas : List State) (S : State) (t : Tree) : Type 0 where
  pub version : ℕ
  pub earlier : version ≤ s.version
  pub lawful : IsLawfulAt p (in_version version s) lemmas S t

-- What joins trees that are lawful, each in its version, is lawful in a version that is no earlier one.
abbrev pub JoinsLawful : Type 0
JoinsLawful = (p : Problem) (s : Loosenings) (lemmas : List State) (S : State) (ts : List Tree) (u : Tree) →
    Joins ts u → AllByRecursion (λ (t : Tree). IsLawfulBefore p s lemmas S t) ts → IsLawfulAt p s lemmas S u

-- Where one leaves nothing, neither does what joins them.
abbrev pub ClosedStaysClosed : Type 0
ClosedStaysClosed = (ts : List Tree) (u : Tree) → Joins ts u → AllByRecursion (λ (t : Tree). IsTrue (closes t) → IsTrue (closes u)) ts

-- It keeps of each what it closed, unless another tree was taken.
abbrev pub KeepsEach : Type 0
KeepsEach = (ts : List Tree) (u : Tree) → Joins ts u → AllByRecursion (λ (t : Tree). Keeps t u) ts

-- Where no trees differ, its lines refine those of each.
abbrev pub JoinsRefines : Type 0
JoinsRefines = (ts : List Tree) (u : Tree) (j : Joins ts u) → IsAgreed j → AllByRecursion (λ (t : Tree). Refines (tree_lines u) (tree_lines t)) ts

-- A tree that is lawful at a state has below each line as many trees as the line leaves states.
abbrev pub LawfulIsShaped : Type 0
LawfulIsShaped = (p : Problem) (s : Loosenings) (lemmas : List State) (S : State) (t : Tree) (left : List State) → Lawful p s lemmas S t left → IsShaped t

-- The bytes of an accepted cover are the text of a cover, where the declared box is not empty.
abbrev pub AcceptedIsText : Type 0
AcceptedIsText = (p : Problem) (b : Option ℕ) (bytes : List ℕ) (s : Loosenings) (left : List Standing) → IsAccepted p b bytes s (left_open left) → first_crossed p ≡ None →
    (c : Cover) × IsTextOf c bytes

-- The header of an accepted certificate of a cover has a version that is read, and the bound of the words.
abbrev pub AcceptedHasHeader : Type 0
AcceptedHasHeader = (p : Problem) (b : Option ℕ) (bytes : List ℕ) (s : Loosenings) (v : Value) (c : Cover) → IsAccepted p b bytes s v → IsTextOf c bytes →
    IsTrue (is_version c.version) × (c.bound ≡ b)
