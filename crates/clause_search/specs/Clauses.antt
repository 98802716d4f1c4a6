-- Clauses, what they mean, and when they say what a problem's form says.
use Rattle.std.specs.Prelude.{◌≡◌, ℕ, ◌<◌, ◌↔◌, List, length, All, Bool, not, cond, IsTrue}
use Rattle.std.specs.List.{list_all, list_any}
use Rattle.dyadic.specs.Point.{bool_sort}
use Rattle.poly_graph.specs.Form.{form_truth}
use Rattle.poly_graph.specs.Problem.{HasSort, sorts_of_axes}
use Rattle.poly_graph.specs.ProblemViews.{Parts, problem_of}
use Rattle.clause_search.specs.declared.literal.Variable.{Variable}
use Rattle.clause_search.specs.declared.literal.Variable.TheVariants.{Atom, BoolIs, Helper}
use Rattle.clause_search.specs.declared.literal.Literal.{Literal}

-- a truth value for each atom, for each value of each Bool axis, and for each helper
pub record Assignment : Type 0 where
  pub atoms : ℕ → Bool
  pub bools : ℕ → Bool → Bool
  pub helpers : ℕ → Bool

abbrev pub variable_truth : Assignment → Variable → Bool
variable_truth a (Atom j) = a.atoms j
variable_truth a (BoolIs axis v) = a.bools axis v
variable_truth a (Helper k) = a.helpers k

-- a variable, or its opposite
abbrev pub literal_truth : Assignment → Literal → Bool
literal_truth a l = cond l.positive (variable_truth a l.variable) (not (variable_truth a l.variable))

-- a clause is true where some literal of it is
abbrev pub clause_truth : Assignment → List Literal → Bool
clause_truth a clause = list_any (literal_truth a) clause

-- every clause is true
abbrev pub clauses_truth : Assignment → List (List Literal) → Bool
clauses_truth a clauses = list_all (clause_truth a) clauses

-- clauses, and how many atoms, axes and helpers there are
pub record Cnf : Type 0 where
  pub clauses : List (List Literal)
  pub atoms : ℕ
  pub axes : ℕ
  pub helpers : ℕ

-- a variable of so many atoms, axes and helpers
abbrev pub IsVariableIn : ℕ → ℕ → ℕ → Variable → Type 0
IsVariableIn atoms axes helpers (Atom j) = j < atoms
IsVariableIn atoms axes helpers (BoolIs axis v) = axis < axes
IsVariableIn atoms axes helpers (Helper k) = k < helpers

-- each literal of the clause has a variable of these
abbrev pub HasVariablesIn : Cnf → List Literal → Type 0
HasVariablesIn c clause = All (λ (l : Literal). IsVariableIn c.atoms c.axes c.helpers l.variable) clause

-- each literal of each clause has such a variable
abbrev pub AreNamed : ℕ → ℕ → ℕ → List (List Literal) → Type 0
AreNamed atoms axes helpers clauses = All (λ (clause : List Literal). All (λ (l : Literal). IsVariableIn atoms axes helpers l.variable) clause) clauses

-- an atom of the problem, a Bool axis of it, or one of so many helpers
abbrev pub IsVariableOf : Parts → ℕ → Variable → Type 0
IsVariableOf p helpers (Atom j) = j < length p.atoms
IsVariableOf p helpers (BoolIs axis v) = HasSort bool_sort (sorts_of_axes p.axes) axis
IsVariableOf p helpers (Helper k) = k < helpers

-- The form is true exactly where some values of the helpers make every clause true.
pub record IsFormOf (p : Parts) (c : Cnf) : Type 0 where
  pub same : (atoms : ℕ → Bool) (bools : ℕ → Bool → Bool) →
      IsTrue (form_truth atoms bools (problem_of p).form)
      ↔ ((helpers : ℕ → Bool) × IsTrue (clauses_truth (record { atoms = atoms; bools = bools; helpers = helpers }) c.clauses))
  pub named : All (λ (clause : List Literal). All (λ (l : Literal). IsVariableOf p c.helpers l.variable) clause) c.clauses
  pub atoms : c.atoms ≡ length p.atoms
  pub axes : c.axes ≡ length p.axes
