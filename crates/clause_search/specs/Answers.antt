-- What the answers of propagation say.
use Rattle.std.specs.Prelude.{◌≡◌, ℕ, List, All, true, not, IsTrue, Contains}
use Rattle.poly_graph.specs.ProblemViews.{Parts, problem_of}
use Rattle.cover_model.specs.State.{State, Loosenings, undecided, with_no, may}
use Rattle.clause_search.specs.declared.literal.Variable.TheVariants.{Atom}
use Rattle.clause_search.specs.declared.literal.Literal.{Literal}
use Rattle.clause_search.specs.Clauses.{Cnf, IsFormOf}
use Rattle.clause_search.specs.Encoding.{literal}
use Rattle.clause_search.specs.declared.prop.Prop.{Prop}
use Rattle.clause_search.specs.declared.prop.Prop.TheVariants.{Forced, Conflict, Rest}
use Rattle.clause_search.specs.declared.trail.Trail.{Trail}
use Rattle.clause_search.specs.Found.{OnlyLeft, IsSettledBy}
use Rattle.clause_search.specs.Trail.{stands_on, undecided_on, was_assumed, SameVariables}
use Rattle.clause_search.specs.Agrees.{Agrees}

-- ---- clauses

-- some clause leaves this literal alone
pub record IsUnit (c : Cnf) (t : Trail) (l : Literal) : Type 0 where
  pub clause : List Literal
  pub among : Contains c.clauses clause
  pub inside : Contains clause l
  pub others : OnlyLeft t.values clause l

-- the clause has a true literal, or two different undecided ones
abbrev pub IsSettled : Trail → List Literal → Type 0
IsSettled t clause = IsSettledBy t.values clause

-- ---- states

-- at each state that agrees with the trail, the atom may be marked yes if it has no mark
abbrev pub MayBeMarked : Cnf → Trail → ℕ → Type 0
MayBeMarked c t j = (p : Parts) (s : Loosenings) (S : State) → IsFormOf p c → Agrees (problem_of p) s S t → IsTrue (undecided S j) → IsTrue (not (may (problem_of p) s (with_no S j)))

-- at no state that agrees with the trail the form may hold
abbrev pub MayNotHold : Cnf → Trail → Type 0
MayNotHold c t = (p : Parts) (s : Loosenings) (S : State) → IsFormOf p c → Agrees (problem_of p) s S t → IsTrue (not (may (problem_of p) s S))

-- ---- answers

-- the atom came onto the trail in this step, by a clause
pub record IsForced (c : Cnf) (t u : Trail) (j : ℕ) : Type 0 where
  pub was_undecided : IsTrue (undecided_on t (Atom j))
  pub stands : IsTrue (stands_on u (literal (Atom j) true))
  pub unit : IsUnit c u (literal (Atom j) true)
  pub means : MayBeMarked c u j

-- each clause is settled, and all that was assumed is on the trail
pub record IsAtRest (c : Cnf) (t : Trail) : Type 0 where
  pub settled : All (IsSettled t) c.clauses
  pub assumed_on : (l : Literal) → IsTrue (was_assumed t l) → IsTrue (stands_on t l)

abbrev pub IsPropagation : Cnf → Trail → Trail → Prop → Type 0
IsPropagation c t u (Forced j) = IsForced c t u j
IsPropagation c t u Conflict = MayNotHold c u
IsPropagation c t u Rest = IsAtRest c u

-- the trail has grown by derived literals alone
pub record Grows (t u : Trail) : Type 0 where
  pub same_assumed : (l : Literal) → was_assumed u l ≡ was_assumed t l
  pub still_on : (l : Literal) → IsTrue (stands_on t l) → IsTrue (stands_on u l)
  pub same_failed : u.failed ≡ t.failed
  pub same : SameVariables t u
