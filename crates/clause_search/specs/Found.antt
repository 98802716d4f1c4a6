-- What a clause says beside the literals that are known.
use Rattle.std.specs.Prelude.{◌≡◌, ◌≢◌, ◌⊎◌, List, All, not, IsTrue, Contains, Option, Some, None}
use Rattle.clause_search.specs.declared.literal.Literal.{Literal}
use Rattle.clause_search.specs.Clauses.{Cnf, IsVariableIn}
use Rattle.clause_search.specs.declared.table.Table.{Table}
use Rattle.clause_search.specs.declared.clause.Found.{Found}
use Rattle.clause_search.specs.declared.clause.Found.TheVariants.{Settled, Unit as Single, Conflict}
use Rattle.clause_search.specs.Table.{opposite, is_true, is_false, is_undecided}

-- the literal is this one, if one is given
abbrev pub IsOther : Option Literal → Literal → Type 0
IsOther (Some o) l = l ≡ o
IsOther None l = ⊥

pub record IsFree (values : Table) (clause : List Literal) (other : Option Literal) (l : Literal) : Type 0 where
  pub within : Contains clause l
  pub not_false : IsTrue (not (is_false values l))
  pub not_other : IsOther other l → ⊥

abbrev pub NoneFree : Table → List Literal → Option Literal → Type 0
NoneFree values clause other = All (λ (l : Literal). IsOther other l ⊎ IsTrue (is_false values l)) clause

-- every literal of the clause but this one is false
abbrev pub OnlyLeft : Table → List Literal → Literal → Type 0
OnlyLeft values clause l = All (λ (m : Literal). (m ≡ l) ⊎ IsTrue (is_true values (opposite m))) clause

-- a literal of the clause is true
abbrev pub SomeTrue : Table → List Literal → Type 0
SomeTrue values clause = (l : Literal) × Contains clause l × IsTrue (is_true values l)

-- two different ones are undecided
abbrev pub TwoOpen : Table → List Literal → Type 0
TwoOpen values clause = (l : Literal) × (m : Literal) × Contains clause l × Contains clause m × (l ≢ m) × IsTrue (is_undecided values l.variable) × IsTrue (is_undecided values m.variable)

abbrev pub IsSettledBy : Table → List Literal → Type 0
IsSettledBy values clause = SomeTrue values clause ⊎ TwoOpen values clause

abbrev pub AllFalse : Table → List Literal → Type 0
AllFalse values clause = All (λ (m : Literal). IsTrue (is_true values (opposite m))) clause

pub record LeavesOne (values : Table) (clause : List Literal) (l : Literal) : Type 0 where
  pub within : Contains clause l
  pub undecided : IsTrue (is_undecided values l.variable)
  pub others : OnlyLeft values clause l

-- ---- all clauses

pub record UnitAmong (c : Cnf) (values : Table) (l : Literal) : Type 0 where
  pub clause : List Literal
  pub among : Contains c.clauses clause
  pub leaves : LeavesOne values clause l
  pub named : IsVariableIn c.atoms c.axes c.helpers l.variable

pub record ConflictAmong (c : Cnf) (values : Table) : Type 0 where
  pub clause : List Literal
  pub among : Contains c.clauses clause
  pub left : AllFalse values clause

abbrev pub SeesAll : Cnf → Table → Found → Type 0
SeesAll c values Settled = All (IsSettledBy values) c.clauses
SeesAll c values (Single l) = UnitAmong c values l
SeesAll c values Conflict = ConflictAmong c values
