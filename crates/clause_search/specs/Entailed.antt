-- What follows from clauses and assumed literals.
use Rattle.std.specs.Prelude.{List, IsTrue}
use Rattle.clause_search.specs.declared.literal.Literal.{Literal}
use Rattle.clause_search.specs.Clauses.{Assignment, literal_truth, clauses_truth}
use Rattle.clause_search.specs.declared.table.Table.{Table}
use Rattle.clause_search.specs.Table.{is_true}

-- each clause and each assumed literal is true under the assignment
pub record IsModel (clauses : List (List Literal)) (assumed : Table) (a : Assignment) : Type 0 where
  pub clauses_hold : IsTrue (clauses_truth a clauses)
  pub assumed_hold : (l : Literal) → IsTrue (is_true assumed l) → IsTrue (literal_truth a l)

-- the literal is true in each of their models
abbrev pub Entails : List (List Literal) → Table → Literal → Type 0
Entails clauses assumed l = (a : Assignment) → IsModel clauses assumed a → IsTrue (literal_truth a l)

-- they have no model
abbrev pub HasNoModel : List (List Literal) → Table → Type 0
HasNoModel clauses assumed = (a : Assignment) → IsModel clauses assumed a → ⊥
