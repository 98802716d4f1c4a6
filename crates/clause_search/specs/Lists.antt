-- A list of clauses for each literal.
use Rattle.std.specs.Prelude.{◌≡◌, ℕ, ◌+◌, ◌*◌, ◌<◌, List, [], map, All, Contains, cond, Some, slice_get, slice_index_or, vec_len}
use Rattle.std.specs.declared.vec.Vec.{Vec}
use Rattle.std.specs.declared.alloc.Global.{Global}
use Rattle.clause_search.specs.declared.literal.Variable.{Variable}
use Rattle.clause_search.specs.declared.literal.Variable.TheVariants.{Atom, BoolIs, Helper}
use Rattle.clause_search.specs.declared.literal.Literal.{Literal}
use Rattle.clause_search.specs.Clauses.{Cnf}
use Rattle.clause_search.specs.Table.{bool_place}

abbrev pub place_of : ℕ → ℕ → Variable → ℕ
place_of atoms axes (Atom j) = j
place_of atoms axes (BoolIs axis v) = atoms + bool_place axis v
place_of atoms axes (Helper k) = atoms + 2 * axes + k

-- the number of a literal's list
abbrev pub code_of : ℕ → ℕ → Literal → ℕ
code_of atoms axes l = 2 * place_of atoms axes l.variable + cond l.positive 1 0

abbrev pub list_at : Vec (Vec ℕ Global) Global → ℕ → List ℕ
list_at lists k = slice_index_or (map (λ v. v.items) lists.items) k []

-- a clause is in the list of each of these literals
abbrev pub IsListedFor : Vec (Vec ℕ Global) Global → ℕ → ℕ → List Literal → ℕ → Type 0
IsListedFor lists atoms axes literals i = All (λ (l : Literal). Contains (list_at lists (code_of atoms axes l)) i) literals

-- what was in a list still is
pub record KeepsLists (old new : Vec (Vec ℕ Global) Global) : Type 0 where
  pub same_length : vec_len new ≡ vec_len old
  pub still_there : (k j : ℕ) → Contains (list_at old k) j → Contains (list_at new k) j

-- each clause is in the list of each of its literals
abbrev pub AreListed : Cnf → Vec (Vec ℕ Global) Global → Type 0
AreListed c lists = (i : ℕ) (clause : List Literal) → slice_get c.clauses i ≡ Some clause → All (λ (m : Literal). Contains (list_at lists (code_of c.atoms c.axes m)) i) clause

-- the first clauses are
abbrev pub AreListedBelow : Cnf → Vec (Vec ℕ Global) Global → ℕ → Type 0
AreListedBelow c lists n = (i : ℕ) (clause : List Literal) → i < n → slice_get c.clauses i ≡ Some clause → All (λ (m : Literal). Contains (list_at lists (code_of c.atoms c.axes m)) i) clause
