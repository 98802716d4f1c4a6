-- The two watched literals of a clause.
use Rattle.std.specs.Prelude.{◌≡◌, ◌≢◌, ◌⊎◌, List, Contains, not, IsTrue, Some}
use Rattle.clause_search.specs.declared.literal.Literal.{Literal}
use Rattle.clause_search.specs.declared.table.Table.{Table}
use Rattle.clause_search.specs.declared.clause.Choice.{Choice}
use Rattle.clause_search.specs.declared.clause.Choice.TheVariants.{Watch, Unit as Single, Conflict}
use Rattle.clause_search.specs.Table.{is_true, is_false}
use Rattle.clause_search.specs.Found.{IsFree, LeavesOne, AllFalse}

-- a watched literal that is false is still pending, or the other one is true
pub record IsGuarded (values : Table) (pending : Literal → Type 0) (clause : List Literal) (x y : Literal) : Type 0 where
  pub first_in : Contains clause x
  pub second_in : Contains clause y
  pub first_guard : IsTrue (is_false values x) → pending x ⊎ IsTrue (is_true values y)
  pub second_guard : IsTrue (is_false values y) → pending y ⊎ IsTrue (is_true values x)
  pub differ : (x ≢ y) ⊎ (IsTrue (is_true values x) × IsTrue (is_true values y))

-- neither is false, and they are two unless they are true
pub record AreFree (values : Table) (clause : List Literal) (x y : Literal) : Type 0 where
  pub first_in : Contains clause x
  pub second_in : Contains clause y
  pub first_free : IsTrue (not (is_false values x))
  pub second_free : IsTrue (not (is_false values y))
  pub differ : (x ≢ y) ⊎ (IsTrue (is_true values x) × IsTrue (is_true values y))

abbrev pub Chooses : Table → List Literal → Choice → Type 0
Chooses values clause (Watch x y) = AreFree values clause x y
Chooses values clause (Single l) = LeavesOne values clause l
Chooses values clause Conflict = AllFalse values clause

-- both watched literals stay: each is another one than the false one, or its partner is true
pub record Keeps (values : Table) (l x y x' y' : Literal) : Type 0 where
  pub first_same : x' ≡ x
  pub second_same : y' ≡ y
  pub first_fine : (x ≢ l) ⊎ IsTrue (is_true values y)
  pub second_fine : (y ≢ l) ⊎ IsTrue (is_true values x)

-- the first one, which is the false one, is replaced
pub record Moves (values : Table) (clause : List Literal) (l x y x' y' : Literal) : Type 0 where
  pub was_false : x ≡ l
  pub other_same : y' ≡ y
  pub free : IsFree values clause (Some y) x'

abbrev pub Rewatches : Table → List Literal → Literal → Literal → Literal → Choice → Type 0
Rewatches values clause l x y (Watch x' y') = Keeps values l x y x' y' ⊎ (Moves values clause l x y x' y' ⊎ Moves values clause l y x y' x')
Rewatches values clause l x y (Single m) = LeavesOne values clause m
Rewatches values clause l x y Conflict = AllFalse values clause
