-- What is known of each variable.
use Rattle.std.specs.Prelude.{◌≡◌, ◌⊎◌, ℕ, ◌+◌, ◌*◌, ◌<◌, Bool, true, false, not, cond, slice_index_or, vec_len, count_by}
use Rattle.clause_search.specs.declared.literal.Variable.{Variable}
use Rattle.clause_search.specs.declared.literal.Variable.TheVariants.{Atom, BoolIs, Helper}
use Rattle.clause_search.specs.declared.literal.Literal.{Literal}
use Rattle.clause_search.specs.declared.table.Value.{Value}
use Rattle.clause_search.specs.declared.table.Value.TheVariants.{Open, True, False}
use Rattle.clause_search.specs.declared.table.Table.{Table}

abbrev pub opposite : Literal → Literal
opposite l = record { variable = l.variable; positive = not l.positive }

abbrev pub bool_place : ℕ → Bool → ℕ
bool_place axis v = 2 * axis + cond v 1 0

abbrev pub value_at : Table → Variable → Value
value_at t (Atom j) = slice_index_or t.atoms.items j Open
value_at t (BoolIs axis v) = slice_index_or t.bools.items (bool_place axis v) Open
value_at t (Helper k) = slice_index_or t.helpers.items k Open

-- a variable of this value, taken as it is or as its opposite, is known to be true
abbrev pub stands : Value → Bool → Bool
stands Open positive = false
stands True positive = positive
stands False positive = not positive

abbrev pub is_open : Value → Bool
is_open Open = true
is_open True = false
is_open False = false

abbrev pub value_for : Bool → Value
value_for true = True
value_for false = False

abbrev pub is_true : Table → Literal → Bool
is_true t l = stands (value_at t l.variable) l.positive

abbrev pub is_false : Table → Literal → Bool
is_false t l = stands (value_at t l.variable) (not l.positive)

-- neither it nor its opposite is known to be true
abbrev pub is_undecided : Table → Variable → Bool
is_undecided t v = is_open (value_at t v)

-- there is a place for the variable
abbrev pub IsKept : Table → Variable → Type 0
IsKept t (Atom j) = j < vec_len t.atoms
IsKept t (BoolIs axis v) = bool_place axis v < vec_len t.bools
IsKept t (Helper k) = k < vec_len t.helpers

pub record SetsOne (old new : Table) (v : Variable) (x : Value) : Type 0 where
  pub there : value_at new v ≡ x
  pub others : (u : Variable) → (v ≡ u) ⊎ (value_at new u ≡ value_at old u)

pub record SameCounts (old new : Table) : Type 0 where
  pub atoms : vec_len new.atoms ≡ vec_len old.atoms
  pub bools : vec_len new.bools ≡ vec_len old.bools
  pub helpers : vec_len new.helpers ≡ vec_len old.helpers

pub record HasCounts (t : Table) (atoms axes helpers : ℕ) : Type 0 where
  pub few_atoms : vec_len t.atoms ≡ atoms
  pub few_bools : vec_len t.bools ≡ 2 * axes
  pub few_helpers : vec_len t.helpers ≡ helpers

abbrev pub open_count : Table → ℕ
open_count t = count_by is_open t.atoms.items + count_by is_open t.bools.items + count_by is_open t.helpers.items

-- one variable less is open, where this one was
abbrev pub HasOneLessOpen : Table → Table → Variable → Type 0
HasOneLessOpen old new v = value_at old v ≡ Open → open_count new + 1 ≡ open_count old

-- nothing is known
abbrev pub AreOpen : Table → Type 0
AreOpen t = (v : Variable) → value_at t v ≡ Open
