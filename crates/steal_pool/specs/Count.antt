-- The count of resting hands: one word, and what each seat knows.
use Rattle.std.specs.Prelude.{◌≡◌, ℕ, ◌+◌, ◌-◌, ◌≤◌, Bool, false, List, [], ◌∷◌, slice_index, length}
use mathlib.Core.Option.{some}
use lib.ListN.{get_elem?}
use Rattle.atomic_table.specs.Table.{State, Me, Step}
use Rattle.steal_pool.specs.declared.count.CountView.{CountView}

-- f of each view, added up
abbrev pub total_of : (CountView → ℕ) → List CountView → ℕ
total_of f [] = 0
total_of f (v ∷ vs) = f v + total_of f vs

abbrev pub parts_in : CountView → ℕ
parts_in v = v.parts

abbrev pub resting_in : CountView → ℕ
resting_in v = v.resting

-- the view of n parts, all at rest, that has done nothing
abbrev pub all_resting : ℕ → CountView
all_resting n = record { parts = n; resting = n; reads = 0; last = 0; looks = 0; found_empty = false }

abbrev pub one_resting : CountView
one_resting = all_resting 1

abbrev pub no_part : CountView
no_part = all_resting 0

-- one resting part has left
abbrev pub one_less : CountView → CountView
one_less v = record v { parts = v.parts - 1; resting = v.resting - 1 }

-- the rule for n hands: the parts of all seats are n, and the word is the number of those that rest
pub record CountsResting (n : ℕ) (s : State (Unit {0}) CountView) : Type 0 where
  pub wide : length s.words ≡ 1
  pub few : n ≤ 64
  pub whole : total_of parts_in s.views ≡ n
  pub sum : slice_index s.words 0 ≡ total_of resting_in s.views
  pub each : (j : ℕ) (v : CountView) → get_elem? s.views j ≡ some v → v.resting ≤ v.parts

-- what a seat learns of its steps
abbrev pub RestsOneMore : Step (Unit {0}) → Me (Unit {0}) CountView → ℕ → Me (Unit {0}) CountView → Type 0
RestsOneMore st m found m' = (m' ≡ (record m.0 { resting = m.0.resting + 1 }, m.1)) × (found ≤ 64)

abbrev pub RestsOneLess : Step (Unit {0}) → Me (Unit {0}) CountView → ℕ → Me (Unit {0}) CountView → Type 0
RestsOneLess st m found m' = m' ≡ (record m.0 { resting = m.0.resting - 1 }, m.1)

abbrev pub ReadsCount : Step (Unit {0}) → Me (Unit {0}) CountView → ℕ → Me (Unit {0}) CountView → Type 0
ReadsCount st m found m' = (m' ≡ (record m.0 { reads = m.0.reads + 1; last = found }, m.1)) × (found ≤ 64)

abbrev pub LooksOnce : Bool → Step (Unit {0}) → Me (Unit {0}) CountView → ℕ → Me (Unit {0}) CountView → Type 0
LooksOnce b st m found m' = m' ≡ (record m.0 { looks = m.0.looks + 1; found_empty = b }, m.1)
