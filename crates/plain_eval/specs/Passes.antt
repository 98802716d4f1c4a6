-- What the passes over the parts leave in their rows.
use Rattle.std.specs.Prelude.{◌≡◌, ◌≢◌, ◌<◌, ℕ, List, Bool, true, false, Option, Some, length, suc}
use Rattle.interval_model.specs.Interval.{Interval, nothing}
use Rattle.cover_model.specs.Combination.{Part, part_range}
use Rattle.cover_model.specs.NodeEnclosure.{row}
use Rattle.ival.specs.declared.row_parts.Rows.{Rows}
use Rattle.ival.specs.RowViews.{rows_of}
use Rattle.ival.specs.Options.{option_at}
use Rattle.plain_eval.specs.Parts.{Setting, part_in_setting, range_on, left_at}

-- the row of each node with a part has the range of the parts behind it
abbrev pub AreBehind : Setting → List Interval → Type 0
AreBehind s rows = (k : ℕ) (x : Part) → part_in_setting s k ≡ Some x → row rows k ≡ range_on s (suc k)

-- the row of each node with a part has the part's range
abbrev pub HaveRanges : Setting → List Interval → Type 0
HaveRanges s rows = (k : ℕ) (x : Part) → part_in_setting s k ≡ Some x → row rows k ≡ part_range s.space s.centre x

-- each node with a part has what is left to it, which is something
pub record AreLeft (s : Setting) (allowed rest : Interval) (r : Rows) : Type 0 where
  pub each : (k : ℕ) → option_at r k ≡ left_at s allowed rest k
  pub full : (k : ℕ) → left_at s allowed rest k ≢ Some nothing

-- to some node nothing is left
pub record SomeIsEmpty (s : Setting) (allowed rest : Interval) : Type 0 where
  pub place : ℕ
  pub within : place < length s.nodes
  pub empty : left_at s allowed rest place ≡ Some nothing

abbrev pub IsLeft : Setting → Interval → Interval → Rows → Bool → Type 0
IsLeft s allowed rest r true = AreLeft s allowed rest r
IsLeft s allowed rest r false = SomeIsEmpty s allowed rest

-- an interval that is put into a row, with a mark
pub record IsPut (k : ℕ) (o : Option Interval) (old new : Rows) : Type 0 where
  pub at : option_at new k ≡ o
  pub others : (j : ℕ) → j ≢ k → option_at new j ≡ option_at old j
  pub rows : (j : ℕ) → j ≢ k → row (rows_of new) j ≡ row (rows_of old) j

-- what is left to a node, put into its row; told not, where it is nothing
abbrev pub IsPutUnlessEmpty : ℕ → Option Interval → Rows → Rows → Bool → Type 0
IsPutUnlessEmpty k o old new true = IsPut k o old new × (o ≢ Some nothing)
IsPutUnlessEmpty k o old new false = o ≡ Some nothing
