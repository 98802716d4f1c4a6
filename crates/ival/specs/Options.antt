-- Rows in which some have no interval: those without a mark.
use Rattle.std.specs.Prelude.{ℕ, List, [], ◌∷◌, Bool, true, false, Option, Some, None, slice_index_or}
use Rattle.interval_model.specs.Interval.{Interval}
use Rattle.ival.specs.declared.ends.Ival.{Ival}
use Rattle.ival.specs.declared.row_parts.Rows.{Rows}
use Rattle.ival.specs.Views.{interval_of}
use Rattle.ival.specs.RowViews.{rows_of, marks_of}

-- an interval that may be absent
abbrev pub option_of : Option Ival → Option Interval
option_of None = None
option_of (Some i) = Some (interval_of i)

abbrev pub kept : Bool → Interval → Option Interval
kept true i = Some i
kept false i = None

abbrev pub options : List Bool → List Interval → List (Option Interval)
options (m ∷ marks) (i ∷ is) = kept m i ∷ options marks is
options _ _ = []

abbrev pub options_of : Rows → List (Option Interval)
options_of r = options (marks_of r) (rows_of r)

abbrev pub option_at : Rows → ℕ → Option Interval
option_at r k = slice_index_or (options_of r) k None
