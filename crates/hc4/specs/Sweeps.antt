-- What a sweep starts from, and what it leaves in its scratch.
use Rattle.std.specs.Prelude.{◌≡◌, ◌⊎◌, ℕ, List, Option, Some, None, slice_get, slice_index_or}
use Rattle.interval_model.specs.Interval.{Interval, nothing}
use Rattle.cover_model.specs.Narrowed.{narrowed}
use Rattle.cover_model.specs.NodeEnclosure.{row}
use Rattle.ival.specs.declared.ends.Ival.{Ival}
use Rattle.ival.specs.declared.row_parts.Rows.{Rows}
use Rattle.ival.specs.Views.{interval_of}
use Rattle.ival.specs.RowViews.{rows_of}
use Rattle.ival.specs.Options.{option_at}
use Rattle.poly_graph.specs.Term.{Node}
use Rattle.hc4.specs.Pushed.{kept_by}

-- what stands in a place stands for this interval: itself, or where nothing stands the enclosure e of the place, if that is not empty
abbrev pub StandsFor : Interval → Option Interval → Option Interval → Type 0
StandsFor e o i = (o ≡ i) ⊎ ((o ≡ None) × (i ≡ Some e) × (e ≡ nothing → ⊥))

-- the narrowed intervals of the nodes under the root, which lies in the range
abbrev pub narrowed_under : List Node → Rows → ℕ → Ival → List (Option Interval)
narrowed_under nodes rows root within_range = narrowed nodes (rows_of rows) root (interval_of within_range)

-- of the nodes with these enclosures and narrowed intervals, those of the variables
abbrev pub HasVariables : List Node → List Interval → List (Option Interval) → Rows → Type 0
HasVariables nodes es ns scratch = (k : ℕ) (n : Node) → slice_get nodes k ≡ Some n → StandsFor (row es k) (option_at scratch k) (kept_by n (slice_index_or ns k None))
