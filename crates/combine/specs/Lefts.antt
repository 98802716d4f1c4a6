-- What is left to the parts' axes.
use Rattle.std.specs.Prelude.{◌≡◌, ℕ, List, [], ◌∷◌, false, slice_index_or}
use Rattle.interval_model.specs.Interval.{Interval, is_nothing}
use Rattle.ival.specs.declared.ends.Ival.{Ival}
use Rattle.ival.specs.declared.ends.Ival.TheVariants.{Empty}
use Rattle.ival.specs.Views.{interval_of}
use Rattle.combine.specs.declared.part.Part.{Part}

-- each part's axis with what is left to it
abbrev pub pairs : List Part → List Ival → List (ℕ × Interval)
pairs (x ∷ xs) (i ∷ is) = (x.axis, interval_of i) ∷ pairs xs is
pairs _ _ = []

-- something is left in this place
abbrev pub IsLeft : List Ival → ℕ → Type 0
IsLeft lefts k = is_nothing (interval_of (slice_index_or lefts k Empty)) ≡ false
