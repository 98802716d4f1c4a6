-- What a sweep over the nodes of a table does at each.
use Rattle.std.specs.Prelude.{ℕ, zero, suc, List, [], ◌∷◌, Bool, true, slice_set}
use Rattle.dyadic.specs.Fraction.{Fraction}
use Rattle.script_model.specs.Declared.{Side, DeclaredInterval}
use Rattle.declared_box.specs.Table.{Node, one, all}
use Rattle.declared_box.specs.Interval.{tightened}

abbrev pub marked_all : List Bool → List ℕ → List Bool
marked_all marks [] = marks
marked_all marks (k ∷ rest) = marked_all (slice_set marks k true) rest

abbrev pub tightened_at : ℕ → Side → Fraction → List DeclaredInterval → List DeclaredInterval
tightened_at axis s value [] = []
tightened_at zero s value (i ∷ rest) = tightened s value i ∷ rest
tightened_at (suc axis) s value (i ∷ rest) = i ∷ tightened_at axis s value rest

-- the parts of a visited node are marked
abbrev pub marks_after : Node → List Bool → List Bool
marks_after (one axis s value) marks = marks
marks_after (all parts) marks = marked_all marks parts

-- the bound of a visited node counts
abbrev pub intervals_after : Node → List DeclaredInterval → List DeclaredInterval
intervals_after (one axis s value) intervals = tightened_at axis s value intervals
intervals_after (all parts) intervals = intervals
