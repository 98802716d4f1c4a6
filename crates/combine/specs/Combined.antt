-- What parts, an expansion and a combination leave of a space.
use Rattle.std.specs.Prelude.{◌≡◌, ℕ, ◌<◌, List, map, length, All, Some, None}
use Rattle.dyadic.specs.Rounding.{Dyadic, two_to_minus}
use Rattle.interval_model.specs.Interval.{Interval, interval_sum}
use Rattle.interval_model.specs.Space as model
use Rattle.poly_graph.specs.ProblemViews as problem
use Rattle.cover_model.specs.Combination.{left_to, parts_range, tightened, with_intervals, left_of_space, combined}
use Rattle.cover_model.specs.Narrowed.{enclosures}
use Rattle.cover_model.specs.Views.{multipliers_of}
use Rattle.ival.specs.declared.ends.Ival.{Ival}
use Rattle.ival.specs.declared.narrowed.Narrowed.{Narrowed}
use Rattle.ival.specs.declared.row_parts.Rows.{Rows}
use Rattle.ival.specs.declared.space.Space.{Space}
use Rattle.ival.specs.Narrows.{IsNarrowed}
use Rattle.ival.specs.RowViews.{rows_of}
use Rattle.ival.specs.SpaceViews.{space_of}
use Rattle.ival.specs.Views.{interval_of}
use Rattle.combine.specs.declared.combination.Combination.{Combination}
use Rattle.combine.specs.declared.gathered.Gathered.{Gathered}
use Rattle.combine.specs.declared.part.Part.{Part}
use Rattle.combine.specs.Parts.{part_of, expansion_of, IsPart, AreParts, IsMeasured}
use Rattle.combine.specs.Lefts.{pairs}

abbrev pub ArePartsOver : Space → Space → List Part → Type 0
ArePartsOver space centre parts = AreParts (space_of space) (space_of centre) parts

abbrev pub IsMeasuredOver : Space → Space → Gathered → Type 0
IsMeasuredOver space centre g = IsMeasured (space_of space) (space_of centre) g

-- what is left to the part's axis, whatever the parts after it are, where the rest and the parts before have the range `before`
abbrev pub IsLeftTo : Part → Space → Space → Ival → Ival → Ival → Type 0
IsLeftTo x space centre allowed before left = (later : List Part) → IsPart (space_of space) (space_of centre) x later →
    interval_of left ≡ left_to (space_of space) (space_of centre) (interval_of allowed)
    (interval_sum (interval_of before) (parts_range (space_of space) (space_of centre) (map part_of later))) (part_of x)

-- each part's axis with what is left to it, where the rest has the range `rest`
abbrev pub tightened_parts : Space → Space → Ival → Ival → List Part → List (ℕ × Interval)
tightened_parts space centre allowed rest parts = tightened (space_of space) (space_of centre) (interval_of allowed) (interval_of rest) (map part_of parts)

-- nothing is left to one of these axes, whatever the space
abbrev pub LeavesNothing : List (ℕ × Interval) → Type 0
LeavesNothing items = (s : model.Space) → with_intervals items s ≡ None

-- the parts' axes are set to this, from the old space to the new one
abbrev pub AreSet : List Part → List Ival → Space → Space → Type 0
AreSet parts lefts old new = with_intervals (pairs parts lefts) (space_of old) ≡ Some (space_of new)

-- the new space is what is left of the old one, by the parts
abbrev pub IsNarrowedByParts : List Part → Space → Ival → Ival → Space → Space → Narrowed → Type 0
IsNarrowedByParts parts centre allowed rest old new =
    IsNarrowed (space_of old) (space_of new) (with_intervals (tightened_parts old centre allowed rest parts) (space_of old))

-- by the expansion
abbrev pub IsNarrowedByExpansion : Gathered → Space → Ival → Space → Space → Narrowed → Type 0
IsNarrowedByExpansion g centre allowed old new =
    IsNarrowed (space_of old) (space_of new) (left_of_space (space_of old) (space_of centre) (interval_of allowed) (expansion_of g))

-- ---- a combination

-- the combination names atoms of its problem
abbrev pub NamesAtoms : Combination → Type 0
NamesAtoms c = All (λ (x : ℕ × Dyadic). x.0 < length c.problem.now.atoms) (multipliers_of c.multipliers.now)

-- the rows are the enclosures over the space
abbrev pub EncloseOver : problem.Parts → Space → Rows → Type 0
EncloseOver p space rows = rows_of rows ≡ enclosures (space_of space) p.nodes

-- the new space is what the combination, loosened by 2 to the power of minus `loosen`, leaves of the old one
abbrev pub IsNarrowedByCombination : Combination → Space → Space → Narrowed → Type 0
IsNarrowedByCombination c old new =
    IsNarrowed (space_of old) (space_of new) (combined (problem.problem_of c.problem.now) (two_to_minus c.loosen) c.lits.now (space_of old) (multipliers_of c.multipliers.now))
