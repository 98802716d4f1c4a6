-- What a checker judges of a problem over a space of the code, with loosenings of so many bits.
use Rattle.std.specs.Prelude.{ℕ, Bool}
use Rattle.dyadic.specs.Rounding.{two_to_minus}
use Rattle.interval_model.specs.Interval.{Interval}
use Rattle.cover_model.specs.OffRange.{off_range}
use Rattle.cover_model.specs.Space.{range}
use Rattle.cover_model.specs.Narrowed.{narrowed_by}
use Rattle.cover_model.specs.State.{sure_within, atom_enclosure, misses, sure_at}
use Rattle.poly_graph.specs.Problem.{atom_at}
use Rattle.poly_graph.specs.ProblemViews.{Parts, problem_of}
use Rattle.ival.specs.declared.space.Space.{Space}
use Rattle.ival.specs.declared.narrowed.Narrowed.{Narrowed}
use Rattle.ival.specs.SpaceViews.{space_of}
use Rattle.ival.specs.Narrows.{IsNarrowed}

-- the form surely holds at each point
abbrev pub is_sure_over : Parts → ℕ → Space → Bool
is_sure_over p bits space = sure_within (problem_of p) (two_to_minus bits) (space_of space)

-- the enclosure of an atom's term
abbrev pub enclosure_over : Parts → ℕ → Space → Interval
enclosure_over p j space = atom_enclosure (problem_of p) (space_of space) j

-- it misses the atom's range
abbrev pub misses_over : Parts → ℕ → ℕ → Space → Bool
misses_over p bits j space = misses (problem_of p) (two_to_minus bits) (space_of space) j

-- it lies within the atom's range
abbrev pub is_sure_atom_over : Parts → ℕ → ℕ → Space → Bool
is_sure_atom_over p bits j space = sure_at (problem_of p) (two_to_minus bits) (space_of space) j

-- the space is narrowed by the atom
abbrev pub IsNarrowedByAtom : Parts → ℕ → ℕ → Space → Space → Narrowed → Type 0
IsNarrowedByAtom p bits j old new narrowed =
    let atom = atom_at (problem_of p) j in
    IsNarrowed (space_of old) (space_of new) (narrowed_by p.nodes atom.0 (range (two_to_minus bits) atom.1) (space_of old)) narrowed

-- the space is narrowed by the off-range of the atom
abbrev pub IsNarrowedOff : Parts → ℕ → ℕ → Space → Space → Narrowed → Type 0
IsNarrowedOff p bits j old new narrowed =
    let atom = atom_at (problem_of p) j in
    IsNarrowed (space_of old) (space_of new) (narrowed_by p.nodes atom.0 (off_range (two_to_minus bits) atom.1) (space_of old)) narrowed
