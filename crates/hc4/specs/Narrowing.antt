-- What an atom leaves of a space.
use Rattle.std.specs.Prelude.{ℕ, List}
use Rattle.dyadic.specs.Rounding.{two_to_minus}
use Rattle.poly_graph.specs.declared.node.Atom.{Atom}
use Rattle.poly_graph.specs.Term.{Node}
use Rattle.poly_graph.specs.Views.{kind_of}
use Rattle.cover_model.specs.OffRange.{off_range}
use Rattle.cover_model.specs.Space.{range}
use Rattle.cover_model.specs.Narrowed.{narrowed_by}
use Rattle.ival.specs.declared.narrowed.Narrowed.{Narrowed}
use Rattle.ival.specs.declared.space.Space.{Space}
use Rattle.ival.specs.Narrows.{IsNarrowed}
use Rattle.ival.specs.SpaceViews.{space_of}

-- the new space is what the atom, which holds but for 2 to the power of minus `loosen`, leaves of the old one
abbrev pub IsNarrowedByAtom : List Node → Atom → ℕ → Space → Space → Narrowed → Type 0
IsNarrowedByAtom nodes a loosen old new =
    IsNarrowed (space_of old) (space_of new) (narrowed_by nodes a.term (range (two_to_minus loosen) (kind_of a.kind)) (space_of old))

-- the new space is what the atom, which fails at the loosening of 2 to the power of minus `loosen`, leaves of the old one
abbrev pub IsNarrowedOff : List Node → Atom → ℕ → Space → Space → Narrowed → Type 0
IsNarrowedOff nodes a loosen old new =
    IsNarrowed (space_of old) (space_of new) (narrowed_by nodes a.term (off_range (two_to_minus loosen) (kind_of a.kind)) (space_of old))
