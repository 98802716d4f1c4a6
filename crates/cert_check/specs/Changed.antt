-- A state that is made of another one by changes.
use Rattle.std.specs.Prelude.{ℕ, List, [], ◌∷◌, slice_set}
use Rattle.cover_model.specs.State.{State}
use Rattle.poly_graph.specs.MarkViews.{mark_of}
use Rattle.ival.specs.SpaceViews.{domain_of}
use Rattle.cert_check.specs.declared.changes.Changes.{Changes}

-- each of the places gets its value
abbrev pub placed : {A B : Type 0} (f : A → B) → List (ℕ × A) → List B → List B
placed f [] xs = xs
placed f (c ∷ cs) xs = placed f cs (slice_set xs c.0 (f c.1))

abbrev pub changed : Changes → State → State
changed c S = record { space = placed domain_of c.axes.items S.space; marks = placed mark_of c.marks.items S.marks }
