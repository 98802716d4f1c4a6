-- Marks that are set one after the other.
use Rattle.std.specs.Prelude.{◌≡◌, ℕ, List, [], ◌∷◌, true, false, Option, Some, None, slice_set}
use Rattle.poly_graph.specs.Marks.{Mark, marks_of}
use Rattle.cert_model.specs.Due.{apart}

-- each of the atoms gets the mark
abbrev pub marked : List Mark → List ℕ → Mark → List Mark
marked marks [] m = marks
marked marks (j ∷ js) m = marked (slice_set marks j m) js m

-- the marks of two lists of atoms, where these have none in common
abbrev pub IsMarked : ℕ → List ℕ → List ℕ → Option (List Mark) → Type 0
IsMarked n ys ns None = apart ys ns ≡ false
IsMarked n ys ns (Some marks) = (apart ys ns ≡ true) × (marks ≡ marks_of n ys ns)
