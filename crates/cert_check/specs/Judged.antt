-- Which atoms' rows miss their ranges.
use Rattle.std.specs.Prelude.{◌≡◌, ℕ, ◌<◌, ◌≤◌, List, length, Bool, false, slice_index_or}
use Rattle.dyadic.specs.Rounding.{two_to_minus}
use Rattle.interval_model.specs.Interval.{Interval, met, is_nothing}
use Rattle.interval_model.specs.Space.{Space}
use Rattle.poly_graph.specs.Problem.{atom_at}
use Rattle.poly_graph.specs.ProblemViews.{Parts, problem_of}
use Rattle.poly_graph.specs.Views.{kind_of}
use Rattle.poly_graph.specs.declared.node.Atom.{Atom}
use Rattle.cover_model.specs.NodeEnclosure.{row}
use Rattle.cover_model.specs.Space.{range}
use Rattle.cover_model.specs.State.{misses}
use Rattle.cert_check.specs.declared.judged.Judged.{Judged}

-- the row of an atom's term misses its range at a margin of so many bits
abbrev pub atom_misses : ℕ → List Interval → Atom → Bool
atom_misses margin es atom =
    is_nothing (met (row es atom.term) (range (two_to_minus margin) (kind_of atom.kind)))

-- the same of the atom of this number
abbrev pub row_misses : Parts → ℕ → List Interval → ℕ → Bool
row_misses p margin es j = is_nothing (met (row es (atom_at (problem_of p) j).0) (range (two_to_minus margin) (atom_at (problem_of p) j).1))

abbrev pub is_missing : Judged → ℕ → Bool
is_missing g j = slice_index_or g.misses.items j false

-- each atom is judged by its row
pub record AreJudged (p : Parts) (es : List Interval) (g : Judged) : Type 0 where
  pub margin : g.margin ≤ 120
  pub count : length g.misses.items ≡ length p.atoms
  pub each : (j : ℕ) → j < length p.atoms → is_missing g j ≡ row_misses p g.margin es j

-- each atom is judged by its enclosure over the space
pub record AreJudgedOver (p : Parts) (space : Space) (g : Judged) : Type 0 where
  pub count : length g.misses.items ≡ length p.atoms
  pub each : (j : ℕ) → j < length p.atoms → is_missing g j ≡ misses (problem_of p) (two_to_minus g.margin) space j
