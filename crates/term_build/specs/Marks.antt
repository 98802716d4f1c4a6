-- How much a builder has made, and what stays where it goes back.
use Rattle.std.specs.Prelude.{ℕ, [], ◌∷◌, ◌++◌, length, take}
use Rattle.dyadic.specs.Point.{Sort}
use Rattle.term_build.specs.Built.{BuilderModel}
use Rattle.term_build.specs.declared.mark.Mark.{Mark}

-- how many sorts, expressions, nodes, atoms and nodes of the form there are
pub record Counts : Type 0 where
  pub sorts : ℕ
  pub size : ℕ
  pub nodes : ℕ
  pub atoms : ℕ
  pub forms : ℕ

abbrev pub counts_of : BuilderModel → Counts
counts_of m = record { sorts = length m.sorts; size = m.size; nodes = length m.nodes; atoms = length m.atoms; forms = length m.forms }

abbrev pub counts_in : Mark → Counts
counts_in k = record { sorts = k.sorts; size = k.size; nodes = k.nodes; atoms = k.atoms; forms = k.forms }

-- only so many of each stay, the first ones
abbrev pub taken : Counts → BuilderModel → BuilderModel
taken c m = record { sorts = take c.sorts m.sorts; size = c.size; nodes = take c.nodes m.nodes; atoms = take c.atoms m.atoms; forms = take c.forms m.forms }

-- one more constant, of this sort
abbrev pub with_sort : BuilderModel → Sort → BuilderModel
with_sort m s = record { sorts = m.sorts ++ (s ∷ []); size = m.size; nodes = m.nodes; atoms = m.atoms; forms = m.forms }
