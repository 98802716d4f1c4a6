-- What the tables of a trail have places for.
use Rattle.std.specs.Prelude.{ℕ}
use Rattle.clause_search.specs.declared.table.Table.{Table}
use Rattle.clause_search.specs.Table.{HasCounts}

-- every variable has a value, and helpers are not assumed
pub record HasPlaces (atoms axes helpers : ℕ) (values assumed : Table) : Type 0 where
  pub values_counts : HasCounts values atoms axes helpers
  pub assumed_counts : HasCounts assumed atoms axes 0
