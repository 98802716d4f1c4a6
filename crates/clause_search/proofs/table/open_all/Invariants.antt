use Rattle.std.proofs.Common.{◌≡◌, ℕ, ◌<◌, get_or}
use Rattle.clause_search.specs.declared.table.Value.{Value}
use Rattle.clause_search.specs.declared.table.Value.TheVariants.{Open}
use Rattle.clause_search.proofs.table.open_all.Given as goal

abbrev pub invariant-loop-value : goal.invariant-loop-value
invariant-loop-value l = (k : ℕ) (d : Value) → k < l.value-index → get_or l.values k d ≡ Open
