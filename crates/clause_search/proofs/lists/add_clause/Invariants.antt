use Rattle.std.proofs.Common.{ℕ, ◌<◌, get_or}
use Rattle.std.specs.Prelude.{Contains}
use Rattle.clause_search.specs.declared.literal.Literal.{Literal}
use Rattle.clause_search.specs.Lists.{list_at, code_of, KeepsLists}
use Rattle.clause_search.proofs.lists.add_clause.Given as goal

abbrev pub invariant-loop-literal : goal.invariant-loop-literal
invariant-loop-literal l = KeepsLists l.fn.lists l.lists × ((k : ℕ) (d : Literal) → k < l.literal-index → Contains (list_at l.lists (code_of l.atoms l.axes (get_or l.literals k d))) l.clause)
