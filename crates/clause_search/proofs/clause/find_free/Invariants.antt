use Rattle.std.proofs.Common.{◌⊎◌, ℕ, ◌<◌, IsTrue, get_or}
use Rattle.clause_search.specs.declared.literal.Literal.{Literal}
use Rattle.clause_search.specs.Table.{is_false}
use Rattle.clause_search.specs.Found.{IsOther}
use Rattle.clause_search.proofs.clause.find_free.Given as goal

abbrev pub invariant-loop-literal : goal.invariant-loop-literal
invariant-loop-literal l = (k : ℕ) (d : Literal) → k < l.literal-index → IsOther l.other (get_or l.clause k d) ⊎ IsTrue (is_false l.values (get_or l.clause k d))
