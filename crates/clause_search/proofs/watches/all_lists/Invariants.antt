use Rattle.std.proofs.Common.{◌≡◌, ◌*◌, vec_len}
use Rattle.clause_search.specs.Lists.{AreListedBelow}
use Rattle.clause_search.proofs.watches.all_lists.Given as goal

abbrev pub invariant-loop-i : goal.invariant-loop-i
invariant-loop-i l = AreListedBelow l.cnf l.lists l.i × (vec_len l.lists ≡ 2 * l.places)
