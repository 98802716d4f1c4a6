use Rattle.std.proofs.Common.{◌≡◌, ◌∷◌, take}
use Rattle.clause_search.specs.Encoding.{literals_at}
use Rattle.clause_search.proofs.build.add_all.Given as goal

abbrev pub invariant-loop-child : goal.invariant-loop-child
invariant-loop-child l = l.clause.items ≡ l.fn.first ∷ literals_at l.problem l.positive (take l.child-index l.children)
