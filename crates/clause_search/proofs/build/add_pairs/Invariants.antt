use Rattle.std.proofs.Common.{◌≡◌, ◌++◌, take}
use Rattle.clause_search.specs.Encoding.{pairs_at}
use Rattle.clause_search.proofs.build.add_pairs.Given as goal

abbrev pub invariant-loop-child : goal.invariant-loop-child
invariant-loop-child l = l.made ≡ l.initial.made ++ pairs_at l.problem l.first l.positive (take l.child-index l.children)
