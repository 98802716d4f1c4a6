use Rattle.std.proofs.Common.{map, take}
use Rattle.poly_graph.specs.Parents.{AreParents}
use Rattle.poly_graph.proofs.parents.Parents.new.Given as goal

abbrev pub invariant-loop-n : goal.invariant-loop-n
invariant-loop-n l = AreParents (take l.n l.graph) (map (λ v. v.items) l.rows.items)
