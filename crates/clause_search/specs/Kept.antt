-- Clauses as the code keeps them.
use Rattle.std.specs.Prelude.{List, map}
use Rattle.std.specs.declared.vec.Vec.{Vec}
use Rattle.std.specs.declared.alloc.Global.{Global}
use Rattle.clause_search.specs.declared.literal.Literal.{Literal}

abbrev pub clauses_of : List (Vec Literal Global) → List (List Literal)
clauses_of vs = map (λ v. v.items) vs
