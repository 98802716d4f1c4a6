use Rattle.std.proofs.Common.{◌≡◌, ◌+◌, drop}
use Rattle.poly_graph.specs.FormGraph.{forms_size}
use Rattle.goal_limit.proofs.forms.forms_size.Given as goal

abbrev pub invariant-loop-k : goal.invariant-loop-k
invariant-loop-k l = l.size + forms_size (drop l.k l.forms) ≡ forms_size l.forms
