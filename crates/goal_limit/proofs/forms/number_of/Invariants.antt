use Rattle.std.proofs.Common.{◌≡◌, ℕ, ◌<◌, Some}
use Rattle.std.specs.Prelude.{slice_get}
use Rattle.poly_graph.specs.FormViews.{form_node_of}
use Rattle.goal_limit.proofs.forms.number_of.Given as goal

abbrev pub invariant-loop-k : goal.invariant-loop-k
invariant-loop-k l = (i : ℕ) → i < l.k → slice_get l.forms i ≡ Some (form_node_of l.node) → ⊥
