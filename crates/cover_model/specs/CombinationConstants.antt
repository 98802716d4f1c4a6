-- What an expansion may leave out: a constant that is added or multiplied is handed nothing, since no expansion depends on the
-- adjoint of a constant; and nothing is multiplied by 1.
use Rattle.std.specs.Prelude.{ℕ, ◌^◌, List, Bool, true, false, Option, Some, pos, slice_get}
use Rattle.interval_model.specs.Interval.{Interval, interval_product}
use Rattle.poly_graph.specs.Term.{Node, constant_node, add_node, multiply_node}
use Rattle.cover_model.specs.NodeEnclosure.{row}
use Rattle.cover_model.specs.Combination.{Adjoints, only, handed, handed_down}

abbrev pub one_alone : Interval
one_alone = only (record { units = pos (2 ^ 120) })

abbrev pub is_constant : Option Node → Bool
is_constant (Some (constant_node q)) = true
is_constant _ = false

abbrev pub is_constant_at : List Node → ℕ → Bool
is_constant_at nodes k = is_constant (slice_get nodes k)

abbrev pub handed_unless : Bool → ℕ → Interval → Adjoints → Adjoints
handed_unless true a i os = os
handed_unless false a i os = handed a i os

-- what a node hands to its children, but for constants that are added or multiplied
abbrev pub handed_on : List Node → List Interval → Interval → Node → Adjoints → Adjoints
handed_on nodes cs w (add_node a b) os = handed_unless (is_constant_at nodes b) b w (handed_unless (is_constant_at nodes a) a w os)
handed_on nodes cs w (multiply_node a b) os =
    handed_unless (is_constant_at nodes b) b (interval_product w (row cs a)) (handed_unless (is_constant_at nodes a) a (interval_product w (row cs b)) os)
handed_on nodes cs w n os = handed_down cs w n os
