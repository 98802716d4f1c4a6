use Rattle.std.proofs.Common.{◌≡◌, ◌++◌, length, map}
use Rattle.script_model.specs.Meaning.{neighbours}
use Rattle.script_roots.specs.TreeBounds.{all_ends}
use Rattle.sort_check.specs.Views.{operator_of}
use Rattle.root_rewriting.specs.Nodes.{AreBelow}
use Rattle.root_rewriting.specs.Ends.{compared, ends_of_all}
use Rattle.root_rewriting.specs.Shapes.{shape_at}
use Rattle.root_rewriting.proofs.range.ends.push_chain.Given as goal

-- what is left leads to the same ends
abbrev pub invariant-loop-rest : goal.invariant-loop-rest
invariant-loop-rest l = AreBelow (length l.shapes) l.rest ×
    (ends_of_all l.ends.items ++ all_ends (neighbours (compared (operator_of l.operator)) (map (shape_at l.shapes) l.rest)) ≡
    ends_of_all l.initial.ends.items ++ all_ends (neighbours (compared (operator_of l.operator)) (map (shape_at l.shapes) l.parts)))

abbrev pub decreases-loop-rest : goal.decreases-loop-rest
decreases-loop-rest l = length l.rest
