use Rattle.std.proofs.Common.{◌≡◌, drop, map, rc_value}
use Rattle.root_rewriting.specs.Locals.{all_levels, local_node}
use Rattle.root_rewriting.proofs.unfold.locals.Locals.node_of.Given as goal

abbrev pub invariant-loop-i : goal.invariant-loop-i
invariant-loop-i l = local_node l.name (all_levels (map rc_value l.self-inside.levels.items)) ≡ local_node l.name (all_levels (map rc_value (drop l.i l.self-inside.levels.items)))
