use Rattle.std.proofs.Common.{◌≡◌, drop, map, rc_value}
use Rattle.sort_check.specs.Locals.{all_levels, local_sort}
use Rattle.sort_check.proofs.locals.Locals.sort_of.Given as goal

abbrev pub invariant-loop-i : goal.invariant-loop-i
invariant-loop-i l = local_sort l.name (all_levels (map rc_value l.self-inside.levels.items)) ≡ local_sort l.name (all_levels (map rc_value (drop l.i l.self-inside.levels.items)))
