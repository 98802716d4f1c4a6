use Rattle.std.proofs.Common.{◌≡◌, drop, map, rc_value}
use Rattle.problem_build.specs.Locals.{all_levels, local_value}
use Rattle.problem_build.proofs.locals.Locals.value_of.Given as goal

abbrev pub invariant-loop-i : goal.invariant-loop-i
invariant-loop-i l = local_value l.name (all_levels (map rc_value l.self-inside.levels.items)) ≡ local_value l.name (all_levels (map rc_value (drop l.i l.self-inside.levels.items)))
