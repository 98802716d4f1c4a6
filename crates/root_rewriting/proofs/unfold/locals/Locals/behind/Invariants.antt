use Rattle.std.proofs.Common.{◌≡◌, ◌++◌, drop, map, rc_value}
use Rattle.root_rewriting.specs.Locals.{all_levels}
use Rattle.root_rewriting.proofs.unfold.locals.Locals.behind.Given as goal

abbrev pub invariant-loop-i : goal.invariant-loop-i
invariant-loop-i l = l.fn.nearest ++ all_levels (map rc_value l.self-inside.levels.items) ≡ all_levels (map rc_value l.levels.items) ++ all_levels (map rc_value (drop l.i l.self-inside.levels.items))
