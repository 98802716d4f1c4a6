use Rattle.std.proofs.Common.{map, length, ◌-◌}
use Rattle.term_build.specs.Shapes.{sketch_of}
use Rattle.term_build.specs.Pairs.{IsRight}
use Rattle.term_build.proofs.connectives.implies_from.Given as goal

abbrev pub invariant-loop-i : goal.invariant-loop-i
invariant-loop-i l = IsRight (map sketch_of l.fn.sketch.items) (map sketch_of l.sketch.items) l.fn.last l.before l.so_far (length l.before - l.i)
