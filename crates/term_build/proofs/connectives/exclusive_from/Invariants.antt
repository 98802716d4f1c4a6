use Rattle.std.proofs.Common.{map, drop}
use Rattle.script_forms.specs.Unfolded.{xor_from}
use Rattle.term_build.specs.Shapes.{sketch_of}
use Rattle.term_build.specs.Pairs.{IsLeft}
use Rattle.term_build.proofs.connectives.exclusive_from.Given as goal

abbrev pub invariant-loop-pair : goal.invariant-loop-pair
invariant-loop-pair l = IsLeft xor_from (map sketch_of l.fn.sketch.items) (map sketch_of l.sketch.items) l.fn.first l.rest l.so_far (drop l.pair-index l.rest)
