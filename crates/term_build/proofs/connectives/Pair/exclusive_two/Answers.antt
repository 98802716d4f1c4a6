use Rattle.std.proofs.Common.{map}
use Rattle.term_build.specs.Shapes.{sketch_of}
use Rattle.term_build.proofs.Pairs.{exclusive_done}
use Rattle.term_build.proofs.connectives.Pair.exclusive_two.Goals as goal

pub returns : goal.returns
returns c = exclusive_done (map sketch_of c.args.sketch.now.items) (map sketch_of c.choose.new.sketch.items) c.args.first c.args.second c.not.result c.choose.result c.not.ensures.value c.choose.ensures
