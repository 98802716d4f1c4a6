use Rattle.std.proofs.Common.{map}
use Rattle.term_build.specs.Shapes.{sketch_of}
use Rattle.term_build.proofs.Pairs.{writes_bool}
use Rattle.term_build.proofs.connectives.Pair.bool_is.Goals as goal

pub returns : goal.returns
returns c = writes_bool (map sketch_of c.args.sketch.now.items) (map sketch_of c.add_pair.new.sketch.items) c.args.axis c.add_pair.result c.add_pair.ensures
