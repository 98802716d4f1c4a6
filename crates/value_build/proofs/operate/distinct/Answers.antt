use Rattle.std.proofs.Common.{map}
use Rattle.term_build.specs.Shapes.{sketch_of}
use Rattle.value_build.proofs.Operating.{from_first}
use Rattle.value_build.proofs.operate.distinct.Goals as goal

pub returns : goal.returns
returns c = from_first (map sketch_of c.args.sketch.now.items) (map sketch_of c.many_distinct.new.sketch.items) c.in-Some.first.now c.in-Some.later.now c.args.pairs.now c.many_distinct.result c.in-Some.ensures.cases.0 c.many_distinct.ensures
