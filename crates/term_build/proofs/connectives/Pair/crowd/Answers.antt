use Rattle.std.proofs.Common.{map}
use Rattle.term_build.specs.Shapes.{sketch_of}
use Rattle.term_build.proofs.Pairs.{adds_crowd}
use Rattle.term_build.proofs.connectives.Pair.crowd.Goals as goal

pub returns : goal.returns
returns c = adds_crowd (map sketch_of c.args.sketch.now.items) (map sketch_of c.add_pair.new.sketch.items) c.args.links.now c.in_ok-truths.truths.items c.in_ok-negations.negations.items c.add_pair.result c.in_ok-truths.ensures c.in_ok-negations.ensures c.add_pair.ensures
