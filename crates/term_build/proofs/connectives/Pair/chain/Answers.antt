use Rattle.std.proofs.Common.{map, arith}
use Rattle.term_build.specs.Shapes.{sketch_of}
use Rattle.term_build.proofs.Pairs.{chain_more}
use Rattle.term_build.proofs.connectives.Pair.chain.Goals as goal

pub returns : goal.returns
returns c = chain_more (map sketch_of c.args.sketch.now.items) (map sketch_of c.all.new.sketch.items) c.args.pairs.now c.all.result (λ e. omega (arith, e, c.if-pairs-eq1.false)) c.all.ensures
