use Rattle.std.proofs.Common.{map, ap, Vec, Global}
use Rattle.script_forms.specs.Unfolded.{and_of, xor_of}
use Rattle.term_build.specs.Shapes.{sketch_of}
use Rattle.term_build.specs.declared.connectives.Pair.{Pair}
use Rattle.value_build.specs.Chains.{two_of}
use Rattle.value_build.specs.Operators.{bool_distinctness}
use Rattle.value_build.specs.declared.chains.Spread.TheVariants.{Later}
use Rattle.value_build.proofs.Spreads.{spread_later}
use Rattle.value_build.proofs.Operating.{connects_ended, connects_joined}
use Rattle.value_build.proofs.operate.few_distinct.Goals as goal

pub returns-in_err-links : goal.returns-in_err-links
returns-in_err-links c = connects_ended (λ (ps : Vec Pair Global). ps.items) Later (two_of Later) bool_distinctness (map sketch_of c.args.sketch.now.items) (map sketch_of c.connect_each.new.sketch.items) c.args.pairs.now c.connect_each.result c.from_residual.result c.from_residual.ensures.0 c.connect_each.ensures

pub returns : goal.returns
returns c = connects_joined (λ (ps : Vec Pair Global). ps.items) Later (two_of Later) and_of bool_distinctness (map sketch_of c.args.sketch.now.items) (map sketch_of c.connect_each.new.sketch.items) (map sketch_of c.all.new.sketch.items) c.args.pairs.now c.in_ok-links.links c.deref.result.now c.all.result c.deref.ensures.value (λ us. ap and_of (spread_later xor_of us)) c.in_ok-links.ensures c.all.ensures
