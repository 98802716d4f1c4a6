use Rattle.std.proofs.Common.{map, Vec, Global}
use Rattle.script_forms.specs.Unfolded.{chain}
use Rattle.term_build.specs.Shapes.{sketch_of}
use Rattle.term_build.specs.declared.connectives.Pair.{Pair}
use Rattle.value_build.specs.Chains.{two_of}
use Rattle.value_build.specs.Operators.{bool_equality}
use Rattle.value_build.specs.declared.chains.Spread.TheVariants.{Next}
use Rattle.value_build.proofs.Operating.{connects_ended, connects_joined, equal_spread}
use Rattle.value_build.proofs.operate.equal.Goals as goal

pub returns-in_err-links : goal.returns-in_err-links
returns-in_err-links c = connects_ended (λ (ps : Vec Pair Global). ps.items) Next (two_of Next) bool_equality (map sketch_of c.args.sketch.now.items) (map sketch_of c.connect_each.new.sketch.items) c.args.pairs.now c.connect_each.result c.from_residual.result c.from_residual.ensures.0 c.connect_each.ensures

pub returns : goal.returns
returns c = connects_joined (λ (ps : Vec Pair Global). ps.items) Next (two_of Next) chain bool_equality (map sketch_of c.args.sketch.now.items) (map sketch_of c.connect_each.new.sketch.items) (map sketch_of c.chain.new.sketch.items) c.args.pairs.now c.in_ok-links.links c.deref.result.now c.chain.result c.deref.ensures.value equal_spread c.in_ok-links.ensures c.chain.ensures
