use Rattle.term_build.specs.Steps.{tree_of}
use Rattle.term_build.proofs.Powers.{repeats_not, repeats_same}
use Rattle.std.proofs.Common.{◌∙◌}
use Rattle.term_build.proofs.builder.Builder.repeats.Goals as goal

pub returns-in-Some : goal.returns-in-Some
returns-in-Some c = repeats_not (tree_of c.args.self.now c.args.a) (tree_of c.args.self.now c.args.b) c.in-Some.ensures

pub returns-in-None : goal.returns-in-None
returns-in-None c = c.is_same.ensures ∙ repeats_same (tree_of c.args.self.now c.args.a) (tree_of c.args.self.now c.args.b) c.in-None.ensures
