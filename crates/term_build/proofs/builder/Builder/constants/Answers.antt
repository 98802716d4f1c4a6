use Rattle.std.proofs.Common.{◌∙◌, ap₂}
use Rattle.term_build.specs.Steps.{both_of, tree_of}
use Rattle.term_build.proofs.Emits.{constants_by}
use Rattle.term_build.proofs.builder.Builder.constants.Goals as goal

pub returns : goal.returns
returns c = c.both.ensures ∙ ap₂ both_of c.constant_at.ensures c.constant_at-2.ensures ∙ constants_by (tree_of c.args.self.now c.args.a) (tree_of c.args.self.now c.args.b)
