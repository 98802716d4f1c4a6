use Rattle.std.proofs.Common.{◌∙◌}
use Rattle.poly_graph.specs.Views.{node_of}
use Rattle.term_build.proofs.Emits.{variable_seen}
use Rattle.term_build.proofs.builder.Builder.axis_at.Goals as goal

pub returns : goal.returns
returns c = c.axis_of.ensures ∙ variable_seen _ _ c.args.k (node_of c.node.result) c.self.view_is c.self.invariant c.node.ensures
