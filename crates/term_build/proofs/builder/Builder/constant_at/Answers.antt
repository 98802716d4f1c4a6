use Rattle.std.proofs.Common.{◌∙◌}
use Rattle.poly_graph.specs.Views.{node_of}
use Rattle.term_build.proofs.Emits.{constant_seen}
use Rattle.term_build.proofs.builder.Builder.constant_at.Goals as goal

pub returns : goal.returns
returns c = c.constant_of.ensures ∙ constant_seen _ _ c.args.k (node_of c.node.result) c.self.view_is c.self.invariant c.node.ensures
