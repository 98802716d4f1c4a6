use Rattle.poly_graph.specs.Views.{node_of}
use Rattle.term_build.proofs.Makes.{kept_make, seen_make}
use Rattle.term_build.proofs.builder.Builder.make.Goals as goal

pub invariant_of-self : goal.invariant_of-self
invariant_of-self c = kept_make _ _ c.intern-made.new.self (node_of c.args.node) c.intern-made.result c.self.view_is c.self.invariant c.requires.after c.requires.fits c.graph_is_shared.ensures c.intern-made.ensures

pub returns-clause-does : goal.returns-clause-does
returns-clause-does c =
    seen_make _ _ c.intern-made.new.self (node_of c.args.node) c.intern-made.result c.limited.result c.self.view_is c.limited.ensures c.self.invariant c.requires.after c.requires.fits c.graph_is_shared.ensures c.intern-made.ensures
