use Rattle.smt_sexp.specs.Views.{place_of}
use Rattle.poly_graph.specs.Views.{node_of}
use Rattle.term_build.proofs.Emits.{product_done}
use Rattle.term_build.proofs.builder.Builder.product.Goals as goal

pub returns-clause-does : goal.returns-clause-does
returns-clause-does c = product_done c.args.self.now c.make.new.self (place_of c.args.at) c.args.a c.args.b (node_of c.product_node-factors.result) c.make.result c.is_same.result
    c.requires.apart c.is_same.ensures c.product_node-factors.ensures c.make.ensures.does
