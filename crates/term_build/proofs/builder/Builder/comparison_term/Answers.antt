use Rattle.poly_graph.specs.Views.{kind_of}
use Rattle.smt_sexp.specs.Views.{place_of}
use Rattle.term_build.proofs.Compares.{term_left}
use Rattle.term_build.proofs.builder.Builder.comparison_term.Goals as goal

pub returns-then-is_zero-clause-does : goal.returns-then-is_zero-clause-does
returns-then-is_zero-clause-does c = term_left c.args.self.now (place_of c.args.at) c.args.left c.args.right (kind_of c.args.kind) c.requires.first c.if-is_zero.ensures
