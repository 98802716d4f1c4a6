use Rattle.std.proofs.Common.{ap, eqb→eq, subst}
use Rattle.poly_graph.specs.Shared.{IsGraph}
use Rattle.std.proofs.lemmas.Bool.{eq-eqb}
use Rattle.std.specs.Bool.{passes}
use Rattle.poly_graph.specs.Term.{graph_terms}
use Rattle.poly_graph.proofs.Graphs.{term_at}
use Rattle.poly_graph.proofs.Same.{one_number}
use Rattle.poly_graph.proofs.graph.Graph.same_term.Goals as goal

pub returns : goal.returns
returns c = (
  λ h. ap (λ k. term_at (graph_terms c.args.self.now) k) (eqb→eq c.args.a c.args.b (passes _ h)),
  λ h. eq-eqb c.args.a c.args.b (one_number c.args.self.now (subst IsGraph c.self.view_is c.self.invariant) c.args.a c.args.b c.requires.first c.requires.second h),
)
