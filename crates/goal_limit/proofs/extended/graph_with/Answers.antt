use Rattle.std.proofs.Common.{sym, ap, ap₂, ◌∙◌, subst, take, length, ◌++◌}
use Rattle.std.proofs.Math.Seq.{take-length}
use Rattle.dyadic.specs.Views.{fraction_of_frac}
use Rattle.poly_graph.specs.Shared.{IsGraph}
use Rattle.cert_model.specs.Limited.{limit_nodes}
use Rattle.goal_limit.proofs.Graphs.{limit_graph}
use Rattle.goal_limit.proofs.extended.graph_with.Goals as goal

pub joined-requires-clause-graph : goal.joined-requires-clause-graph
joined-requires-clause-graph c =
    let g = c.args.graph.now in
    let a = fraction_of_frac c.args.constants.scale in
    let b = fraction_of_frac c.args.constants.offset in
    let whole = limit_graph g c.args.term a b c.len.ensures.graph c.requires.room c.requires.term c.requires.scale c.requires.offset in
    let same = ap₂ (λ k n. take k g ++ limit_nodes n c.args.term a b) c.len.ensures.len c.len-n.ensures.len ∙ ap (λ ns. ns ++ limit_nodes (length g) c.args.term a b) (take-length g) in
    subst IsGraph (sym same) whole
