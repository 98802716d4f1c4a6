use Rattle.std.proofs.Common.{List, ◌<◌, length, arith, subst, sym}
use Rattle.poly_graph.specs.FormGraph.{FormNode}
use Rattle.poly_graph.specs.ProblemViews.{IsWhole, parts_of}
use Rattle.contraction_rows.proofs.TriedCnfBuild.{whole_of}
use Rattle.contraction_rows.proofs.problems.problem.Goals as goal

pub new-requires : goal.new-requires
new-requires c =
    let low : c.args.root < length c.add_all.new.forms = omega (arith, c.len.ensures.len, c.if-root-len.false) in
    subst (λ (forms : List FormNode). IsWhole (parts_of c.in_ok-axes.field-0.items c.in-Some.graph c.in_ok-atoms.atoms.items forms c.args.root)) (sym c.into_graph.ensures)
    (whole_of _ c.in-Some.graph _ c.add_all.new.forms c.args.root c.in_ok-axes.ensures c.in-Some.ensures c.in_ok-atoms.ensures c.in_ok-add_all.ensures low)
