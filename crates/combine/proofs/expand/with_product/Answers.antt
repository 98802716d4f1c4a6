use Rattle.std.proofs.Common.{Some, ap, ◌∙◌}
use Rattle.interval_model.specs.Interval.{Interval, interval_sum}
use Rattle.poly_graph.specs.declared.node.Node.{Node}
use Rattle.poly_graph.specs.Views.{node_of}
use Rattle.cover_model.specs.Combination.{product_rest}
use Rattle.ival.specs.Views.{interval_of}
use Rattle.ival.specs.RowViews.{rows_of}
use Rattle.ival.proofs.Facts.{interval_kept}
use Rattle.combine.specs.Parts.{expansion_with}
use Rattle.cover_model.proofs.CombinationNoughts.{sum_nought}
use Rattle.combine.proofs.expand.with_product.Goals as goal

pub returns-then-is_exact : goal.returns-then-is_exact
returns-then-is_exact c parts =
    let es = rows_of c.args.enclosures.now.rows.now in let cs = rows_of c.args.enclosures.now.centre_rows.now in let rest = interval_of c.args.rest in
    ap (λ (n : Node). product_rest es cs (Some (interval_of c.args.linear)) (node_of n) (expansion_with parts rest)) c.in-Mul.is
    ∙ ap (λ (i : Interval). expansion_with parts (interval_sum rest i)) (c.is_exact.ensures c.if-is_exact.true)
    ∙ ap (expansion_with parts) (sum_nought rest (interval_kept c.args.rest))
