use Rattle.std.proofs.Common.{ap, sym, subst, ◌∙◌, length, arith}
use Rattle.interval_model.specs.Interval.{nothing}
use Rattle.cover_model.proofs.NodeEnclosures.{all_rows}
use Rattle.ival.specs.declared.row_parts.Rows.{Rows}
use Rattle.ival.specs.RowViews.{rows_of}
use Rattle.ival.specs.SpaceViews.{space_of}
use Rattle.plain_eval.specs.Rows.{AreEnclosures}
use Rattle.std.proofs.lemmas.List.{length-replicate}
use Rattle.cert_check.proofs.tools.first_rows.Goals as goal
use Rattle.cert_check.proofs.tools.first_rows.Goals.{then-nodes-gt0, else-nodes-gt0}

pub returns : goal.returns
returns c =
    let nodes = c.args.graph.now in let space = space_of c.in_ok-space.space in
    elim c.if-nodes-gt0.branch [
      | then-nodes-gt0 w ↦ subst (λ (r : Rows). AreEnclosures nodes (rows_of r)) (sym w.rows-is) (record {
        space = space;
        filled = all_rows space nodes (rows_of w.enclose.new.rows) w.enclose.ensures.count (λ k h. w.enclose.ensures.rows k (omega (arith, h, c.len-nodes.ensures.len)));
      })
      | else-nodes-gt0 w ↦ subst (λ (r : Rows). AreEnclosures nodes (rows_of r)) (sym w.rows-is) (record {
        space = space;
        filled = all_rows space nodes (rows_of c.in_ok-rows.rows) (ap length c.in_ok-rows.ensures.rows ∙ length-replicate c.len-nodes.result nothing ∙ c.len-nodes.ensures.len)
            (λ k h. absurd (omega (arith, h, c.len-nodes.ensures.len, w.if-nodes-gt0.false)));
      })
    ]
