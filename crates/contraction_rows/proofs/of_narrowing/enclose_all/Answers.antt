use Rattle.std.proofs.Common.{arith}
use Rattle.cover_model.proofs.NodeEnclosures.{all_rows}
use Rattle.ival.specs.RowViews.{rows_of}
use Rattle.ival.specs.SpaceViews.{space_of}
use Rattle.contraction_rows.proofs.of_narrowing.enclose_all.Goals as goal

pub returns : goal.returns
returns c = all_rows (space_of c.args.space.now) c.args.graph.now (rows_of c.enclose.new.rows) c.enclose.ensures.count
    (λ k h. c.enclose.ensures.rows k (omega (arith, h, c.len-last.ensures.len)))
