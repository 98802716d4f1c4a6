use Rattle.std.proofs.Common.{length, ap, arith}
use Rattle.cover_model.proofs.NodeEnclosures.{length_enclosures}
use Rattle.ival.specs.SpaceViews.{space_of}
use Rattle.contraction_rows.proofs.of_hc4.last_row.Goals as goal

pub get-requires : goal.get-requires
get-requires c = omega (arith, ap length c.fill.ensures.rows, length_enclosures (space_of c.args.space.now) c.args.graph.now)
