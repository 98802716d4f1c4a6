use Rattle.std.proofs.Common.{length, ap, arith}
use Rattle.cover_model.proofs.NodeEnclosures.{length_enclosures}
use Rattle.ival.specs.SpaceViews.{space_of}
use Rattle.contraction_rows.proofs.of_hc4.moved_row.Goals as goal

pub follow-requires : goal.follow-requires
follow-requires c = record { rows = record { was = space_of c.args.space.now; filled = c.fill.ensures.rows } }

pub get-requires : goal.get-requires
get-requires c = omega (arith, ap length c.follow.ensures.rows, length_enclosures (space_of c.set.new.self) c.args.graph.now)
