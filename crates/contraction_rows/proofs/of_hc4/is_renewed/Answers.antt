use Rattle.ival.specs.SpaceViews.{space_of}
use Rattle.contraction_rows.proofs.of_hc4.is_renewed.Goals as goal

pub follow-requires : goal.follow-requires
follow-requires c = record { rows = record { was = space_of c.args.space.now; filled = c.fill.ensures.rows } }
