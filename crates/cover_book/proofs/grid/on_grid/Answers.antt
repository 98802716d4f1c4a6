use Rattle.std.proofs.Common.{subst}
use Rattle.cover_model.specs.Space.{IsGridSpace}
use Rattle.cover_book.proofs.Grids.{domains_kept}
use Rattle.cover_book.proofs.grid.on_grid.Goals as goal

pub returns : goal.returns
returns c = subst IsGridSpace c.space.ensures (domains_kept c.space.result.now.axes.items)
