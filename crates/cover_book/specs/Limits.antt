-- How large a problem and its options may be.
use Rattle.std.specs.Prelude.{◌≤◌, length}
use Rattle.poly_graph.specs.ProblemViews.{Parts}
use Rattle.cover_data.specs.declared.margins.Options.{Options}
use Rattle.cover_data.specs.Margins.{AreMargins}
use Rattle.cover_book.specs.Model.{margins_of}

pub record IsWithinLimits (p : Parts) (o : Options) : Type 0 where
  pub margins : AreMargins (margins_of o)
  pub budget : o.budget ≤ 1048576
  pub axes : length p.axes ≤ 1024
  pub atoms : length p.atoms ≤ 65536
