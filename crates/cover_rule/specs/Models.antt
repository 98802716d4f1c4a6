-- Patches as the definitions see them.
use Rattle.poly_graph.specs.ProblemViews.{Parts}
use Rattle.cover_data.specs.declared.margins.Margins.{Margins}
use Rattle.cover_data.specs.Models.{KeptModel}

-- a run of rules for a problem, at margins
pub record PatchModel : Type 0 where
  pub problem : Parts
  pub margins : Margins
  pub kept : KeptModel
