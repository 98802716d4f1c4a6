-- What a patch keeps.
use Rattle.poly_graph.specs.ProblemViews.{Parts, problem_of, IsWhole}
use Rattle.cover_data.specs.declared.margins.Margins.{Margins}
use Rattle.cover_data.specs.declared.kept.KeptPatch.{KeptPatch}
use Rattle.cover_rule.specs.declared.workspace.Workspace.{Workspace}
use Rattle.cover_data.specs.Margins.{AreMargins}
use Rattle.cover_rule.specs.Models.{PatchModel}
use Rattle.cover_data.specs.Runs.{IsRun}
use Rattle.cover_rule.specs.Serves.{IsNumbered, IsReady}
use Rattle.cover_data.specs.Views.{kept_of}

abbrev pub patch_of : Parts → Margins → KeptPatch → PatchModel
patch_of p m k = record { problem = p; margins = m; kept = kept_of k }

-- a run for the problem at these margins, with rows of the state that it reaches
pub record IsHeld (p : Parts) (m : Margins) (k : KeptPatch) (w : Workspace) : Type 0 where
  pub whole : IsWhole p
  pub numbered : IsNumbered p
  pub margins : AreMargins m
  pub run : IsRun (problem_of p) m (kept_of k)
  pub ready : IsReady p m k.reached.space w
