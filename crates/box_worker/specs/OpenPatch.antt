-- A patch on which steps are taken.
use Rattle.std.specs.Prelude.{◌≡◌, List, None}
use Rattle.poly_graph.specs.ProblemViews.{Parts}
use Rattle.cover_model.specs.State.{State}
use Rattle.cover_data.specs.declared.margins.Margins.{Margins}
use Rattle.cover_data.specs.Models.{LemmaModel}
use Rattle.cover_rule.specs.Models.{PatchModel}
use Rattle.cover_rule.specs.Patch.{problem_in, loosenings_in}
use Rattle.box_worker.specs.Attempts.{AreAmong, IsOpen}
use Rattle.box_worker.specs.Worked.{AreLemmasFor}

-- what stays the same as steps are taken: the problem and margins, the lemmas that may be quoted, and the first state
pub record OpenModel : Type 0 where
  pub problem : Parts
  pub margins : Margins
  pub lemmas : List LemmaModel
  pub first : State

abbrev pub open_model : List LemmaModel → PatchModel → OpenModel
open_model lemmas P = record { problem = P.problem; margins = P.margins; lemmas = lemmas; first = P.kept.first }

-- it has not ended, and quotes only these lemmas, which hold for its problem
pub record IsUnderWay (lemmas : List LemmaModel) (P : PatchModel) : Type 0 where
  pub lemmas_hold : AreLemmasFor (problem_in P) (loosenings_in P) lemmas
  pub among : AreAmong lemmas P.kept.quoted
  pub open_end : P.kept.end ≡ None

-- the patch is open, with all that stays the same
abbrev pub IsOpenFor : OpenModel → PatchModel → Type 0
IsOpenFor o P = IsOpen o.problem o.margins o.lemmas o.first P
