-- What is learned of a closed run.
use Rattle.std.specs.Prelude.{◌≡◌, ◌⊎◌, [], Option, Some}
use Rattle.poly_graph.specs.ProblemViews.{Parts, problem_of}
use Rattle.cover_model.specs.Root.{root_space}
use Rattle.cover_data.specs.declared.margins.Margins.{Margins}
use Rattle.cover_data.specs.Models.{KeptModel}
use Rattle.cover_data.specs.Runs.{IsRun, IsClosed}

-- a closed run that begins at the root space and quotes no lemma
pub record IsShownFromRoot (q : Parts) (m : Margins) (k : KeptModel) : Type 0 where
  pub run : IsRun (problem_of q) m k
  pub closed : IsClosed k
  pub root : k.first.space ≡ root_space (problem_of q)
  pub quoted : k.quoted ≡ []

-- such a run, or the run itself
abbrev pub IsLesson : Parts → Margins → Option KeptModel → KeptModel → Type 0
IsLesson q m own k = IsShownFromRoot q m k ⊎ (own ≡ Some k)
