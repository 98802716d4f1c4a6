-- Lemmas of a problem at its margins.
use Rattle.std.specs.Prelude.{◌≡◌, List, ◌++◌, All}
use Rattle.poly_graph.specs.ProblemViews.{Parts, problem_of}
use Rattle.cover_model.specs.State.{IsLemma}
use Rattle.cover_model.specs.Fits.{FitsProblem}
use Rattle.cover_data.specs.declared.margins.Margins.{Margins}
use Rattle.cover_data.specs.Margins.{loosenings_of}
use Rattle.cover_data.specs.Models.{LemmaModel}

-- its state is one of the problem, and no point of it meets the form at the margin
abbrev pub IsLemmaOf : Parts → Margins → LemmaModel → Type 0
IsLemmaOf p m L = FitsProblem (problem_of p) L.state × IsLemma (problem_of p) (loosenings_of m) L.state

-- a list has some lemmas more, at its end
pub record Appends (p : Parts) (m : Margins) (old new : List LemmaModel) : Type 0 where
  pub more : List LemmaModel
  pub items : new ≡ old ++ more
  pub lemmas : All (IsLemmaOf p m) more
