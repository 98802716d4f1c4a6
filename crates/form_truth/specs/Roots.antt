-- What a problem's cover begins with.
use Rattle.std.specs.Prelude.{◌≡◌, Some, None}
use Rattle.poly_graph.specs.Problem.{first_crossed}
use Rattle.cover_model.specs.Root.{root_space}
use Rattle.poly_graph.specs.ProblemViews.{Parts, problem_of}
use Rattle.ival.specs.SpaceViews.{space_of}
use Rattle.form_truth.specs.declared.root.Root.{Root}
use Rattle.form_truth.specs.declared.root.Root.TheVariants.{Empty, Space}

-- the first axis whose bounds cross, or the space of the declared bounds where none do
abbrev pub IsRoot : Parts → Root → Type 0
IsRoot p (Empty axis) = first_crossed (problem_of p) ≡ Some axis
IsRoot p (Space s) = (first_crossed (problem_of p) ≡ None) × (space_of s ≡ root_space (problem_of p))
