-- Points that are the middle of a space.
use Rattle.std.specs.Prelude.{◌≡◌, Option, MatchOption, IsTrue, not}
use Rattle.interval_model.specs.Space.{Space, middle, space_within}
use Rattle.poly_graph.specs.Problem.{Problem}
use Rattle.cover_model.specs.State.{Loosenings, sure}
use Rattle.cover_model.specs.Root.{root_space}

abbrev pub LiesInRoot : Problem → Space → Type 0
LiesInRoot p space = IsTrue (space_within space (root_space p))

-- the middle of the space, none exactly where the form is not sure there
abbrev pub IsMiddlePoint : Problem → Loosenings → Space → Option Space → Type 0
IsMiddlePoint p s space point = MatchOption point (IsTrue (not (sure p s (middle space)))) (λ x. x ≡ middle space)
