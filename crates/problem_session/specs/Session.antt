-- The problems of a session, as problems.
use Rattle.std.specs.Prelude.{List, Bool, map}
use Rattle.poly_graph.specs.Problem.{Problem}
use Rattle.poly_graph.specs.ProblemViews.{Parts, problem_of}

abbrev pub checked_of : Parts × Bool → Problem × Bool
checked_of c = (problem_of c.0, c.1)

-- the problems, each with whether all commands of the check before are in force at its check
abbrev pub problems_of : List (Parts × Bool) → List (Problem × Bool)
problems_of cs = map checked_of cs
