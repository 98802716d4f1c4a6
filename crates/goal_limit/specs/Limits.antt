-- What a problem with a limit of its goal is in code.
use Rattle.std.specs.Prelude.{◌≡◌, ℕ, ◌+◌, Bool, true, false, ◌&&◌, Option, Some, None, length, nat_le}
use Rattle.dyadic.specs.Rounding.{Dyadic}
use Rattle.poly_graph.specs.AtomTable.{most_atoms}
use Rattle.poly_graph.specs.Problem.{Problem}
use Rattle.poly_graph.specs.ProblemViews.{Parts, problem_of}
use Rattle.poly_graph.specs.Shared.{most_nodes}
use Rattle.cert_model.specs.Limited.{is_limit, limited}

-- there is room for a limit in the graph and among the atoms
abbrev pub has_room : Problem → Bool
has_room p = nat_le (length p.nodes + 4) most_nodes && nat_le (length p.atoms + 1) most_atoms

-- there is room for a limit, and d can be one in k bits
abbrev pub takes_limit : Problem → ℕ → Dyadic → Bool
takes_limit p k d = has_room p && is_limit p k d

-- the problem with the limit, exactly where there can be one
abbrev pub IsLimitOf : Parts → ℕ → ℕ → Dyadic → Option Parts → Type 0
IsLimitOf q g k d None = takes_limit (problem_of q) k d ≡ false
IsLimitOf q g k d (Some r) = (takes_limit (problem_of q) k d ≡ true) × (problem_of r ≡ limited (problem_of q) g k d)
