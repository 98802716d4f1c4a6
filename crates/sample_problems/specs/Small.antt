-- How large a problem of a sample may be.
use Rattle.std.specs.Prelude.{◌≤◌, length}
use Rattle.poly_graph.specs.ProblemViews.{Parts}

-- there may be a book of the problem
abbrev pub IsSmall : Parts → Type 0
IsSmall p = (length p.axes ≤ 1024) × (length p.atoms ≤ 65536)
