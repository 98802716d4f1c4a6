-- Spaces, and the enclosure of a term over a space (the forward pass of HC4: Benhamou, Goualard, Granvilliers, Puget, ICLP 1999).
use Rattle.std.specs.Prelude.{[], ◌∷◌}
use Rattle.dyadic.specs.Rounding.{Dyadic, IsOnGrid, below_all, finite, above_all, down, up}
use Rattle.interval_model.specs.Interval.{Interval, between, interval_negated, interval_sum, interval_product, interval_square}
use Rattle.dyadic.specs.End.{negated_dyadic}
use Rattle.poly_graph.specs.Term.{Term, constant, variable, negate, add, multiply, square, Kind, le, ge, eq}
use Rattle.interval_model.specs.Space.{Domain, real_domain, bool_domain, Space, axis_interval}

abbrev pub IsGridDomain : Domain → Type 0
IsGridDomain (real_domain l h) = IsOnGrid l × IsOnGrid h
IsGridDomain (bool_domain f t) = Unit {0}

-- the ends of the Real axes are numbers that are kept
abbrev pub IsGridSpace : Space → Type 0
IsGridSpace [] = Unit {0}
IsGridSpace (d ∷ space) = IsGridDomain d × IsGridSpace space

-- the enclosure of a term over a space
abbrev pub enclosure : Space → Term → Interval
enclosure space (constant q) = between (down q) (up q)
enclosure space (variable axis) = axis_interval space axis
enclosure space (negate t) = interval_negated (enclosure space t)
enclosure space (add t u) = interval_sum (enclosure space t) (enclosure space u)
enclosure space (multiply t u) = interval_product (enclosure space t) (enclosure space u)
enclosure space (square t) = interval_square (enclosure space t)

-- the range of a kind, loosened by m
abbrev pub range : Dyadic → Kind → Interval
range m le = between below_all (finite m)
range m ge = between (finite (negated_dyadic m)) above_all
range m eq = between (finite (negated_dyadic m)) (finite m)
