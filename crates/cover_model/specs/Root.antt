-- The root space of a problem: lower bounds rounded down, upper bounds rounded up, and no Bool decided.
use Rattle.std.specs.Prelude.{List, map, true, pos}
use Rattle.dyadic.specs.Rounding.{Dyadic, Ext, finite, down, up}
use Rattle.interval_model.specs.Space.{Domain, real_domain, bool_domain, Space}
use Rattle.poly_graph.specs.Problem.{Declared, real_between, any_bool, Axis, Problem}

abbrev pub finite_or_nought : Ext → Dyadic
finite_or_nought (finite d) = d
finite_or_nought e = record { units = pos 0 }

abbrev pub root_domain : Declared → Domain
root_domain (real_between l h) = real_domain (finite_or_nought (down l)) (finite_or_nought (up h))
root_domain any_bool = bool_domain true true

abbrev pub root_of_axes : List Axis → Space
root_of_axes axes = map (λ a. root_domain a.declared) axes

abbrev pub root_space : Problem → Space
root_space p = root_of_axes p.axes
