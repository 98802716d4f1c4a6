-- The narrowed intervals of the subterms of an atom, each from those of its parents (the backward pass of HC4: Benhamou, Goualard, Granvilliers, Puget, ICLP 1999).
use Rattle.std.specs.Prelude.{ℕ, zero, suc, List, [], ◌∷◌, map, Bool, true, false, cond, Option, Some, None, nat_eq, slice_index_or}
use Rattle.dyadic.specs.Rounding.{finite}
use Rattle.interval_model.specs.Interval.{Interval, nothing, between, everything, interval_negated, met, inverse_sum, inverse_product, inverse_square}
use Rattle.poly_graph.specs.Term.{Node, variable_node, negate_node, add_node, multiply_node, square_node, graph_terms, has_child}
use Rattle.interval_model.specs.Space.{real_domain, Space}
use Rattle.cover_model.specs.Space.{enclosure}

abbrev pub if_child : Bool → Interval → Interval
if_child true i = i
if_child false i = everything

-- what parent p, whose narrowed interval is n, leaves to s by each place where s stands; es are the enclosures
abbrev pub left_by : List Interval → ℕ → Node → Interval → Interval
left_by es s (negate_node a) n = if_child (nat_eq a s) (interval_negated n)
left_by es s (add_node a b) n =
    met (if_child (nat_eq a s) (inverse_sum n (slice_index_or es b nothing)))
    (if_child (nat_eq b s) (inverse_sum n (slice_index_or es a nothing)))
left_by es s (multiply_node a b) n =
    met (if_child (nat_eq a s) (inverse_product n (slice_index_or es b nothing)))
    (if_child (nat_eq b s) (inverse_product n (slice_index_or es a nothing)))
left_by es s (square_node a) n = if_child (nat_eq a s) (inverse_square (slice_index_or es s nothing) n)
left_by es s p n = everything

-- none, where s is under none of these nodes; else what all places leave
abbrev pub with_parent : Bool → Interval → Option Interval → Option Interval
with_parent false i o = o
with_parent true i None = Some i
with_parent true i (Some j) = Some (met i j)

abbrev pub from_parent : List Interval → ℕ → Node → Option Interval → Option Interval → Option Interval
from_parent es s p None o = o
from_parent es s p (Some n) o = with_parent (has_child s p) (left_by es s p n) o

abbrev pub from_parents : List Interval → ℕ → List Node → List (Option Interval) → Option Interval
from_parents es s [] ns = None
from_parents es s (p ∷ ps) [] = None
from_parents es s (p ∷ ps) (n ∷ ns) = from_parent es s p n (from_parents es s ps ns)

abbrev pub own : List Interval → ℕ → Option Interval → Option Interval
own es s None = None
own es s (Some i) = Some (met (slice_index_or es s nothing) i)

-- the narrowed intervals of the nodes from number s on: of the root its enclosure met with the range, of every
-- other subterm its enclosure met with what its parents leave, and none of a node that is no subterm
abbrev pub narrowed_from : List Interval → ℕ → Interval → ℕ → List Node → List (Option Interval)
narrowed_from es root within_range s [] = []
narrowed_from es root within_range s (node ∷ later) =
    let ns = narrowed_from es root within_range (suc s) later in
    own es s (cond (nat_eq s root) (Some within_range) (from_parents es s later ns)) ∷ ns

abbrev pub narrowed : List Node → List Interval → ℕ → Interval → List (Option Interval)
narrowed nodes es root within_range = narrowed_from es root within_range 0 nodes

-- ---- the narrowed space: empty, or each axis of a variable of the atom at its narrowed interval

abbrev pub some_empty : List (Option Interval) → Bool
some_empty [] = false
some_empty (Some nothing ∷ rest) = true
some_empty (_ ∷ rest) = some_empty rest

abbrev pub set_axis : ℕ → Interval → Space → Space
set_axis axis i [] = []
set_axis zero (between (finite l) (finite h)) (d ∷ space) = real_domain l h ∷ space
set_axis zero i (d ∷ space) = d ∷ space
set_axis (suc axis) i (d ∷ space) = d ∷ set_axis axis i space

abbrev pub with_axes : List Node → List (Option Interval) → Space → Space
with_axes (variable_node axis ∷ nodes) (Some i ∷ ns) space = set_axis axis i (with_axes nodes ns space)
with_axes (_ ∷ nodes) (_ ∷ ns) space = with_axes nodes ns space
with_axes _ _ space = space

abbrev pub narrowed_space : List Node → List (Option Interval) → Space → Option Space
narrowed_space nodes ns space = cond (some_empty ns) None (Some (with_axes nodes ns space))

-- the enclosures of a graph's nodes over a space, in order
abbrev pub enclosures : Space → List Node → List Interval
enclosures space nodes = map (enclosure space) (graph_terms nodes)

-- what the node of this number, lying in the range, leaves of the space
abbrev pub narrowed_by : List Node → ℕ → Interval → Space → Option Space
narrowed_by nodes root within_range space = narrowed_space nodes (narrowed nodes (enclosures space nodes) root within_range) space
