-- The ends that comparisons give to constants.
use Rattle.std.specs.Prelude.{List, [], ◌∷◌, map, Option, Some, None}
use Rattle.dyadic.specs.Views.{ext_of}
use Rattle.script_model.specs.Meaning.{neighbours}
use Rattle.script_model.specs.Reading.{Operator, at_least_op, at_most_op, above_op, below_op, equality, found, operators}
use Rattle.script_roots.specs.TreeBounds as bounds
use Rattle.script_roots.specs.TreeBounds.{TreeBounding, all_ends, at_least_ends, at_most_ends, ends_on, equal_ends}
use Rattle.root_rewriting.specs.declared.unfold.trees.Node.{Node}
use Rattle.root_rewriting.specs.declared.unfold.trees.Node.TheVariants as nodes
use Rattle.root_rewriting.specs.Shapes.{bounding_at}
use Rattle.root_rewriting.specs.Sides.{side_of}
use Rattle.root_rewriting.specs.declared.range.end_bound.EndBound.{EndBound}

abbrev pub end_bound_of : EndBound → bounds.EndBound
end_bound_of e = record { axis = e.axis; side = side_of e.side; end = ext_of e.end }

abbrev pub ends_of : Option EndBound → List bounds.EndBound
ends_of None = []
ends_of (Some e) = end_bound_of e ∷ []

abbrev pub ends_of_all : List EndBound → List bounds.EndBound
ends_of_all es = map end_bound_of es

-- ---- comparisons

-- what a comparison of two gives
abbrev pub compared : Operator → TreeBounding → TreeBounding → List bounds.EndBound
compared at_most_op = at_most_ends
compared below_op = at_most_ends
compared at_least_op = at_least_ends
compared above_op = at_least_ends
compared equality = equal_ends
compared op = λ a b. []

abbrev pub chain_ends : Option Operator → List TreeBounding → List bounds.EndBound
chain_ends None bs = []
chain_ends (Some op) bs = all_ends (neighbours (compared op) bs)

-- the ends that a node gives by itself, where its parts are these
abbrev pub own_ends : List TreeBounding → Node → List bounds.EndBound
own_ends bs (nodes.Applied at name ks) = chain_ends (found name.now operators) (map (bounding_at bs) ks.items)
own_ends bs _ = []
