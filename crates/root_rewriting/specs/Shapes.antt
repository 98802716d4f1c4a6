-- What the trees of an arena are to the ranges of constants.
use Rattle.std.specs.Prelude.{◌≡◌, ℕ, List, [], ◌∷◌, map, option_map, slice_index_or, Option, Some, None, Vec}
use Rattle.std.specs.Borrow.{Bor}
use Rattle.std.specs.Global.{Global}
use Rattle.std.specs.HashMap.{HashMap, get_by}
use Rattle.std.specs.Str.{bytes_eq}
use Rattle.interval_model.specs.Interval.{Interval}
use Rattle.ival.specs.Views.{interval_of}
use Rattle.ival.specs.declared.ends.Ival.{Ival}
use Rattle.script_model.specs.Reading.{divide, found, operators}
use Rattle.script_roots.specs.TreeBounds.{Axes, TreeBounding, applied_in, axis_alone, bounded, known_in, leaf_in, operation_in, tree_in}
use Rattle.script_roots.specs.Tree.{Tree}
use Rattle.root_rewriting.specs.Nodes.{atom_of}
use Rattle.root_rewriting.specs.declared.unfold.trees.Node.{Node}
use Rattle.root_rewriting.specs.declared.unfold.trees.Node.TheVariants as nodes
use Rattle.root_rewriting.specs.declared.range.shapes.Shape.{Shape}
use Rattle.root_rewriting.specs.declared.range.shapes.Shape.TheVariants.{Known, Axis, Other}

-- the shape says nothing of bounds
abbrev pub without_ends : TreeBounding → TreeBounding
without_ends (bounded es) = bounded []
without_ends b = b

abbrev pub shape_of : Shape → TreeBounding
shape_of (Known i) = known_in (interval_of i)
shape_of (Axis axis) = axis_alone axis
shape_of Other = bounded []

abbrev pub bounding_at : List TreeBounding → ℕ → TreeBounding
bounding_at bs k = slice_index_or bs k (bounded [])

abbrev pub shape_at : List Shape → ℕ → TreeBounding
shape_at ss k = bounding_at (map shape_of ss) k

-- these are the shapes of the trees, one for each
abbrev pub AreShapes : Axes → List Tree → List Shape → Type 0
AreShapes axes ts ss = map shape_of ss ≡ map (λ t. without_ends (tree_in axes t)) ts

-- what a node's tree is, where its parts are these
abbrev pub node_in : Axes → List TreeBounding → Node → TreeBounding
node_in axes bs (nodes.Atomic at a) = leaf_in axes (atom_of a)
node_in axes bs (nodes.Applied at name ks) = applied_in (found name.now operators) (map (bounding_at bs) ks.items)
node_in axes bs (nodes.Root at k) = bounded []
node_in axes bs (nodes.Quotient at k d) = operation_in divide (bounding_at bs k ∷ bounding_at bs d ∷ [])
node_in axes bs (nodes.Formless at) = bounded []

-- the intervals, where there are some
abbrev pub intervals_of : Option (Vec Ival Global) → Option (List Interval)
intervals_of None = None
intervals_of (Some is) = Some (map interval_of is.items)

-- the map has what names stand for
abbrev pub KnowsAxes : {S : Type 0} → HashMap (Bor (List ℕ)) Shape S → Axes → Type 0
KnowsAxes map axes = (x : List ℕ) → option_map shape_of (get_by (λ k. bytes_eq x k.now) map) ≡ found x axes
