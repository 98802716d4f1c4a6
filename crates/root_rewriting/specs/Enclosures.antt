-- The ranges of the trees of an arena.
use Rattle.std.specs.Prelude.{◌≡◌, ℕ, List, map, option_map, slice_index_or}
use Rattle.std.specs.Borrow.{Bor}
use Rattle.std.specs.HashMap.{HashMap, get_by}
use Rattle.std.specs.Str.{bytes_eq}
use Rattle.interval_model.specs.Interval.{Interval, everything}
use Rattle.ival.specs.Views.{interval_of}
use Rattle.ival.specs.declared.ends.Ival.{Ival}
use Rattle.script_model.specs.Reading.{found, operators}
use Rattle.script_roots.specs.Ranges.{Ranges, enclosed, leaf_range, operator_range, quotient_range, root_range}
use Rattle.script_roots.specs.Tree.{Tree}
use Rattle.root_rewriting.specs.Nodes.{atom_of}
use Rattle.root_rewriting.specs.declared.unfold.trees.Node.{Node}
use Rattle.root_rewriting.specs.declared.unfold.trees.Node.TheVariants as nodes

-- these are the ranges of the trees, one for each
abbrev pub AreEnclosures : Ranges → List Tree → List Ival → Type 0
AreEnclosures ranges ts is = map interval_of is ≡ map (enclosed ranges) ts

-- ---- by the parts of a tree

abbrev pub interval_at : List Interval → ℕ → Interval
interval_at is k = slice_index_or is k everything

-- the range of a node's tree, where these are the ranges of its parts
abbrev pub node_range : Ranges → List Interval → Node → Interval
node_range ranges is (nodes.Atomic at a) = leaf_range ranges (atom_of a)
node_range ranges is (nodes.Applied at name ks) = operator_range (found name.now operators) (map (interval_at is) ks.items)
node_range ranges is (nodes.Root at k) = root_range (interval_at is k)
node_range ranges is (nodes.Quotient at k d) = quotient_range (interval_at is k) (interval_at is d)
node_range ranges is (nodes.Formless at) = everything

-- ---- the ranges of constants

-- the map has what names stand for
abbrev pub KnowsRanges : {S : Type 0} → HashMap (Bor (List ℕ)) Ival S → Ranges → Type 0
KnowsRanges map ranges = (x : List ℕ) → option_map interval_of (get_by (λ k. bytes_eq x k.now) map) ≡ found x ranges
