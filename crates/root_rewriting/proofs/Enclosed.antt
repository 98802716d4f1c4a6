-- The range of a node's tree, by the ranges of its parts.
use Rattle.std.proofs.Common.{◌≡◌, ℕ, ◌+◌, ◌<◌, List, [], ◌∷◌, ◌++◌, map, take, refl, ap, ap₂, ◌∙◌}
use Rattle.std.proofs.lemmas.List.{get_or-take, map-append}
use Rattle.interval_model.specs.Interval.{Interval, everything}
use Rattle.ival.specs.Views.{interval_of}
use Rattle.ival.specs.declared.ends.Ival.{Ival}
use Rattle.script_model.specs.Reading.{found, operators}
use Rattle.script_roots.specs.Ranges.{Ranges, all_enclosed, enclosed, operator_range, quotient_range, root_range}
use Rattle.script_roots.specs.Tree.{Tree, formless, trees_of}
use Rattle.root_rewriting.specs.Nodes.{AreBelow, IsBelow, ShowsNode, node_tree, parts_at, tree_at}
use Rattle.root_rewriting.specs.declared.unfold.trees.Node.{Node}
use Rattle.root_rewriting.specs.declared.unfold.trees.Node.TheVariants as nodes
use Rattle.root_rewriting.specs.Enclosures.{interval_at, node_range}
use Rattle.root_rewriting.proofs.RangeLists.{map_at, map_done}

module _ (R : Ranges) (ts : List Tree) where
  abbrev Done : List Interval
  Done = map (enclosed R) ts

  tree-range : (k : ℕ) → interval_at Done k ≡ enclosed R (tree_at ts k)
  tree-range k = map_at (enclosed R) ts k (formless (record { line = 0; column = 0 }))

  -- of which only the first m are known
  first-range : (m k : ℕ) → k < m → interval_at (take m Done) k ≡ enclosed R (tree_at ts k)
  first-range m k h = get_or-take m Done k everything h ∙ tree-range k

  parts-ranges : (m : ℕ) (ks : List ℕ) → AreBelow m ks → map (interval_at (take m Done)) ks ≡ all_enclosed R (trees_of (parts_at ts ks))
  parts-ranges m [] h = refl
  parts-ranges m (k ∷ ks) h = ap₂ (λ (i : Interval) (is : List Interval). i ∷ is) (first-range m k h.0) (parts-ranges m ks h.1)

  node-range : (m : ℕ) (n : Node) → IsBelow m n → node_range R (take m Done) n ≡ enclosed R (node_tree ts n)
  node-range m (nodes.Atomic at a) h = refl
  node-range m (nodes.Applied at name ks) h = ap (operator_range (found name.now operators)) (parts-ranges m ks.items h)
  node-range m (nodes.Root at k) h = ap root_range (first-range m k h)
  node-range m (nodes.Quotient at k d) h = ap₂ quotient_range (first-range m k h.0) (first-range m d h.1)
  node-range m (nodes.Formless at) h = refl

  -- one more range is known
  pub range_done : (done : List Ival) (k : ℕ) (n : Node) (i : Ival) → ShowsNode ts k n → map interval_of done ≡ take k Done → interval_of i ≡ node_range R (map interval_of done) n →
      map interval_of (done ++ (i ∷ [])) ≡ take (k + 1) Done
  range_done done k n i shows e is =
      map-append interval_of done (i ∷ []) ∙
      map_done (enclosed R) ts (map interval_of done) k (node_tree ts n) (interval_of i) shows.0 e
      (is ∙ ap (λ (js : List Interval). node_range R js n) e ∙ node-range k n shows.1)
