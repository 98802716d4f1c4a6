-- What a node's tree is to the ranges, by what its parts are.
use Rattle.std.proofs.Common.{◌≡◌, ℕ, ◌+◌, ◌<◌, List, [], ◌∷◌, ◌++◌, map, take, length, arith, Some, None, Option, refl, ap, ap₂, sym, ◌∙◌, append_assoc}
use Rattle.std.proofs.lemmas.List.{get_or-take, length-map, map-append}
use Rattle.interval_model.specs.Interval.{Interval}
use Rattle.script_model.specs.Meaning.{neighbours}
use Rattle.script_model.specs.Reading.{Operator, truth, falsehood, negation, conjunction, disjunction, implication, exclusive, equality, distinctness, choice, minus, plus, times, divide, at_most_op, below_op, at_least_op, above_op, found, operators}
use Rattle.script_roots.specs.Tree.{Tree, formless, trees_of}
use Rattle.script_roots.specs.TreeBounds.{Axes, EndBound, TreeBounding, all_ends, all_known_in, applied_in, at_most_ends, axis_alone, bounded, computed_in, first_in, known_in, operation_in, tree_in, trees_in}
use Rattle.root_rewriting.specs.Nodes.{AreBelow, IsBelow, ShowsNode, node_tree, parts_at, tree_at}
use Rattle.root_rewriting.specs.declared.unfold.trees.Node.{Node}
use Rattle.root_rewriting.specs.declared.unfold.trees.Node.TheVariants as nodes
use Rattle.root_rewriting.specs.Ends.{chain_ends, compared, own_ends}
use Rattle.root_rewriting.specs.Shapes.{AreShapes, bounding_at, node_in, shape_of, without_ends}
use Rattle.root_rewriting.specs.Sweep.{tree_ends}
use Rattle.root_rewriting.specs.declared.range.shapes.Shape.{Shape}
use Rattle.root_rewriting.proofs.RangeLists.{map_at, map_done}

-- ---- without ends

twice : (b : TreeBounding) → without_ends (without_ends b) ≡ without_ends b
twice (known_in i) = refl
twice (axis_alone a) = refl
twice (bounded es) = refl

known-same : (bs : List TreeBounding) → all_known_in (map without_ends bs) ≡ all_known_in bs
known-same [] = refl
known-same (known_in i ∷ bs) = ap (first_in i) (known-same bs)
known-same (axis_alone a ∷ bs) = refl
known-same (bounded es ∷ bs) = refl

computed-same : (op : Operator) (bs : List TreeBounding) → without_ends (computed_in op (all_known_in (map without_ends bs))) ≡ without_ends (computed_in op (all_known_in bs))
computed-same op bs = ap (λ (k : Option (List Interval)). without_ends (computed_in op k)) (known-same bs)

operation-same : (op : Operator) (bs : List TreeBounding) → without_ends (operation_in op (map without_ends bs)) ≡ without_ends (operation_in op bs)
operation-same plus [] = refl
operation-same plus (b ∷ []) = twice b
operation-same plus (b ∷ c ∷ bs) = computed-same plus (b ∷ c ∷ bs)
operation-same times [] = refl
operation-same times (b ∷ []) = twice b
operation-same times (b ∷ c ∷ bs) = computed-same times (b ∷ c ∷ bs)
operation-same minus bs = computed-same minus bs
operation-same divide bs = computed-same divide bs
operation-same truth bs = refl
operation-same falsehood bs = refl
operation-same negation bs = refl
operation-same conjunction bs = refl
operation-same disjunction bs = refl
operation-same implication bs = refl
operation-same exclusive bs = refl
operation-same equality bs = refl
operation-same distinctness bs = refl
operation-same choice bs = refl
operation-same at_most_op bs = refl
operation-same below_op bs = refl
operation-same at_least_op bs = refl
operation-same above_op bs = refl

applied-same : (op : Option Operator) (bs : List TreeBounding) → without_ends (applied_in op (map without_ends bs)) ≡ without_ends (applied_in op bs)
applied-same None bs = refl
applied-same (Some op) [] = refl
applied-same (Some op) (b ∷ bs) = operation-same op (b ∷ bs)

-- an operator of the code at some arguments
pub applied_is : (op : Option Operator) (o : Operator) (f : ℕ → TreeBounding) (ks : List ℕ) → op ≡ Some o → 0 < length ks → applied_in op (map f ks) ≡ operation_in o (map f ks)
applied_is op o f [] e h = absurd (omega (arith, h))
applied_is op o f (k ∷ ks) e h = ap (λ (x : Option Operator). applied_in x (f k ∷ map f ks)) e

-- ---- comparisons

most-same : (a b : TreeBounding) → at_most_ends (without_ends a) (without_ends b) ≡ at_most_ends a b
most-same (known_in i) (known_in j) = refl
most-same (known_in i) (axis_alone a) = refl
most-same (known_in i) (bounded es) = refl
most-same (axis_alone a) (known_in j) = refl
most-same (axis_alone a) (axis_alone c) = refl
most-same (axis_alone a) (bounded es) = refl
most-same (bounded es) (known_in j) = refl
most-same (bounded es) (axis_alone a) = refl
most-same (bounded es) (bounded fs) = refl

compared-same : (op : Operator) (a b : TreeBounding) → compared op (without_ends a) (without_ends b) ≡ compared op a b
compared-same at_most_op a b = most-same a b
compared-same below_op a b = most-same a b
compared-same at_least_op a b = most-same b a
compared-same above_op a b = most-same b a
compared-same equality a b = ap₂ (λ (es fs : List EndBound). es ++ fs) (most-same a b) (most-same b a)
compared-same plus a b = refl
compared-same times a b = refl
compared-same minus a b = refl
compared-same divide a b = refl
compared-same truth a b = refl
compared-same falsehood a b = refl
compared-same negation a b = refl
compared-same conjunction a b = refl
compared-same disjunction a b = refl
compared-same implication a b = refl
compared-same exclusive a b = refl
compared-same distinctness a b = refl
compared-same choice a b = refl

neighbours-same : (op : Operator) (bs : List TreeBounding) → all_ends (neighbours (compared op) (map without_ends bs)) ≡ all_ends (neighbours (compared op) bs)
neighbours-same op [] = refl
neighbours-same op (b ∷ []) = refl
neighbours-same op (b ∷ c ∷ bs) = ap₂ (λ (es fs : List EndBound). es ++ fs) (compared-same op b c) (neighbours-same op (c ∷ bs))

chain-same : (op : Option Operator) (bs : List TreeBounding) → chain_ends op (map without_ends bs) ≡ chain_ends op bs
chain-same None bs = refl
chain-same (Some op) bs = neighbours-same op bs

-- ---- nodes

module _ (A : Axes) (ts : List Tree) where
  abbrev shape-of : Tree → TreeBounding
  shape-of t = without_ends (tree_in A t)

  abbrev Done : List TreeBounding
  Done = map shape-of ts

  first-shape : (m k : ℕ) → k < m → bounding_at (take m Done) k ≡ shape-of (tree_at ts k)
  first-shape m k h = get_or-take m Done k (bounded []) h ∙ map_at shape-of ts k (formless (record { line = 0; column = 0 }))

  parts-shapes : (m : ℕ) (ks : List ℕ) → AreBelow m ks → map (bounding_at (take m Done)) ks ≡ map without_ends (trees_in A (trees_of (parts_at ts ks)))
  parts-shapes m [] h = refl
  parts-shapes m (k ∷ ks) h = ap₂ (λ (b : TreeBounding) (bs : List TreeBounding). b ∷ bs) (first-shape m k h.0) (parts-shapes m ks h.1)

  node-shape : (m : ℕ) (n : Node) → IsBelow m n → without_ends (node_in A (take m Done) n) ≡ shape-of (node_tree ts n)
  node-shape m (nodes.Atomic at a) h = refl
  node-shape m (nodes.Applied at name ks) h =
      ap (λ (bs : List TreeBounding). without_ends (applied_in (found name.now operators) bs)) (parts-shapes m ks.items h) ∙
      applied-same (found name.now operators) (trees_in A (trees_of (parts_at ts ks.items)))
  node-shape m (nodes.Root at k) h = refl
  node-shape m (nodes.Quotient at k d) h =
      ap₂ (λ (b c : TreeBounding). without_ends (operation_in divide (b ∷ c ∷ []))) (first-shape m k h.0) (first-shape m d h.1) ∙
      operation-same divide (tree_in A (tree_at ts k) ∷ tree_in A (tree_at ts d) ∷ [])
  node-shape m (nodes.Formless at) h = refl

  -- one more shape is known
  pub shape_done : (done : List Shape) (k : ℕ) (n : Node) (s : Shape) → ShowsNode ts k n → map shape_of done ≡ take k Done → shape_of s ≡ without_ends (node_in A (map shape_of done) n) →
      map shape_of (done ++ (s ∷ [])) ≡ take (k + 1) Done
  shape_done done k n s shows e is =
      map-append shape_of done (s ∷ []) ∙
      map_done shape-of ts (map shape_of done) k (node_tree ts n) (shape_of s) shows.0 e
      (is ∙ ap (λ (bs : List TreeBounding). without_ends (node_in A bs n)) e ∙ node-shape k n shows.1)

  all-shapes : (ks : List ℕ) → map (bounding_at Done) ks ≡ map without_ends (trees_in A (trees_of (parts_at ts ks)))
  all-shapes [] = refl
  all-shapes (k ∷ ks) = ap₂ (λ (b : TreeBounding) (bs : List TreeBounding). b ∷ bs) (map_at shape-of ts k (formless (record { line = 0; column = 0 }))) (all-shapes ks)

  -- the ends that a node gives by itself are its tree's
  pub own_are : (shapes : List Shape) (n : Node) → map shape_of shapes ≡ Done → own_ends (map shape_of shapes) n ≡ tree_ends A (node_tree ts n)
  own_are shapes n e = ap (λ (bs : List TreeBounding). own_ends bs n) e ∙ own-at n
    where
      own-at : (n : Node) → own_ends Done n ≡ tree_ends A (node_tree ts n)
      own-at (nodes.Atomic at a) = refl
      own-at (nodes.Applied at name ks) =
          ap (chain_ends (found name.now operators)) (all-shapes ks.items) ∙ chain-same (found name.now operators) (trees_in A (trees_of (parts_at ts ks.items)))
      own-at (nodes.Root at k) = refl
      own-at (nodes.Quotient at k d) = refl
      own-at (nodes.Formless at) = refl

pub shapes_many : (A : Axes) (ts : List Tree) (ss : List Shape) → AreShapes A ts ss → length ss ≡ length ts
shapes_many A ts ss h = sym (length-map ss shape_of) ∙ ap length h ∙ length-map ts (λ (t : Tree). without_ends (tree_in A t))

-- ---- known parts

-- what was known before, and what is known of the rest
abbrev pub known_with : List Interval → Option (List Interval) → Option (List Interval)
known_with is None = None
known_with is (Some js) = Some (is ++ js)

pub known_on : (is : List Interval) (j : Interval) (rest : Option (List Interval)) → known_with is (first_in j rest) ≡ known_with (is ++ (j ∷ [])) rest
known_on is j None = refl
known_on is j (Some js) = ap (λ (ks : List Interval). Some ks) (sym (append_assoc is (j ∷ []) js))
