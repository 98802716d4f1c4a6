-- What an applied operator says of constants: what it gives by itself, and what its conjuncts give.
use Rattle.std.proofs.Common.{◌≡◌, ℕ, List, [], ◌∷◌, ◌++◌, map, Some, None, Option, refl, ap, sym, ◌∙◌, append-nil}
use Rattle.interval_model.specs.Interval.{Interval}
use Rattle.script_model.specs.Meaning.{neighbours}
use Rattle.script_model.specs.Sexp.{Leaf, numeral, decimal, symbol}
use Rattle.script_model.specs.Reading.{Operator, truth, falsehood, negation, conjunction, disjunction, implication, exclusive, equality, distinctness, choice, minus, plus, times, divide, at_most_op, below_op, at_least_op, above_op, found, operators}
use Rattle.script_roots.specs.Tree.{Tree, atomic, applied, root, quotient, formless, trees_of}
use Rattle.script_roots.specs.TreeBounds.{Axes, EndBound, TreeBounding, all_ends, all_known_in, applied_in, computed_in, ends_in, leaf_in, operation_in, symbol_in, tree_in, trees_in}
use Rattle.root_rewriting.specs.Nodes.{atom_of, node_tree, parts_at, tree_at}
use Rattle.root_rewriting.specs.declared.unfold.trees.Node.{Node}
use Rattle.root_rewriting.specs.declared.unfold.trees.Node.TheVariants as nodes
use Rattle.root_rewriting.specs.Ends.{chain_ends}
use Rattle.root_rewriting.specs.Sweep.{SayNothing, all_tree_ends, conjuncts_of, operator_conjuncts, tree_ends}

computed-none : (op : Operator) (k : Option (List Interval)) → ends_in (computed_in op k) ≡ []
computed-none op None = refl
computed-none op (Some is) = refl

abbrev no-end : TreeBounding → TreeBounding → List EndBound
no-end a b = []

none-compared : (bs : List TreeBounding) → all_ends (neighbours no-end bs) ≡ []
none-compared [] = refl
none-compared (b ∷ []) = refl
none-compared (b ∷ c ∷ bs) = none-compared (c ∷ bs)

-- an operator that gives nothing
nothing : (es : List EndBound) (bs : List TreeBounding) → es ≡ [] → es ≡ all_ends (neighbours no-end bs) ++ []
nothing es bs e = e ∙ sym (append-nil _ ∙ none-compared bs)

applied-none : (op : Operator) → [] ≡ chain_ends (Some op) [] ++ all_ends (map ends_in (operator_conjuncts (Some op) []))
applied-none conjunction = refl
applied-none plus = refl
applied-none times = refl
applied-none minus = refl
applied-none divide = refl
applied-none truth = refl
applied-none falsehood = refl
applied-none negation = refl
applied-none disjunction = refl
applied-none implication = refl
applied-none exclusive = refl
applied-none equality = refl
applied-none distinctness = refl
applied-none choice = refl
applied-none at_most_op = refl
applied-none below_op = refl
applied-none at_least_op = refl
applied-none above_op = refl

applied-ends : (op : Option Operator) (bs : List TreeBounding) → ends_in (applied_in op bs) ≡ chain_ends op bs ++ all_ends (map ends_in (operator_conjuncts op bs))
applied-ends None bs = refl
applied-ends (Some op) [] = applied-none op
applied-ends (Some conjunction) (b ∷ bs) = sym (ap (λ (es : List EndBound). es ++ all_ends (map ends_in (b ∷ bs))) (none-compared (b ∷ bs)))
applied-ends (Some plus) (b ∷ []) = sym (append-nil (ends_in b))
applied-ends (Some plus) (b ∷ c ∷ bs) = nothing _ (b ∷ c ∷ bs) (computed-none plus (all_known_in (b ∷ c ∷ bs)))
applied-ends (Some times) (b ∷ []) = sym (append-nil (ends_in b))
applied-ends (Some times) (b ∷ c ∷ bs) = nothing _ (b ∷ c ∷ bs) (computed-none times (all_known_in (b ∷ c ∷ bs)))
applied-ends (Some minus) (b ∷ bs) = nothing _ (b ∷ bs) (computed-none minus (all_known_in (b ∷ bs)))
applied-ends (Some divide) (b ∷ bs) = nothing _ (b ∷ bs) (computed-none divide (all_known_in (b ∷ bs)))
applied-ends (Some at_most_op) (b ∷ bs) = sym (append-nil _)
applied-ends (Some below_op) (b ∷ bs) = sym (append-nil _)
applied-ends (Some at_least_op) (b ∷ bs) = sym (append-nil _)
applied-ends (Some above_op) (b ∷ bs) = sym (append-nil _)
applied-ends (Some equality) (b ∷ bs) = sym (append-nil _)
applied-ends (Some truth) (b ∷ bs) = nothing [] (b ∷ bs) refl
applied-ends (Some falsehood) (b ∷ bs) = nothing [] (b ∷ bs) refl
applied-ends (Some negation) (b ∷ bs) = nothing [] (b ∷ bs) refl
applied-ends (Some disjunction) (b ∷ bs) = nothing [] (b ∷ bs) refl
applied-ends (Some implication) (b ∷ bs) = nothing [] (b ∷ bs) refl
applied-ends (Some exclusive) (b ∷ bs) = nothing [] (b ∷ bs) refl
applied-ends (Some distinctness) (b ∷ bs) = nothing [] (b ∷ bs) refl
applied-ends (Some choice) (b ∷ bs) = nothing [] (b ∷ bs) refl

bare-ends : (op : Operator) → ends_in (operation_in op []) ≡ []
bare-ends truth = refl
bare-ends falsehood = refl
bare-ends negation = refl
bare-ends conjunction = refl
bare-ends disjunction = refl
bare-ends implication = refl
bare-ends exclusive = refl
bare-ends equality = refl
bare-ends distinctness = refl
bare-ends choice = refl
bare-ends minus = refl
bare-ends plus = refl
bare-ends times = refl
bare-ends divide = refl
bare-ends at_most_op = refl
bare-ends below_op = refl
bare-ends at_least_op = refl
bare-ends above_op = refl

-- the ends that a tree gives by itself are among all that it gives
abbrev rest_of : Axes → Tree → List EndBound
rest_of A (applied at name ts) = all_ends (map ends_in (operator_conjuncts (found name operators) (trees_in A ts)))
rest_of A t = all_tree_ends A t

pub own_first : (A : Axes) (t : Tree) → all_tree_ends A t ≡ tree_ends A t ++ rest_of A t
own_first A (applied at name ts) = applied-ends (found name operators) (trees_in A ts)
own_first A (atomic at l) = refl
own_first A (root at t) = refl
own_first A (quotient at t d) = refl
own_first A (formless at) = refl

-- ---- nodes

conjuncts-map : {X Y : Type 0} (f : X → Y) (op : Option Operator) (xs : List X) → operator_conjuncts op (map f xs) ≡ map f (operator_conjuncts op xs)
conjuncts-map f (Some conjunction) xs = refl
conjuncts-map f (Some plus) [] = refl
conjuncts-map f (Some plus) (x ∷ []) = refl
conjuncts-map f (Some plus) (x ∷ y ∷ xs) = refl
conjuncts-map f (Some times) [] = refl
conjuncts-map f (Some times) (x ∷ []) = refl
conjuncts-map f (Some times) (x ∷ y ∷ xs) = refl
conjuncts-map f None xs = refl
conjuncts-map f (Some minus) xs = refl
conjuncts-map f (Some divide) xs = refl
conjuncts-map f (Some truth) xs = refl
conjuncts-map f (Some falsehood) xs = refl
conjuncts-map f (Some negation) xs = refl
conjuncts-map f (Some disjunction) xs = refl
conjuncts-map f (Some implication) xs = refl
conjuncts-map f (Some exclusive) xs = refl
conjuncts-map f (Some equality) xs = refl
conjuncts-map f (Some distinctness) xs = refl
conjuncts-map f (Some choice) xs = refl
conjuncts-map f (Some at_most_op) xs = refl
conjuncts-map f (Some below_op) xs = refl
conjuncts-map f (Some at_least_op) xs = refl
conjuncts-map f (Some above_op) xs = refl

module _ (A : Axes) (ts : List Tree) where
  abbrev pub ends_at : ℕ → List EndBound
  ends_at k = all_tree_ends A (tree_at ts k)

  leaf-ends : SayNothing A → (l : Leaf) → ends_in (leaf_in A l) ≡ []
  leaf-ends says (numeral digits) = refl
  leaf-ends says (decimal digits decimals) = refl
  leaf-ends says (symbol name) = symbol-ends (found name operators)
    where
      symbol-ends : (op : Option Operator) → ends_in (symbol_in op (found name A)) ≡ []
      symbol-ends None = says name
      symbol-ends (Some op) = bare-ends op
  leaf-ends says _ = refl

  parts-in : (ks : List ℕ) → trees_in A (trees_of (parts_at ts ks)) ≡ map (λ (k : ℕ). tree_in A (tree_at ts k)) ks
  parts-in [] = refl
  parts-in (k ∷ ks) = ap (λ (bs : List TreeBounding). tree_in A (tree_at ts k) ∷ bs) (parts-in ks)

  in-ends : (ks : List ℕ) → map ends_in (map (λ (k : ℕ). tree_in A (tree_at ts k)) ks) ≡ map ends_at ks
  in-ends [] = refl
  in-ends (k ∷ ks) = ap (λ (es : List (List EndBound)). ends_at k ∷ es) (in-ends ks)

  -- the ends of a node's tree: what it gives by itself, and those of its conjuncts
  pub node_ends : SayNothing A → (n : Node) → all_tree_ends A (node_tree ts n) ≡ tree_ends A (node_tree ts n) ++ all_ends (map ends_at (conjuncts_of n))
  node_ends says (nodes.Atomic at a) = leaf-ends says (atom_of a)
  node_ends says (nodes.Applied at name ks) =
      let op = found name.now operators in
      let bs = trees_in A (trees_of (parts_at ts ks.items)) in
      applied-ends op bs ∙ ap (λ (es : List EndBound). chain_ends op bs ++ es)
      (ap (λ (cs : List TreeBounding). all_ends (map ends_in cs))
      (ap (operator_conjuncts op) (parts-in ks.items) ∙ conjuncts-map (λ (k : ℕ). tree_in A (tree_at ts k)) op ks.items) ∙
      ap all_ends (in-ends (operator_conjuncts op ks.items)))
  node_ends says (nodes.Root at k) = refl
  node_ends says (nodes.Quotient at k d) = computed-none divide _
  node_ends says (nodes.Formless at) = refl
