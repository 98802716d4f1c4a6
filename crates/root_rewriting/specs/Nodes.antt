-- What the nodes of an arena stand for.
use Rattle.std.specs.Prelude.{◌≡◌, ◌<◌, ℕ, List, [], ◌∷◌, ◌++◌, map, Some, slice_get, slice_index_or}
use Rattle.std.specs.List.{AllByRecursion}
use Rattle.script_model.specs.Sexp.{Leaf, numeral, decimal, symbol}
use Rattle.script_roots.specs.Tree.{Tree, atomic, applied, root, quotient, formless, trees_of, is_number, are_numbers, holds_root, hold_root, holds_choice, hold_choice}
use Rattle.smt_sexp.specs.Views.{place_of}
use Rattle.root_rewriting.specs.declared.unfold.trees.Atom.{Atom}
use Rattle.root_rewriting.specs.declared.unfold.trees.Atom.TheVariants as atoms
use Rattle.root_rewriting.specs.declared.unfold.trees.Node.{Node}
use Rattle.root_rewriting.specs.declared.unfold.trees.Node.TheVariants as nodes
use Rattle.root_rewriting.specs.declared.unfold.trees.Facts.{Facts}
use Rattle.root_rewriting.specs.declared.unfold.trees.Entry.{Entry}

abbrev pub atom_of : Atom → Leaf
atom_of (atoms.Numeral digits) = numeral digits.now
atom_of (atoms.Decimal digits decimals) = decimal digits.now decimals.now
atom_of (atoms.Symbol name) = symbol name.now

-- ---- trees by their parts

-- the tree at a place
abbrev pub tree_at : List Tree → ℕ → Tree
tree_at ts k = slice_index_or ts k (formless (record { line = 0; column = 0 }))

abbrev pub parts_at : List Tree → List ℕ → List Tree
parts_at ts ks = map (tree_at ts) ks

-- what a node stands for, where its parts stand for these trees
abbrev pub node_tree : List Tree → Node → Tree
node_tree ts (nodes.Atomic at a) = atomic (place_of at) (atom_of a)
node_tree ts (nodes.Applied at name ks) = applied (place_of at) name.now (trees_of (parts_at ts ks.items))
node_tree ts (nodes.Root at k) = root (place_of at) (tree_at ts k)
node_tree ts (nodes.Quotient at k d) = quotient (place_of at) (tree_at ts k) (tree_at ts d)
node_tree ts (nodes.Formless at) = formless (place_of at)

-- so many trees are there
abbrev pub AreBelow : ℕ → List ℕ → Type 0
AreBelow n ks = AllByRecursion (λ k. k < n) ks

abbrev pub IsBelow : ℕ → Node → Type 0
IsBelow n (nodes.Atomic at a) = Unit {0}
IsBelow n (nodes.Applied at name ks) = AreBelow n ks.items
IsBelow n (nodes.Root at k) = k < n
IsBelow n (nodes.Quotient at k d) = (k < n) × (d < n)
IsBelow n (nodes.Formless at) = Unit {0}

-- the tree at a place, by its parts, which stand before it
abbrev pub ShowsNode : List Tree → ℕ → Node → Type 0
ShowsNode ts at node = (slice_get ts at ≡ Some (node_tree ts node)) × IsBelow at node

-- ---- what a tree holds

pub record AreFacts (f : Facts) (t : Tree) : Type 0 where
  pub number : f.is_number ≡ is_number t
  pub root : f.holds_root ≡ holds_root t
  pub choice : f.holds_choice ≡ holds_choice t

-- the same of several trees together
pub record AreFactsOfAll (f : Facts) (ts : List Tree) : Type 0 where
  pub number : f.is_number ≡ are_numbers (trees_of ts)
  pub root : f.holds_root ≡ hold_root (trees_of ts)
  pub choice : f.holds_choice ≡ hold_choice (trees_of ts)

-- ---- the arena

-- the trees of nodes in order, behind these trees
abbrev pub trees_behind : List Tree → List Node → List Tree
trees_behind ts [] = []
trees_behind ts (n ∷ ns) = node_tree ts n ∷ trees_behind (ts ++ (node_tree ts n ∷ [])) ns

abbrev pub trees_in : List Node → List Tree
trees_in ns = trees_behind [] ns

-- a node more stands for this tree
abbrev pub Adds : List Node → List Node → Tree → Type 0
Adds old new t = trees_in new ≡ trees_in old ++ (t ∷ [])

abbrev pub node_in : Entry → Node
node_in e = e.node

-- each stands behind its parts, with what its tree holds
pub record AreEntries (es : List Entry) : Type 0 where
  pub below : (k : ℕ) (e : Entry) → slice_get es k ≡ Some e → IsBelow k e.node
  pub known : (k : ℕ) (e : Entry) → slice_get es k ≡ Some e → AreFacts e.facts (tree_at (trees_in (map node_in es)) k)
