-- The roots and quotients that become constants, as they are found.
use Rattle.std.specs.Prelude.{◌≡◌, ◌<◌, ℕ, List, [], ◌∷◌, ◌++◌, map, Bool, true, false, cond, length, slice_index, slice_index_or}
use Rattle.std.specs.List.{AllByRecursion}
use Rattle.script_roots.specs.Tree.{Tree, atomic, applied, root, quotient, formless}
use Rattle.script_roots.specs.Ranges.{Ranges}
use Rattle.script_roots.specs.Fresh.{stands_alone, fresh_in, all_fresh, has_tree}
use Rattle.root_rewriting.specs.Nodes.{AreBelow, parts_at, tree_at, trees_in}
use Rattle.root_rewriting.specs.Classes.{AreClasses}
use Rattle.root_rewriting.specs.declared.found.Found.{Found}
use Rattle.root_rewriting.specs.declared.found.Source.{Source}

-- ---- one tree

-- a constant is to stand for it
abbrev pub is_own : Ranges → Tree → Bool
is_own ranges (root at t) = true
is_own ranges (quotient at t d) = stands_alone ranges t d
is_own ranges t = false

abbrev pub own_in : Ranges → Tree → List Tree
own_in ranges t = cond (is_own ranges t) (t ∷ []) []

-- those of its parts
abbrev pub inner_in : Ranges → Tree → List Tree
inner_in ranges (atomic at l) = []
inner_in ranges (applied at name ts) = all_fresh ranges ts
inner_in ranges (root at t) = fresh_in ranges t
inner_in ranges (quotient at t d) = fresh_in ranges t ++ fresh_in ranges d
inner_in ranges (formless at) = []

-- ---- what was found

abbrev pub AllHave : List Tree → List Tree → Type 0
AllHave seen ts = AllByRecursion (λ t. has_tree t seen ≡ true) ts

-- for which trees a constant is to stand
abbrev pub AreOwn : Ranges → List Tree → List Bool → Type 0
AreOwn ranges ts own = own ≡ map (is_own ranges) ts

-- a class and a mark for each tree
pub record IsSource (s : Source) : Type 0 where
  pub classes : AreClasses (trees_in s.trees.now) s.classes.now
  pub all : length s.classes.now ≡ length s.trees.now
  pub own : length s.own.now ≡ length s.trees.now

-- so many trees are there
pub record IsSized (n : ℕ) (f : Found) : Type 0 where
  pub listed : length f.listed.items ≡ n
  pub marked : length f.marked.items ≡ n
  pub order : AreBelow n f.order.items

-- These were found: of each class it is known whether one of them is of it, and of some trees that all in it are among them.
pub record IsFound (ranges : Ranges) (s : Source) (f : Found) (seen : List Tree) : Type 0 where
  pub order : parts_at (trees_in s.trees.now) f.order.items ≡ seen
  pub listed : (k : ℕ) → k < length s.trees.now →
      slice_index_or f.listed.items (slice_index s.classes.now k) false ≡ has_tree (tree_at (trees_in s.trees.now) k) seen
  pub marked : (k : ℕ) → k < length s.trees.now → slice_index_or f.marked.items k false ≡ true →
      AllHave seen (fresh_in ranges (tree_at (trees_in s.trees.now) k))
