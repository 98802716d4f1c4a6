-- Which trees are conjuncts of assertions, and the ends that these give.
use Rattle.std.specs.Prelude.{◌≡◌, ◌⊎◌, ℕ, ◌<◌, List, [], ◌∷◌, ◌++◌, map, length, Bool, true, false, cond, Option, Some, slice_set}
use Rattle.std.specs.List.{AllByRecursion}
use Rattle.script_model.specs.Reading.{Operator, conjunction, found, operators, plus, times}
use Rattle.script_roots.specs.Fresh.{Asserted}
use Rattle.script_roots.specs.Tree.{Tree, applied}
use Rattle.script_roots.specs.TreeBounds.{Axes, EndBound, all_ends, claim_ends, ends_in, or_no_end, tree_in, trees_in}
use Rattle.root_rewriting.specs.declared.unfold.assertions.Assertion.{Assertion}
use Rattle.root_rewriting.specs.declared.unfold.trees.Node.{Node}
use Rattle.root_rewriting.specs.declared.unfold.trees.Node.TheVariants as nodes
use Rattle.root_rewriting.specs.Ends.{chain_ends}

abbrev pub marked_all : List Bool → List ℕ → List Bool
marked_all marks [] = marks
marked_all marks (k ∷ rest) = marked_all (slice_set marks k true) rest

-- so many trees are there
abbrev pub ArePlaces : ℕ → List Assertion → Type 0
ArePlaces n cs = AllByRecursion (λ (c : Assertion). c.tree < n) cs

-- the places of assertions without goals
abbrev pub assertion_places : List Assertion → List ℕ
assertion_places [] = []
assertion_places (c ∷ cs) = cond c.is_goal (assertion_places cs) (c.tree ∷ assertion_places cs)

-- what `+` or `*` has alone
abbrev pub alone : {X : Type 0} → List X → List X
alone (x ∷ []) = x ∷ []
alone xs = []

abbrev pub operator_conjuncts : {X : Type 0} → Option Operator → List X → List X
operator_conjuncts (Some conjunction) xs = xs
operator_conjuncts (Some plus) xs = alone xs
operator_conjuncts (Some times) xs = alone xs
operator_conjuncts op xs = []

-- the places of a node's conjuncts
abbrev pub conjuncts_of : Node → List ℕ
conjuncts_of (nodes.Applied at name ks) = operator_conjuncts (found name.now operators) ks.items
conjuncts_of _ = []

-- ---- ends

-- the ends that a tree gives by itself, and those of its conjuncts besides
abbrev pub tree_ends : Axes → Tree → List EndBound
tree_ends axes (applied at name ts) = chain_ends (found name operators) (trees_in axes ts)
tree_ends axes t = []

abbrev pub all_tree_ends : Axes → Tree → List EndBound
all_tree_ends axes t = ends_in (tree_in axes t)

-- a name gives no end by itself
abbrev pub SayNothing : Axes → Type 0
SayNothing axes = (name : List ℕ) → ends_in (or_no_end (found name axes)) ≡ []

-- the ends of trees with a mark
abbrev pub marked_ends : Axes → List Bool → List Tree → List EndBound
marked_ends axes [] ts = []
marked_ends axes (true ∷ marks) (t ∷ ts) = tree_ends axes t ++ marked_ends axes marks ts
marked_ends axes (false ∷ marks) (t ∷ ts) = marked_ends axes marks ts
marked_ends axes marks [] = []

abbrev pub IsAmong : {A : Type 0} → A → List A → Type 0
IsAmong x [] = ⊥
IsAmong x (y ∷ rest) = (x ≡ y) ⊎ IsAmong x rest

-- the same elements, however often and in whatever order
pub record SameElements {A : Type 0} (xs ys : List A) : Type 0 where
  pub there : (x : A) → IsAmong x xs → IsAmong x ys
  pub back : (x : A) → IsAmong x ys → IsAmong x xs

-- a mark for each tree, so that the ends of those with a mark are those of the assertions
pub record AreConjuncts (axes : Axes) (ts : List Tree) (claims : List Asserted) (marks : List Bool) : Type 0 where
  pub count : length marks ≡ length ts
  pub same : SameElements (marked_ends axes marks ts) (all_ends (map (claim_ends axes) claims))
