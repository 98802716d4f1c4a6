-- What is left of a walk over trees: a stack, whose top stands last.
use Rattle.std.specs.Prelude.{◌≡◌, ◌<◌, ℕ, ◌+◌, List, [], ◌∷◌, ◌++◌}
use Rattle.std.specs.List.{AllByRecursion}
use Rattle.script_roots.specs.Tree.{Tree, atomic, applied, root, quotient, formless, Trees, no_trees, more_trees}
use Rattle.script_roots.specs.Ranges.{Ranges}
use Rattle.script_roots.specs.Fresh.{fresh_in, once}
use Rattle.root_rewriting.specs.Nodes.{tree_at, trees_in}
use Rattle.root_rewriting.specs.declared.unfold.trees.Node.{Node}
use Rattle.root_rewriting.specs.declared.unfold.trees.Node.TheVariants as nodes
use Rattle.root_rewriting.specs.Found.{AllHave, IsFound, inner_in, own_in}
use Rattle.root_rewriting.specs.declared.found.Found.{Found}
use Rattle.root_rewriting.specs.declared.found.Source.{Source}
use Rattle.root_rewriting.specs.declared.walk.Work.{Work}
use Rattle.root_rewriting.specs.declared.walk.Work.TheVariants.{Enter, Leave}

abbrev pub place_in : Work → ℕ
place_in (Enter at) = at
place_in (Leave at) = at

-- so many trees are there
abbrev pub AreWorks : ℕ → List Work → Type 0
AreWorks n works = AllByRecursion (λ w. place_in w < n) works

abbrev pub node_parts : Node → List ℕ
node_parts (nodes.Atomic at a) = []
node_parts (nodes.Applied at name ks) = ks.items
node_parts (nodes.Root at k) = k ∷ []
node_parts (nodes.Quotient at k d) = k ∷ d ∷ []
node_parts (nodes.Formless at) = []

-- the first on top
abbrev pub enters : List ℕ → List Work
enters [] = []
enters (k ∷ ks) = enters ks ++ (Enter k ∷ [])

-- ---- that it ends

abbrev mutual
  pub steps_in : Tree → ℕ
  steps_in (atomic at l) = 2
  steps_in (applied at name ts) = 2 + steps_in_all ts
  steps_in (root at t) = 2 + (steps_in t + 0)
  steps_in (quotient at t d) = 2 + (steps_in t + (steps_in d + 0))
  steps_in (formless at) = 2

  pub steps_in_all : Trees → ℕ
  steps_in_all no_trees = 0
  steps_in_all (more_trees t ts) = steps_in t + steps_in_all ts

abbrev pub work_weight : List Tree → Work → ℕ
work_weight ts (Enter at) = steps_in (tree_at ts at)
work_weight ts (Leave at) = 1

abbrev pub weight : List Tree → List Work → ℕ
weight ts [] = 0
weight ts (w ∷ works) = work_weight ts w + weight ts works

-- ---- what it finds

abbrev pub found_by : Ranges → List Tree → Work → List Tree → List Tree
found_by ranges ts (Enter at) seen = once seen (fresh_in ranges (tree_at ts at))
found_by ranges ts (Leave at) seen = once seen (own_in ranges (tree_at ts at))

-- what is found in the end
abbrev pub found_after : Ranges → List Tree → List Work → List Tree → List Tree
found_after ranges ts [] seen = seen
found_after ranges ts (w ∷ above) seen = found_by ranges ts w (found_after ranges ts above seen)

abbrev pub CanBeDone : Ranges → List Tree → Work → List Tree → Type 0
CanBeDone ranges ts (Enter at) seen = Unit {0}
CanBeDone ranges ts (Leave at) seen = AllHave seen (inner_in ranges (tree_at ts at))

-- where a tree is left, its parts are done by then
abbrev pub AllCanBeDone : Ranges → List Tree → List Work → List Tree → Type 0
AllCanBeDone ranges ts [] seen = Unit {0}
AllCanBeDone ranges ts (w ∷ above) seen = CanBeDone ranges ts w (found_after ranges ts above seen) × AllCanBeDone ranges ts above seen

-- with these on the stack, these trees are found in the end
pub record Walks (ranges : Ranges) (s : Source) (f : Found) (stack : List Work) (end : List Tree) : Type 0 where
  pub seen : List Tree
  pub found : IsFound ranges s f seen
  pub done : AllCanBeDone ranges (trees_in s.trees.now) stack seen
  pub ends : found_after ranges (trees_in s.trees.now) stack seen ≡ end
