-- The expansion of a graph's nodes.
use Rattle.std.specs.Prelude.{◌≡◌, ℕ, ◌+◌, ◌<◌, ◌⊎◌, List, Vec, Bool, true, false, Option, Some, None, length, map, get_or, slice_get}
use Rattle.std.specs.declared.alloc.Global.{Global}
use Rattle.interval_model.specs.Space.{Space}
use Rattle.poly_graph.specs.Term.{Node, has_child}
use Rattle.square_model.specs.Polynomial as model
use Rattle.square_model.specs.Polynomial.{is_short}
use Rattle.square_model.specs.Positive.{node_polynomial, steps_below, are_short_below}
use Rattle.squares.specs.Nodes.{terms_at, node_terms, node_cost}
use Rattle.squares.specs.Views.{terms_of}
use Rattle.squares.specs.declared.budget.Budget.{Budget}
use Rattle.squares.specs.declared.polynomial.Polynomial.{Polynomial}

-- the next node's polynomial is short and its steps are taken, or there is none
abbrev pub IsNext : Space → List model.Polynomial → Node → Budget → Budget → Option Polynomial → Type 0
IsNext centre before node old new None = (old.left < node_cost before node) ⊎ (is_short (node_terms centre before node) ≡ false)
IsNext centre before node old new (Some p) = (terms_of p ≡ node_terms centre before node) × (new.left + node_cost before node ≡ old.left) × (is_short (node_terms centre before node) ≡ true)

-- the same of a marked node; of another one there is some polynomial, at no step
abbrev pub IsNextIf : Bool → Space → List model.Polynomial → Node → Budget → Budget → Option Polynomial → Type 0
IsNextIf true centre before node old new p = IsNext centre before node old new p
IsNextIf false centre before node old new None = ⊥
IsNextIf false centre before node old new (Some p) = new.left ≡ old.left

-- the children of marked nodes are marked
abbrev pub IsClosed : List Node → List Bool → Type 0
IsClosed nodes marks = (k : ℕ) (node : Node) → slice_get nodes k ≡ Some node → get_or marks k false ≡ true → (i : ℕ) → has_child i node ≡ true → get_or marks i false ≡ true

-- the marked nodes below n have their polynomials, which are short, and their steps are taken
pub record IsExpandedTo (centre : Space) (nodes : List Node) (marks : List Bool) (n : ℕ) (ts : List model.Polynomial) (left all : ℕ) : Type 0 where
  pub count : length ts ≡ n
  pub polynomials : (k : ℕ) → k < n → get_or marks k false ≡ true → terms_at ts k ≡ node_polynomial centre nodes k
  pub steps : left + steps_below centre nodes marks n ≡ all
  pub short : are_short_below centre nodes marks n ≡ true

-- so have all of them, or they take too many steps or are not short
abbrev pub IsExpanded : Space → List Node → List Bool → Budget → Budget → Option (Vec Polynomial Global) → Type 0
IsExpanded centre nodes marks old new None = (old.left < steps_below centre nodes marks (length nodes)) ⊎ (are_short_below centre nodes marks (length nodes) ≡ false)
IsExpanded centre nodes marks old new (Some ps) = IsExpandedTo centre nodes marks (length nodes) (map terms_of ps.items) new.left old.left
