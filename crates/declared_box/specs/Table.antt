-- Lists of bounds that share parts: each is one bound, or joins earlier lists.
use Rattle.std.specs.Prelude.{◌≡◌, ℕ, suc, ◌<◌, List, [], ◌∷◌, ◌++◌, map, length, slice_index_or}
use Rattle.std.specs.List.{All}
use Rattle.dyadic.specs.Fraction.{Fraction}
use Rattle.script_model.specs.Declared.{Side, Bound, one_side, concat}

pub data Node : Type 0 where
  -- one bound
  one : ℕ → Side → Fraction → Node
  -- the bounds of earlier nodes
  all : List ℕ → Node

abbrev pub list_at : List (List Bound) → ℕ → List Bound
list_at lists k = slice_index_or lists k []

-- the lists of these numbers, one after another
abbrev pub all_of : List (List Bound) → List ℕ → List Bound
all_of lists parts = concat (map (λ k. list_at lists k) parts)

-- the list of a node, where these are those of the nodes before it
abbrev pub node_list : List (List Bound) → Node → List Bound
node_list lists (one axis side value) = one_side side axis value
node_list lists (all parts) = all_of lists parts

-- the lists of nodes that come after these
abbrev pub lists_after : List (List Bound) → List Node → List (List Bound)
lists_after lists [] = lists
lists_after lists (n ∷ nodes) = lists_after (lists ++ (node_list lists n ∷ [])) nodes

-- the lists of nodes, in order
abbrev pub bound_lists : List Node → List (List Bound)
bound_lists nodes = lists_after [] nodes

-- these are numbers of nodes before number n
abbrev pub AreBefore : ℕ → List ℕ → Type 0
AreBefore n parts = All (λ (k : ℕ). k < n) parts

-- the parts of a node come before number n
abbrev pub ComesAfter : ℕ → Node → Type 0
ComesAfter n (one axis side value) = Unit {0}
ComesAfter n (all parts) = AreBefore n parts

-- of nodes from number n on, each comes after its parts
abbrev pub AreInOrder : ℕ → List Node → Type 0
AreInOrder n [] = Unit {0}
AreInOrder n (x ∷ nodes) = ComesAfter n x × AreInOrder (suc n) nodes

-- the list stands at the end, under this number
abbrev pub IsAdded : List (List Bound) → List (List Bound) → List Bound → ℕ → Type 0
IsAdded old new bs k = (k ≡ length old) × (new ≡ old ++ (bs ∷ []))
