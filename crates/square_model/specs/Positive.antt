-- Sums of squares: whether a combination of atoms, less what is at least 0 over the space, is above what its atoms allow, so that
-- no point of the space has each atom's value in its range.
use Rattle.std.specs.Prelude.{ℕ, zero, suc, ◌+◌, List, [], ◌∷◌, length, Bool, true, false, cond, not, ◌&&◌, Option, Some, nat_le, get_or, set, replicate, slice_get, slice_index_or}
use Rattle.dyadic.specs.Fraction.{zero_fraction}
use Rattle.dyadic.specs.Rounding.{ext_at_most}
pub use Rattle.cover_line.specs.Line.{Multipliers}
use Rattle.interval_model.specs.Interval.{Interval, between, interval_sum, interval_product}
use Rattle.interval_model.specs.Space.{Space}
use Rattle.poly_graph.specs.Term.{constant, Node, negate_node, add_node, multiply_node, square_node, graph_terms}
use Rattle.poly_graph.specs.Problem.{Problem, atom_at, term_of}
use Rattle.square_model.specs.Polynomial.{Polynomial, only, nought_alone, constant_polynomial, is_short, polynomial_of}
use Rattle.square_model.specs.Range.{apart_range, polynomial_range}
use Rattle.square_model.specs.Block.{Block, block_polynomial, is_block}
use Rattle.square_model.specs.Steps.{Counted, counted, sum_steps, product_steps, counted_negated, counted_sum, counted_product}

-- ---- the combination, less its blocks

-- from the last pair to the first
abbrev pub combined_polynomial : Problem → Space → Multipliers → Counted
combined_polynomial p centre [] = counted []
combined_polynomial p centre ((j, l) ∷ rest) =
    counted_sum (combined_polynomial p centre rest) (counted_product (counted (constant_polynomial (only l))) (counted (polynomial_of centre (term_of p j))))

abbrev pub less_blocks : Space → Space → List Block → Counted → Counted
less_blocks space centre [] a = a
less_blocks space centre (b ∷ bs) a = less_blocks space centre bs (counted_sum a (counted_negated (block_polynomial space centre b)))

abbrev pub rest_polynomial : Problem → Space → Space → Multipliers → List Block → Counted
rest_polynomial p space centre ms bs = less_blocks space centre bs (combined_polynomial p centre ms)

-- ---- what the atoms allow

-- the range of the combination, where these are the ranges of the atoms' values
abbrev pub allowed_range : (ℕ → Interval) → Multipliers → Interval
allowed_range ranges [] = nought_alone
allowed_range ranges ((j, l) ∷ rest) = interval_sum (allowed_range ranges rest) (interval_product (only l) (ranges j))

-- the lower end of the first is above the upper end of the second
abbrev pub is_above : Interval → Interval → Bool
is_above (between l h) (between l' h') = not (ext_at_most l h')
is_above _ _ = false

-- ---- the nodes that are expanded: those of the atoms' terms, each once

abbrev pub with_children : Option Node → List Bool → List Bool
with_children (Some (negate_node a)) marks = set marks a true
with_children (Some (add_node a b)) marks = set (set marks a true) b true
with_children (Some (multiply_node a b)) marks = set (set marks a true) b true
with_children (Some (square_node a)) marks = set marks a true
with_children _ marks = marks

-- the nodes below this number, the highest first: where one is marked, so are its children
abbrev pub marked_below : List Node → ℕ → List Bool → List Bool
marked_below nodes zero marks = marks
marked_below nodes (suc k) marks = marked_below nodes k (cond (get_or marks k false) (with_children (slice_get nodes k) marks) marks)

abbrev pub root_marks : Problem → Multipliers → List Bool
root_marks p [] = replicate (length p.nodes) false
root_marks p ((j, l) ∷ rest) = set (root_marks p rest) (atom_at p j).0 true

abbrev pub expanded_nodes : Problem → Multipliers → List Bool
expanded_nodes p ms = marked_below p.nodes (length p.nodes) (root_marks p ms)

-- the polynomial of a node's term
abbrev pub node_polynomial : Space → List Node → ℕ → Polynomial
node_polynomial centre nodes k = polynomial_of centre (slice_index_or (graph_terms nodes) k (constant zero_fraction))

-- of a node, where its children are expanded
abbrev pub node_steps : Space → List Node → Option Node → ℕ
node_steps centre nodes (Some (add_node a b)) = sum_steps (node_polynomial centre nodes a) (node_polynomial centre nodes b)
node_steps centre nodes (Some (multiply_node a b)) = product_steps (node_polynomial centre nodes a) (node_polynomial centre nodes b)
node_steps centre nodes (Some (square_node a)) = product_steps (node_polynomial centre nodes a) (node_polynomial centre nodes a)
node_steps centre nodes _ = 0

-- of the marked nodes below this number
abbrev pub steps_below : Space → List Node → List Bool → ℕ → ℕ
steps_below centre nodes marks zero = 0
steps_below centre nodes marks (suc k) = steps_below centre nodes marks k + cond (get_or marks k false) (node_steps centre nodes (slice_get nodes k)) 0

-- none of them has a monomial of more than 32 axes
abbrev pub are_short_below : Space → List Node → List Bool → ℕ → Bool
are_short_below centre nodes marks zero = true
are_short_below centre nodes marks (suc k) = are_short_below centre nodes marks k && cond (get_or marks k false) (is_short (node_polynomial centre nodes k)) true

-- ---- how long the line is

abbrev pub sizes_of : {A : Type 0} → List (List A) → ℕ
sizes_of [] = 0
sizes_of (xs ∷ rest) = length xs + sizes_of rest

-- the factor's numbers, and each list with its length
abbrev pub block_numbers : Block → ℕ
block_numbers b = 3 + ((length b.monomials + sizes_of b.monomials) + sizes_of b.rows)

abbrev pub blocks_numbers : List Block → ℕ
blocks_numbers [] = 0
blocks_numbers (b ∷ bs) = block_numbers b + blocks_numbers bs

-- how many numbers the line has, at most
abbrev pub all_numbers : Multipliers → List Block → ℕ
all_numbers ms bs = suc (length ms + length ms) + blocks_numbers bs

abbrev pub most_numbers : ℕ
most_numbers = 8000

-- ---- the condition

-- blocks of polynomials with numbers for coefficients, with no product of more than 32 axes
abbrev pub are_blocks : Space → Space → List Block → Bool
are_blocks space centre [] = true
are_blocks space centre (b ∷ bs) = is_block space centre b && is_short (block_polynomial space centre b).polynomial && are_blocks space centre bs

-- of all operations on polynomials, and of the range of what they come to
abbrev pub all_steps : Problem → Space → Space → Multipliers → List Block → ℕ
all_steps p space centre ms bs = let a = rest_polynomial p space centre ms bs in
    (steps_below centre p.nodes (expanded_nodes p ms) (length p.nodes) + a.steps) + length a.polynomial

abbrev pub most_steps : ℕ
most_steps = 1048576

-- within the limits
abbrev pub is_small : Problem → Space → Space → Multipliers → List Block → Bool
is_small p space centre ms bs = nat_le (all_numbers ms bs) most_numbers && are_short_below centre p.nodes (expanded_nodes p ms) (length p.nodes) && nat_le (all_steps p space centre ms bs) most_steps

-- expanded at the centre, where these are the ranges of the atoms' values
abbrev pub is_positive : Problem → (ℕ → Interval) → Space → Space → Multipliers → List Block → Bool
is_positive p ranges space centre ms bs = are_blocks space centre bs && is_small p space centre ms bs
    && is_above (polynomial_range (apart_range space centre) (rest_polynomial p space centre ms bs).polynomial) (allowed_range ranges ms)
