-- Squares have coefficients only where differences do.
use Rattle.std.proofs.Common.{◌≡◌, ℕ, List, Bool, true, false, cond, Some, None, nat_eq}
use Rattle.interval_model.specs.Interval.{Interval, interval_negated, interval_product}
use Rattle.poly_graph.specs.Term.{Node, constant_node, variable_node, negate_node, add_node, multiply_node, square_node}
use Rattle.cover_model.specs.NodeEnclosure.{row}
use Rattle.cover_model.specs.Combination.{Adjoints, joined, handed, squares_down}
use Rattle.cover_model.specs.CombinationConstants.{is_constant_at, handed_unless, handed_on}

handed-none : (a : ℕ) (i : Interval) (os : Adjoints) (k : ℕ) → handed a i os k ≡ None → os k ≡ None
handed-none a i os k h = go (nat_eq k a) h
  where
    go : (t : Bool) → cond t (Some (joined (os k) i)) (os k) ≡ None → os k ≡ None
    go true e = cc
    go false e = e

both-none : (a : ℕ) (i w : Interval) (os qs : Adjoints) (k : ℕ) → (os k ≡ None → qs k ≡ None) → handed a i os k ≡ None → handed a w qs k ≡ None
both-none a i w os qs k f h = go (nat_eq k a) h
  where
    go : (t : Bool) → cond t (Some (joined (os k) i)) (os k) ≡ None → cond t (Some (joined (qs k) w)) (qs k) ≡ None
    go true e = cc
    go false e = f e

unless-none : (t : Bool) (a : ℕ) (i : Interval) (os : Adjoints) (k : ℕ) → handed_unless t a i os k ≡ None → os k ≡ None
unless-none true a i os k h = h
unless-none false a i os k h = handed-none a i os k h

pub squares_under : (nodes : List Node) (cs : List Interval) (w : Interval) (n : Node) (os qs : Adjoints) → ((k : ℕ) → os k ≡ None → qs k ≡ None) →
    (k : ℕ) → handed_on nodes cs w n os k ≡ None → squares_down w n qs k ≡ None
squares_under nodes cs w (constant_node q) os qs f k h = f k h
squares_under nodes cs w (variable_node a) os qs f k h = f k h
squares_under nodes cs w (negate_node a) os qs f k h = f k (handed-none a (interval_negated w) os k h)
squares_under nodes cs w (add_node a b) os qs f k h =
    let s = is_constant_at nodes a in let t = is_constant_at nodes b in
    f k (unless-none s a w os k (unless-none t b w (handed_unless s a w os) k h))
squares_under nodes cs w (multiply_node a b) os qs f k h =
    let s = is_constant_at nodes a in let t = is_constant_at nodes b in let i = interval_product w (row cs b) in
    f k (unless-none s a i os k (unless-none t b (interval_product w (row cs a)) (handed_unless s a i os) k h))
squares_under nodes cs w (square_node a) os qs f k h =
    let i = interval_product w (row cs a) in both-none a i w os qs k (f k) (handed-none a i (handed a i os) k h)
