-- The children of a node, and what its enclosure rests on.
use Rattle.std.proofs.Common.{◌≡◌, ℕ, ◌<◌, List, Bool, true, false, ◌||◌, IsTrue, refl, ap, ap₂, arith, nat_eq, nat_lt, eqb-true, eq-eqb, ltb→lt}
use Rattle.std.specs.Bool.{passes}
use Rattle.interval_model.specs.Interval.{Interval, interval_negated, interval_sum, interval_product, interval_square}
use Rattle.dyadic.proofs.Equal.{both_true}
use Rattle.poly_graph.specs.Term.{Node, constant_node, variable_node, negate_node, add_node, multiply_node, square_node, comes_after, has_child}
use Rattle.interval_model.specs.Space.{Space, axis_interval}
use Rattle.cover_model.specs.NodeEnclosure.{row, node_enclosure}

pub or-right : (t u : Bool) → u ≡ true → (t || u) ≡ true
or-right true u h = refl
or-right false u h = h

pub or-cases : (t u : Bool) → (t || u) ≡ true → (t ≡ false → u ≡ true)
or-cases true u h e = cc
or-cases false u h e = h

pub same_children : (was space : Space) (es es' : List Interval) (n : Node) → ((a : ℕ) → n ≡ variable_node a → axis_interval was a ≡ axis_interval space a) → ((c : ℕ) → has_child c n ≡ true → row es c ≡ row es' c) →
    node_enclosure was es n ≡ node_enclosure space es' n
same_children was space es es' (constant_node q) v f = refl
same_children was space es es' (variable_node a) v f = v a refl
same_children was space es es' (negate_node a) v f = ap interval_negated (f a (eq-eqb a a refl))
same_children was space es es' (add_node a c) v f =
    ap₂ interval_sum (f a (ap (λ (t : Bool). t || nat_eq c a) (eq-eqb a a refl))) (f c (or-right (nat_eq a c) (nat_eq c c) (eq-eqb c c refl)))
same_children was space es es' (multiply_node a c) v f =
    ap₂ interval_product (f a (ap (λ (t : Bool). t || nat_eq c a) (eq-eqb a a refl))) (f c (or-right (nat_eq a c) (nat_eq c c) (eq-eqb c c refl)))
same_children was space es es' (square_node a) v f = ap interval_square (f a (eq-eqb a a refl))

below : (a c k : ℕ) → nat_eq a c ≡ true → IsTrue (nat_lt a k) → c < k
below a c k h o = let e = eqb-true a c h in let l = ltb→lt a k (passes _ o) in omega (arith, e, l)

child-of-two : (a b c k : ℕ) → (nat_eq a c || nat_eq b c) ≡ true → IsTrue (nat_lt a k) → IsTrue (nat_lt b k) → c < k
child-of-two a b c k h o p = go (nat_eq a c) refl
  where
    go : (t : Bool) → nat_eq a c ≡ t → c < k
    go true e = below a c k e o
    go false e = below b c k (or-cases (nat_eq a c) (nat_eq b c) h e) p

pub child-below : (c k : ℕ) (n : Node) → IsTrue (comes_after k n) → has_child c n ≡ true → c < k
child-below c k (constant_node q) o h = cc
child-below c k (variable_node a) o h = cc
child-below c k (negate_node a) o h = below a c k h o
child-below c k (add_node a b) o h = let e = both_true (nat_lt a k) (nat_lt b k) o in child-of-two a b c k h e.0 e.1
child-below c k (multiply_node a b) o h = let e = both_true (nat_lt a k) (nat_lt b k) o in child-of-two a b c k h e.0 e.1
child-below c k (square_node a) o h = below a c k h o
