-- Narrowing keeps the values of the subterms of an atom that holds.
use Rattle.std.proofs.Common.{◌≡◌, ◌+◌, ◌<◌, ◌≤◌, length, arith, ℕ, suc, zero, List, [], ◌∷◌, Bool, true, false, cond, ◌&&◌, IsTrue, Option, Some, None, refl, ap, sym, ◌∙◌, subst, true≢false, slice_index_or, nat_eq, nat_lt, eqb→eq, ltb→lt}
use Rattle.std.proofs.Math.IntN.{neg_ℤ-neg_ℤ}
use Rattle.std.proofs.lemmas.List.{get_or-map, length-map}
use Rattle.std.specs.Prelude.{slice_get, All}
use Rattle.std.specs.Bool.{passes}
use Rattle.dyadic.specs.Fraction.{Fraction, IsFraction, zero_fraction, sum_of, product_of, negated, at_most}
use Rattle.dyadic.specs.Point.{Sort, real_sort, bool_sort, Coordinate, at_fraction, at_bool, IsPoint}
use Rattle.dyadic.specs.Rounding.{exact, finite, below_all, above_all}
use Rattle.interval_model.specs.Interval.{Interval, nothing, between, interval_negated, interval_square, inverse_sum, inverse_product, inverse_square, met, everything}
use Rattle.dyadic.proofs.Equal.{both_true, both_pass}
use Rattle.interval_model.proofs.Ends.{product_comm}
use Rattle.interval_model.proofs.Holds.{Holds, met_holds, negated_holds, everything_holds}
use Rattle.interval_model.proofs.HoldsGrid.{met_kept, everything_kept, negated_kept, square_kept, inverse_sum_kept, inverse_product_kept, inverse_square_kept}
use Rattle.interval_model.proofs.Inverses.{sum_comm, inverse_sum_holds, inverse_product_holds}
use Rattle.interval_model.proofs.InversesSquares.{IsKept, inverse_square_holds}
use Rattle.poly_graph.specs.Term.{Term, constant, term_value, coordinate, Node, constant_node, variable_node, negate_node, add_node, multiply_node, square_node, node_term, graph_terms, comes_after, in_order, has_child}
use Rattle.interval_model.specs.Space.{Space, in_domain, in_space}
use Rattle.cover_model.specs.Space.{enclosure}
use Rattle.poly_graph.specs.Problem.{IsNode, HasSort}
use Rattle.cover_model.specs.Narrowed.{if_child, left_by, with_parent, from_parents, own, narrowed_from, narrowed, some_empty, set_axis, with_axes, narrowed_space, enclosures, narrowed_by}
use Rattle.cover_model.proofs.Encloses.{enclosure_holds}
use Rattle.poly_graph.proofs.Graphs.{term_at, some_is, unfolds, terms_are, length_terms, in_order_at}

negated-twice : (q : Fraction) → negated (negated q) ≡ q
unfolding negated
negated-twice q = ap (λ a. record { num = a; den = q.den }) (neg_ℤ-neg_ℤ q.num)

room : (s n m : ℕ) → s + suc n ≤ m → suc s + n ≤ m
room s n m h = omega arith

first : (s n m : ℕ) → s + suc n ≤ m → s < m
first s n m h = omega arith

-- the value of a node, given those of its children and of its constant or variable
abbrev value-of : (ℕ → Fraction) → Fraction → Node → Fraction
value-of values own (negate_node a) = negated (values a)
value-of values own (add_node a b) = sum_of (values a) (values b)
value-of values own (multiply_node a b) = product_of (values a) (values b)
value-of values own (square_node a) = product_of (values a) (values a)
value-of values own n = own

abbrev pub entry : List Interval → ℕ → Interval
entry es k = slice_index_or es k nothing

-- the values of the nodes, by number, lie in the enclosures
module _ (es : List Interval) (values : ℕ → Fraction) (are : (k : ℕ) → IsFraction (values k)) (enclosed : (k : ℕ) → k < length es → Holds (entry es k) (values k)) where
  -- the interval holds the value of node s, and its ends are numbers that are kept where those of the enclosure are
  abbrev pub Fits : Interval → ℕ → Type 0
  Fits i s = Holds i (values s) × (IsKept (entry es s) → IsKept i)

  abbrev pub IfHolds : Option Interval → ℕ → Type 0
  IfHolds None s = Unit {0}
  IfHolds (Some i) s = Fits i s

  -- of nodes from number k on: what each leaves to a child fits the child
  abbrev pub EachLeaves : ℕ → List Node → Type 0
  EachLeaves k [] = Unit {0}
  EachLeaves k (p ∷ ps) = ((s : ℕ) (n : Interval) → Fits n k → Fits (left_by es s p n) s) × EachLeaves (suc k) ps

  abbrev pub EachHolds : ℕ → List (Option Interval) → Type 0
  EachHolds k [] = Unit {0}
  EachHolds k (o ∷ os) = IfHolds o k × EachHolds (suc k) os

  met-fits : (i j : Interval) (s : ℕ) → Fits i s → Fits j s → Fits (met i j) s
  met-fits i j s h k = (met_holds i j (values s) (are s) h.0 k.0, λ e. met_kept i j (h.1 e) (k.1 e))

  everything-fits : (s : ℕ) → Fits everything s
  everything-fits s = (everything_holds (values s), λ e. everything_kept)

  with-parent : (t : Bool) (i : Interval) (o : Option Interval) (s : ℕ) → Fits i s → IfHolds o s → IfHolds (with_parent t i o) s
  with-parent false i o s h k = k
  with-parent true i None s h k = h
  with-parent true i (Some j) s h k = met-fits i j s h k

  parents-hold : (s k : ℕ) (ps : List Node) (ns : List (Option Interval)) → EachLeaves k ps → EachHolds k ns → IfHolds (from_parents es s ps ns) s
  parents-hold s k [] ns l h = tt
  parents-hold s k (p ∷ ps) [] l h = tt
  parents-hold s k (p ∷ ps) (None ∷ ns) l h = parents-hold s (suc k) ps ns l.1 h.1
  parents-hold s k (p ∷ ps) (Some n ∷ ns) l h = with-parent (has_child s p) (left_by es s p n) (from_parents es s ps ns) s (l.0 s n h.0) (parents-hold s (suc k) ps ns l.1 h.1)

  own-holds : (s : ℕ) (o : Option Interval) → s < length es → IfHolds o s → IfHolds (own es s o) s
  own-holds s None b h = tt
  own-holds s (Some i) b h = met-fits (entry es s) i s (enclosed s b, λ e. e) h

  module _ (root : ℕ) (range : Interval) (r : Holds range (values root)) (k : IsKept range) where
    root-or : (s : ℕ) (t : Bool) (o : Option Interval) → nat_eq s root ≡ t → IfHolds o s → IfHolds (cond t (Some range) o) s
    root-or s true o e h = (subst (λ (k : ℕ). Holds range (values k)) (sym (eqb→eq s root (passes _ e))) r, λ u. k)
    root-or s false o e h = h

    -- every narrowed interval holds its subterm's value
    pub narrowed_holds : (s : ℕ) (nodes : List Node) → s + length nodes ≤ length es → EachLeaves s nodes → EachHolds s (narrowed_from es root range s nodes)
    narrowed_holds s [] b l = tt
    narrowed_holds s (node ∷ later) b l = let h = narrowed_holds (suc s) later (room s (length later) (length es) b) l.1 in
        (own-holds s _ (first s (length later) (length es) b) (root-or s (nat_eq s root) (from_parents es s later (narrowed_from es root range (suc s) later)) refl (parents-hold s (suc s) later (narrowed_from es root range (suc s) later) l.1 h)), h)

  -- ---- what each node leaves to its children

  child-fits : (a s : ℕ) (t : Bool) (i : Interval) → nat_eq a s ≡ t → Fits i a → Fits (if_child t i) s
  child-fits a s true i e h = subst (λ (k : ℕ). Fits i k) (eqb→eq a s (passes _ e)) h
  child-fits a s false i e h = everything-fits s

  sum-leaves : (a b s : ℕ) (n : Interval) → a < length es → b < length es → Holds n (sum_of (values a) (values b)) → Fits (left_by es s (add_node a b) n) s
  sum-leaves a b s n p q h = met-fits (if_child (nat_eq a s) (inverse_sum n (entry es b))) (if_child (nat_eq b s) (inverse_sum n (entry es a))) s
      (child-fits a s (nat_eq a s) (inverse_sum n (entry es b)) refl (inverse_sum_holds n (entry es b) (values a) (values b) (are a) (are b) h (enclosed b q), λ e. inverse_sum_kept n (entry es b)))
      (child-fits b s (nat_eq b s) (inverse_sum n (entry es a)) refl
      (inverse_sum_holds n (entry es a) (values b) (values a) (are b) (are a) (subst (λ (v : Fraction). Holds n v) (sum_comm (values a) (values b)) h) (enclosed a p), λ e. inverse_sum_kept n (entry es a)))

  product-leaves : (a b s : ℕ) (n : Interval) → a < length es → b < length es → Holds n (product_of (values a) (values b)) → Fits (left_by es s (multiply_node a b) n) s
  product-leaves a b s n p q h = met-fits (if_child (nat_eq a s) (inverse_product n (entry es b))) (if_child (nat_eq b s) (inverse_product n (entry es a))) s
      (child-fits a s (nat_eq a s) (inverse_product n (entry es b)) refl (inverse_product_holds n (entry es b) (values a) (values b) (are a) (are b) h (enclosed b q), λ e. inverse_product_kept n (entry es b)))
      (child-fits b s (nat_eq b s) (inverse_product n (entry es a)) refl
      (inverse_product_holds n (entry es a) (values b) (values a) (are b) (are a) (subst (λ (v : Fraction). Holds n v) (product_comm (values a) (values b)) h) (enclosed a p), λ e. inverse_product_kept n (entry es a)))

  -- a negation's enclosure is kept where its child's is
  negation-leaves : (a s k : ℕ) (n : Interval) → entry es k ≡ interval_negated (entry es a) → Holds n (negated (values a)) → (IsKept (entry es k) → IsKept n) → Fits (left_by es s (negate_node a) n) s
  negation-leaves a s k n u h c = child-fits a s (nat_eq a s) (interval_negated n) refl (
    subst (λ (v : Fraction). Holds (interval_negated n) v) (negated-twice (values a)) (negated_holds n (negated (values a)) h),
    λ e. negated_kept n (c (subst (λ (i : Interval). IsKept i) (sym u) (negated_kept (entry es a) e))),
  )

  -- a square's enclosure is always kept; what is left is met with the child's own enclosure
  square-leaves : (a s k : ℕ) (n : Interval) → a < length es → entry es k ≡ interval_square (entry es a) → Holds n (product_of (values a) (values a)) → (IsKept (entry es k) → IsKept n) → Fits (left_by es s (square_node a) n) s
  square-leaves a s k n p u h c = at-child (nat_eq a s) refl
    where
      kept : IsKept n
      kept = c (subst (λ (i : Interval). IsKept i) (sym u) (square_kept (entry es a)))

      at-child : (t : Bool) → nat_eq a s ≡ t → Fits (if_child t (inverse_square (entry es s) n)) s
      at-child true e = subst (λ (k : ℕ). Fits (inverse_square (entry es k) n) k) (eqb→eq a s (passes _ e))
          (inverse_square_holds (entry es a) n (values a) kept (are a) (enclosed a p) h, λ i. inverse_square_kept (entry es a) n i kept)
      at-child false e = everything-fits s

  -- the enclosure of a negation or a square is that of its child, negated or squared
  abbrev pub Follows : ℕ → Node → Type 0
  Follows k (negate_node a) = entry es k ≡ interval_negated (entry es a)
  Follows k (square_node a) = entry es k ≡ interval_square (entry es a)
  Follows k n = Unit {0}

  node-leaves : (k : ℕ) (p : Node) (v : Fraction) → k < length es → IsTrue (comes_after k p) → values k ≡ value-of values v p → Follows k p → (s : ℕ) (n : Interval) → Fits n k → Fits (left_by es s p n) s
  node-leaves k (constant_node q) v b o e u s n h = everything-fits s
  node-leaves k (variable_node axis) v b o e u s n h = everything-fits s
  node-leaves k (negate_node a) v b o e u s n h = negation-leaves a s k n u (subst (λ (w : Fraction). Holds n w) e h.0) h.1
  node-leaves k (add_node a c) v b o e u s n h = let t = both_true (nat_lt a k) (nat_lt c k) o in let l = ltb→lt a k (passes _ t.0) in let m = ltb→lt c k (passes _ t.1) in
      sum-leaves a c s n (omega arith) (omega arith) (subst (λ (w : Fraction). Holds n w) e h.0)
  node-leaves k (multiply_node a c) v b o e u s n h = let t = both_true (nat_lt a k) (nat_lt c k) o in let l = ltb→lt a k (passes _ t.0) in let m = ltb→lt c k (passes _ t.1) in
      product-leaves a c s n (omega arith) (omega arith) (subst (λ (w : Fraction). Holds n w) e h.0)
  node-leaves k (square_node a) v b o e u s n h = let l = ltb→lt a k (passes _ o) in square-leaves a s k n (omega arith) u (subst (λ (w : Fraction). Holds n w) e h.0) h.1

  follows-at : (k k' : ℕ) (p : Node) → k ≡ k' → Follows k p → Follows k' p
  follows-at k k' p e u = subst (λ (i : ℕ). Follows i p) e u

  -- of nodes from number k on, whose values and enclosures are those of their kinds
  pub each_leaves : (k : ℕ) (ps : List Node) → k + length ps ≤ length es → IsTrue (in_order k ps) →
      ((i : ℕ) (p : Node) → slice_get ps i ≡ Some p → (v : Fraction) × (values (k + i) ≡ value-of values v p) × Follows (k + i) p) → EachLeaves k ps
  each_leaves k [] b o f = tt
  each_leaves k (p ∷ ps) b o f = let t = both_true (comes_after k p) (in_order (suc k) ps) o in let g = f zero p refl in let start : k + 0 ≡ k = omega arith in (
    node-leaves k p g.0 (first k (length ps) (length es) b) t.0 (ap values (sym start) ∙ g.1) (follows-at (k + 0) k p start g.2),
    each_leaves (suc k) ps (room k (length ps) (length es) b) t.1 (λ i q e. let m = f (suc i) q e in let place : suc k + i ≡ k + suc i = omega arith in (m.0, ap values place ∙ m.1, follows-at (k + suc i) (suc k + i) q (sym place) m.2)),
  )

-- ---- the narrowed space

-- a space keeps a point of which the new interval of an axis holds the coordinate
pub set_keeps : (others : List Sort) (axis : ℕ) (i : Interval) (space : Space) (rest : List Coordinate) → IsPoint others rest → HasSort real_sort others axis → IsTrue (in_space space rest) → Holds i (coordinate rest axis) →
    IsTrue (in_space (set_axis axis i space) rest)
set_keeps others axis i [] rest p r h v = h
set_keeps others axis i (d ∷ space) [] p r h v = absurd (true≢false (sym h))
set_keeps [] axis i (d ∷ space) (c ∷ rest) p r h v = elim r [ ]
set_keeps (real_sort ∷ others) zero (between (finite l) (finite u)) (d ∷ space) (at_fraction q ∷ rest) p r h v = both_pass (at_most (exact l) q && at_most q (exact u)) (in_space space rest) v (both_true (in_domain d (at_fraction q)) (in_space space rest) h).1
set_keeps (real_sort ∷ others) zero (between (finite l) below_all) (d ∷ space) (at_fraction q ∷ rest) p r h v = h
set_keeps (real_sort ∷ others) zero (between (finite l) above_all) (d ∷ space) (at_fraction q ∷ rest) p r h v = h
set_keeps (real_sort ∷ others) zero (between below_all u) (d ∷ space) (at_fraction q ∷ rest) p r h v = h
set_keeps (real_sort ∷ others) zero (between above_all u) (d ∷ space) (at_fraction q ∷ rest) p r h v = h
set_keeps (real_sort ∷ others) zero nothing (d ∷ space) (at_fraction q ∷ rest) p r h v = h
set_keeps (real_sort ∷ others) zero i (d ∷ space) (at_bool b ∷ rest) p r h v = elim p [ ]
set_keeps (bool_sort ∷ others) zero i (d ∷ space) (c ∷ rest) p r h v = elim r [ ]
set_keeps (real_sort ∷ others) (suc axis) i (d ∷ space) (at_fraction q ∷ rest) p r h v = let t = both_true (in_domain d (at_fraction q)) (in_space space rest) h in
    both_pass (in_domain d (at_fraction q)) (in_space (set_axis axis i space) rest) t.0 (set_keeps others axis i space rest p.1 r t.1 v)
set_keeps (bool_sort ∷ others) (suc axis) i (d ∷ space) (at_bool b ∷ rest) p r h v = let t = both_true (in_domain d (at_bool b)) (in_space space rest) h in
    both_pass (in_domain d (at_bool b)) (in_space (set_axis axis i space) rest) t.0 (set_keeps others axis i space rest p r t.1 v)
set_keeps (real_sort ∷ others) (suc axis) i (d ∷ space) (at_bool b ∷ rest) p r h v = elim p [ ]
set_keeps (bool_sort ∷ others) (suc axis) i (d ∷ space) (at_fraction q ∷ rest) p r h v = elim p [ ]

module _ (es : List Interval) (values : ℕ → Fraction) (are : (k : ℕ) → IsFraction (values k)) (enclosed : (k : ℕ) → k < length es → Holds (entry es k) (values k)) where
  none-empty : (k : ℕ) (ns : List (Option Interval)) → EachHolds es values are enclosed k ns → some_empty ns ≡ false
  none-empty k [] h = refl
  none-empty k (None ∷ ns) h = none-empty (suc k) ns h.1
  none-empty k (Some nothing ∷ ns) h = absurd (true≢false (sym h.0.0))
  none-empty k (Some (between l u) ∷ ns) h = none-empty (suc k) ns h.1

  module _ (sorts : List Sort) (point : List Coordinate) where
    -- of nodes from number k on, whose variables are Real axes with these values
    abbrev Variables : ℕ → List Node → Type 0
    Variables k nodes = (i axis : ℕ) → slice_get nodes i ≡ Some (variable_node axis) → HasSort real_sort sorts axis × (values (k + i) ≡ coordinate point axis)

    next-variables : (k : ℕ) (node : Node) (nodes : List Node) → Variables k (node ∷ nodes) → Variables (suc k) nodes
    next-variables k node nodes f i axis e = let m = f (suc i) axis e in let place : suc k + i ≡ k + suc i = omega arith in (m.0, ap values place ∙ m.1)

    axes-keep : IsPoint sorts point → (k : ℕ) (nodes : List Node) (ns : List (Option Interval)) (space : Space) → Variables k nodes → EachHolds es values are enclosed k ns → IsTrue (in_space space point) → IsTrue (in_space (with_axes nodes ns space) point)
    axes-keep p k [] ns space f h i = i
    axes-keep p k (constant_node q ∷ nodes) [] space f h i = i
    axes-keep p k (variable_node axis ∷ nodes) [] space f h i = i
    axes-keep p k (negate_node a ∷ nodes) [] space f h i = i
    axes-keep p k (add_node a b ∷ nodes) [] space f h i = i
    axes-keep p k (multiply_node a b ∷ nodes) [] space f h i = i
    axes-keep p k (square_node a ∷ nodes) [] space f h i = i
    axes-keep p k (variable_node axis ∷ nodes) (Some j ∷ ns) space f h i = let m = f zero axis refl in let start : k + 0 ≡ k = omega arith in
        set_keeps sorts axis j (with_axes nodes ns space) point p m.0 (axes-keep p (suc k) nodes ns space (next-variables k (variable_node axis) nodes f) h.1 i)
        (subst (λ (v : Fraction). Holds j v) (ap values (sym start) ∙ m.1) h.0.0)
    axes-keep p k (variable_node axis ∷ nodes) (None ∷ ns) space f h i = axes-keep p (suc k) nodes ns space (next-variables k (variable_node axis) nodes f) h.1 i
    axes-keep p k (constant_node q ∷ nodes) (n ∷ ns) space f h i = axes-keep p (suc k) nodes ns space (next-variables k (constant_node q) nodes f) h.1 i
    axes-keep p k (negate_node a ∷ nodes) (n ∷ ns) space f h i = axes-keep p (suc k) nodes ns space (next-variables k (negate_node a) nodes f) h.1 i
    axes-keep p k (add_node a b ∷ nodes) (n ∷ ns) space f h i = axes-keep p (suc k) nodes ns space (next-variables k (add_node a b) nodes f) h.1 i
    axes-keep p k (multiply_node a b ∷ nodes) (n ∷ ns) space f h i = axes-keep p (suc k) nodes ns space (next-variables k (multiply_node a b) nodes f) h.1 i
    axes-keep p k (square_node a ∷ nodes) (n ∷ ns) space f h i = axes-keep p (suc k) nodes ns space (next-variables k (square_node a) nodes f) h.1 i

    pub space_keeps : IsPoint sorts point → (nodes : List Node) (ns : List (Option Interval)) (space : Space) → Variables 0 nodes → EachHolds es values are enclosed 0 ns → IsTrue (in_space space point) →
        (space' : Space) × (narrowed_space nodes ns space ≡ Some space') × IsTrue (in_space space' point)
    space_keeps p nodes ns space f h i = (with_axes nodes ns space, ap (λ t. cond t None (Some (with_axes nodes ns space))) (none-empty 0 ns h), axes-keep p 0 nodes ns space f h i)

-- ---- narrowing drops no point of the space at which the root's value lies in the range

pub nodes_at : (sorts : List Sort) (nodes : List Node) → All (IsNode sorts) nodes → (i : ℕ) (p : Node) → slice_get nodes i ≡ Some p → IsNode sorts p
nodes_at sorts [] h i p e = cc
nodes_at sorts (n ∷ nodes) h zero p e = subst (λ (m : Node). IsNode sorts m) (some_is n p e) (h zero n (omega arith))
nodes_at sorts (n ∷ nodes) h (suc i) p e = nodes_at sorts nodes (λ j d l. h (suc j) d (omega arith)) i p e

-- a node's value is that of its kind
node-value : (point : List Coordinate) (terms : List Term) (p : Node) → term_value point (node_term terms p) ≡ value-of (λ k. term_value point (term_at terms k)) (term_value point (node_term terms p)) p
node-value point terms (constant_node q) = refl
node-value point terms (variable_node axis) = refl
node-value point terms (negate_node a) = refl
node-value point terms (add_node a b) = refl
node-value point terms (multiply_node a b) = refl
node-value point terms (square_node a) = refl

-- so has a node's enclosure
node-follows : (space : Space) (terms : List Term) (es : List Interval) (values : ℕ → Fraction) (are : (k : ℕ) → IsFraction (values k)) (enclosed : (k : ℕ) → k < length es → Holds (entry es k) (values k)) (k : ℕ) (p : Node) →
    IsTrue (comes_after k p) → ((i : ℕ) → i ≤ k → entry es i ≡ enclosure space (term_at terms i)) → term_at terms k ≡ node_term terms p → Follows es values are enclosed k p
node-follows space terms es values are enclosed k (constant_node q) o f e = tt
node-follows space terms es values are enclosed k (variable_node axis) o f e = tt
node-follows space terms es values are enclosed k (negate_node a) o f e = let l = ltb→lt a k (passes _ o) in f k (omega arith) ∙ ap (enclosure space) e ∙ ap interval_negated (sym (f a (omega arith)))
node-follows space terms es values are enclosed k (add_node a b) o f e = tt
node-follows space terms es values are enclosed k (multiply_node a b) o f e = tt
node-follows space terms es values are enclosed k (square_node a) o f e = let l = ltb→lt a k (passes _ o) in f k (omega arith) ∙ ap (enclosure space) e ∙ ap interval_square (sym (f a (omega arith)))

-- where the range's ends are numbers that are kept, which those of an atom are
pub narrows : (sorts : List Sort) (nodes : List Node) → IsTrue (in_order 0 nodes) → All (IsNode sorts) nodes → (space : Space) (point : List Coordinate) → IsPoint sorts point → IsTrue (in_space space point) →
    (root : ℕ) (range : Interval) → IsKept range → Holds range (term_value point (term_at (graph_terms nodes) root)) → (space' : Space) × (narrowed_by nodes root range space ≡ Some space') × IsTrue (in_space space' point)
narrows sorts nodes o g space point p i root range kept h =
    let terms : List Term = graph_terms nodes in
    let es : List Interval = enclosures space nodes in
    let values : ℕ → Fraction = λ k. term_value point (term_at terms k) in
    let lengths : length es ≡ length nodes = length-map terms (enclosure space) ∙ length_terms nodes in
    let are : (k : ℕ) → IsFraction (values k) = λ k. (enclosure_holds sorts space point p i (term_at terms k) (terms_are sorts nodes g k)).0 in
    let at : (k : ℕ) → k < length es → entry es k ≡ enclosure space (term_at terms k) = λ k l. get_or-map (enclosure space) terms k (constant zero_fraction) nothing (omega (arith, length-map terms (enclosure space))) in
    let enclosed : (k : ℕ) → k < length es → Holds (entry es k) (values k) = λ k l.
    subst (λ (j : Interval). Holds j (values k)) (sym (at k l)) (enclosure_holds sorts space point p i (term_at terms k) (terms_are sorts nodes g k)).1 in
    let leaves = each_leaves es values are enclosed 0 nodes (omega arith) o
    (λ k n e. let place : 0 + k ≡ k = omega arith in let b = in_order_at 0 nodes o k n e in let l = b.1 in let u = unfolds nodes o k n e in (
      term_value point (node_term terms n),
      ap values place ∙ ap (term_value point) u ∙ node-value point terms n,
      subst (λ (j : ℕ). Follows es values are enclosed j n) (sym place) (node-follows space terms es values are enclosed k n (subst (λ (j : ℕ). IsTrue (comes_after j n)) place b.0) (λ j m. at j (omega arith)) u),
    )) in
    let ns = narrowed_holds es values are enclosed root range h kept 0 nodes (omega arith) leaves in
    space_keeps es values are enclosed sorts point p nodes (narrowed nodes es root range) space
    (λ k axis e. let place : 0 + k ≡ k = omega arith in (nodes_at sorts nodes g k (variable_node axis) e, ap values place ∙ ap (term_value point) (unfolds nodes o k (variable_node axis) e))) ns i
