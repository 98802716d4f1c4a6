-- The sweep, node by node: nodes without a coefficient are passed over.
use Rattle.std.proofs.Common.{◌≡◌, ℕ, zero, suc, ◌+◌, ◌-◌, ◌<◌, ◌≤◌, List, [], ◌∷◌, drop, length, Bool, true, false, cond, IsTrue, nat_lt, ltb→lt, Option, Some, None, nat_eq, eqb-true, refl, ap, ap₂, sym, ◌∙◌, arith}
use Rattle.std.specs.Prelude.{slice_get}
use Rattle.std.specs.Bool.{passes}
use Rattle.dyadic.proofs.Equal.{both_true}
use Rattle.interval_model.specs.Interval.{Interval, interval_negated, interval_product}
use Rattle.poly_graph.specs.Term.{Node, constant_node, variable_node, negate_node, add_node, multiply_node, square_node, comes_after}
use Rattle.cover_model.specs.NodeEnclosure.{row}
use Rattle.cover_model.specs.Combination.{Adjoints, joined, handed, handed_down, squares_down, Part, Expansion, expanded, next_adjoints, next_squares, next_expansion, swept}
use Rattle.cover_model.proofs.NarrowedAt.{drop_here}
use Rattle.cover_model.specs.CombinationConstants.{is_constant_at, handed_unless, handed_on}
use Rattle.cover_model.proofs.CombinationConstants.{handed_on_alike, swept_alike}
use Rattle.cover_model.proofs.CombinationSkipped.{skipped}
use Rattle.plain_eval.specs.Parts.{part_at, part_in, before_parts, parts_from, parts_on, expansion_on}
use Rattle.plain_eval.specs.Rest.{expansion_with, with_node}

-- ---- a node without coefficients

no-part : (n : Node) → part_at n None None ≡ None
no-part (constant_node q) = refl
no-part (variable_node a) = refl
no-part (negate_node a) = refl
no-part (add_node a b) = refl
no-part (multiply_node a b) = refl
no-part (square_node a) = refl

pub no_part_in : (m : Option Node) → part_in m None None ≡ None
no_part_in None = refl
no_part_in (Some n) = no-part n

-- ---- a node with coefficients: its part before the others, and its rest

expanded-is : (es cs : List Interval) (k : ℕ) (w : Interval) (q : Option Interval) (n : Node) (parts : List Part) (rest : Interval) →
    expanded es cs k (Some w) q n (expansion_with parts rest) ≡ expansion_with (before_parts (part_at n (Some w) q) parts) (with_node es cs k w q n rest)
expanded-is es cs k w q (variable_node a) parts rest = refl
expanded-is es cs k w None (constant_node c) parts rest = refl
expanded-is es cs k w (Some q) (constant_node c) parts rest = refl
expanded-is es cs k w None (negate_node a) parts rest = refl
expanded-is es cs k w (Some q) (negate_node a) parts rest = refl
expanded-is es cs k w None (add_node a b) parts rest = refl
expanded-is es cs k w (Some q) (add_node a b) parts rest = refl
expanded-is es cs k w None (multiply_node a b) parts rest = refl
expanded-is es cs k w (Some q) (multiply_node a b) parts rest = refl
expanded-is es cs k w None (square_node a) parts rest = refl
expanded-is es cs k w (Some q) (square_node a) parts rest = refl

-- ---- parts, place by place

pub parts_next : (nodes : List Node) (os qs : Adjoints) (k : ℕ) (n : Node) → slice_get nodes k ≡ Some n → parts_on nodes os qs k ≡ before_parts (part_at n (os k) (qs k)) (parts_on nodes os qs (suc k))
parts_next nodes os qs k n h =
    let next : k + 1 ≡ suc k = omega arith in
    ap (parts_from os qs k) (drop_here nodes k n h) ∙ ap (λ (j : ℕ). before_parts (part_at n (os k) (qs k)) (parts_from os qs (suc k) (drop j nodes))) next

pub some_node : (nodes : List Node) (k : ℕ) → k < length nodes → (n : Node) × (slice_get nodes k ≡ Some n)
some_node [] k h = absurd (omega arith)
some_node (n ∷ nodes) zero h = (n, refl)
some_node (n ∷ nodes) (suc k) h = some_node nodes k (omega arith)

pub parts_skipped : (nodes : List Node) (os qs : Adjoints) (d p q : ℕ) → q + d ≡ p → p ≤ length nodes → ((k : ℕ) → q ≤ k → k < p → os k ≡ None) → ((k : ℕ) → q ≤ k → k < p → qs k ≡ None) →
    parts_on nodes os qs q ≡ parts_on nodes os qs p
parts_skipped nodes os qs zero p q h l f g = let same : q ≡ p = omega arith in ap (parts_on nodes os qs) same
parts_skipped nodes os qs (suc d) p q h l f g =
    let n = some_node nodes q (omega arith) in
    parts_next nodes os qs q n.0 n.1
    ∙ ap₂ (λ (o c : Option Interval). before_parts (part_at n.0 o c) (parts_on nodes os qs (suc q))) (f q (omega arith) (omega arith)) (g q (omega arith) (omega arith))
    ∙ ap (λ (x : Option Part). before_parts x (parts_on nodes os qs (suc q))) (no-part n.0)
    ∙ parts_skipped nodes os qs d p (suc q) (omega arith) l (λ k a b. f k (omega arith) b) (λ k a b. g k (omega arith) b)

-- coefficients from number k on decide
parts-alike : (nodes : List Node) (os qs os' qs' : Adjoints) (k : ℕ) → ((j : ℕ) → k ≤ j → os' j ≡ os j) → ((j : ℕ) → k ≤ j → qs' j ≡ qs j) → parts_from os' qs' k nodes ≡ parts_from os qs k nodes
parts-alike [] os qs os' qs' k f g = refl
parts-alike (n ∷ nodes) os qs os' qs' k f g =
    ap₂ (λ (x : Option Part) (xs : List Part). before_parts x xs) (ap₂ (λ (o c : Option Interval). part_at n o c) (f k (omega arith)) (g k (omega arith)))
    (parts-alike nodes os qs os' qs' (suc k) (λ j l. f j (omega arith)) (λ j l. g j (omega arith)))

-- ---- what is given to children stays behind the node

apart : (k a n : ℕ) → IsTrue (nat_lt a n) → n ≤ k → nat_eq k a ≡ false
apart k a n h l = go (nat_eq k a) refl
  where
    go : (t : Bool) → nat_eq k a ≡ t → t ≡ false
    go true e = let p = ltb→lt a n (passes _ h) in let q = eqb-true k a e in absurd (omega (arith, p, q, l))
    go false e = refl

handed-off : (k a n : ℕ) (i : Interval) (os : Adjoints) → IsTrue (nat_lt a n) → n ≤ k → handed a i os k ≡ os k
handed-off k a n i os h l = ap (λ (t : Bool). cond t (Some (joined (os k) i)) (os k)) (apart k a n h l)

unless-off : (t : Bool) (k a n : ℕ) (i : Interval) (os : Adjoints) → IsTrue (nat_lt a n) → n ≤ k → handed_unless t a i os k ≡ os k
unless-off true k a n i os h l = refl
unless-off false k a n i os h l = handed-off k a n i os h l

down-off : (nodes : List Node) (cs : List Interval) (w : Interval) (m : Node) (os : Adjoints) (n k : ℕ) → IsTrue (comes_after n m) → n ≤ k → handed_on nodes cs w m os k ≡ os k
down-off nodes cs w (constant_node q) os n k h l = refl
down-off nodes cs w (variable_node a) os n k h l = refl
down-off nodes cs w (negate_node a) os n k h l = handed-off k a n (interval_negated w) os h l
down-off nodes cs w (add_node a b) os n k h l =
    let e = both_true (nat_lt a n) (nat_lt b n) h in let s = is_constant_at nodes a in
    unless-off (is_constant_at nodes b) k b n w (handed_unless s a w os) e.1 l ∙ unless-off s k a n w os e.0 l
down-off nodes cs w (multiply_node a b) os n k h l =
    let e = both_true (nat_lt a n) (nat_lt b n) h in let s = is_constant_at nodes a in let i = interval_product w (row cs b) in
    unless-off (is_constant_at nodes b) k b n (interval_product w (row cs a)) (handed_unless s a i os) e.1 l ∙ unless-off s k a n i os e.0 l
down-off nodes cs w (square_node a) os n k h l = let i = interval_product w (row cs a) in handed-off k a n i (handed a i os) h l ∙ handed-off k a n i os h l

squares-off : (w : Interval) (m : Node) (qs : Adjoints) (n k : ℕ) → IsTrue (comes_after n m) → n ≤ k → squares_down w m qs k ≡ qs k
squares-off w (constant_node q) qs n k h l = refl
squares-off w (variable_node a) qs n k h l = refl
squares-off w (negate_node a) qs n k h l = refl
squares-off w (add_node a b) qs n k h l = refl
squares-off w (multiply_node a b) qs n k h l = refl
squares-off w (square_node a) qs n k h l = handed-off k a n w qs h l

-- ---- the sweep

module _ (nodes : List Node) (es cs : List Interval) where
  -- from place p to place q, between which no node has a coefficient
  pub sweep_skipped : (p q : ℕ) (os qs : Adjoints) (rest : Interval) → q ≤ p → p ≤ length nodes → ((k : ℕ) → os k ≡ None → qs k ≡ None) → ((k : ℕ) → q ≤ k → k < p → os k ≡ None) →
      swept nodes es cs p os qs (expansion_on nodes os qs p rest) ≡ swept nodes es cs q os qs (expansion_on nodes os qs q rest)
  sweep_skipped p q os qs rest l m u f =
      let d : (d : ℕ) × (q + d ≡ p) = (p - q, omega arith) in
      skipped nodes es cs d.0 p q os qs (expansion_on nodes os qs p rest) d.1 f (λ k a b. u k (f k a b))
      ∙ ap (λ (xs : List Part). swept nodes es cs q os qs (expansion_with xs rest)) (sym (parts_skipped nodes os qs d.0 p q d.1 m f (λ k a b. u k (f k a b))))

  -- at node n
  pub sweep_next : (n : ℕ) (w rest rest' : Interval) (q : Option Interval) (m : Node) (os qs os' qs' : Adjoints) → slice_get nodes n ≡ Some m → IsTrue (comes_after n m) → os n ≡ Some w → qs n ≡ q →
      os' ≡ handed_on nodes cs w m os → qs' ≡ squares_down w m qs → rest' ≡ with_node es cs n w q m rest →
      swept nodes es cs (suc n) os qs (expansion_on nodes os qs (suc n) rest) ≡ swept nodes es cs n os' qs' (expansion_on nodes os' qs' n rest')
  sweep_next n w rest rest' q m os qs os' qs' h c f g a b r =
      let parts = parts_on nodes os qs (suc n) in
      let on : (k : ℕ) → n ≤ k → os' k ≡ os k = λ k l. ap (λ (x : Adjoints). x k) a ∙ down-off nodes cs w m os n k c l in
      let on' : (k : ℕ) → n ≤ k → qs' k ≡ qs k = λ k l. ap (λ (x : Adjoints). x k) b ∙ squares-off w m qs n k c l in
      let same : parts_on nodes os' qs' n ≡ before_parts (part_at m (Some w) q) parts =
      parts_next nodes os' qs' n m h
      ∙ ap₂ (λ (o s : Option Interval). before_parts (part_at m o s) (parts_on nodes os' qs' (suc n))) (on n (omega arith) ∙ f) (on' n (omega arith) ∙ g)
      ∙ ap (before_parts (part_at m (Some w) q)) (parts-alike (drop (suc n) nodes) os qs os' qs' (suc n) (λ k l. on k (omega arith)) (λ k l. on' k (omega arith))) in
      ap₂ (λ (o : Option Interval) (x : Option Node). swept nodes es cs n (next_adjoints cs o x os) (next_squares o x qs) (next_expansion es cs n o (qs n) x (expansion_with parts rest))) f h
      ∙ ap (λ (s : Option Interval). swept nodes es cs n (handed_down cs w m os) (squares_down w m qs) (expanded es cs n (Some w) s m (expansion_with parts rest))) g
      ∙ swept_alike nodes es cs n (handed_down cs w m os) (handed_on nodes cs w m os) (squares_down w m qs) (expanded es cs n (Some w) q m (expansion_with parts rest)) (handed_on_alike nodes cs w m os)
      ∙ ap₂ (λ (x y : Adjoints). swept nodes es cs n x y (expanded es cs n (Some w) q m (expansion_with parts rest))) (sym a) (sym b)
      ∙ ap (λ (x : Expansion). swept nodes es cs n os' qs' x) (expanded-is es cs n w q m parts rest)
      ∙ ap₂ (λ (xs : List Part) (i : Interval). swept nodes es cs n os' qs' (expansion_with xs i)) (sym same) (sym r)
