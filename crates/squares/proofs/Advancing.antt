-- One node more of an expansion.
use Rattle.std.proofs.Common.{◌≡◌, ℕ, suc, zero, ◌+◌, ◌-◌, ◌<◌, ◌≤◌, ◌⊎◌, inl, inr, List, [], ◌∷◌, ◌++◌, Bool, true, false, cond, ◌&&◌, ◌||◌, Some, None, IsTrue, length, map, get_or, nat_eq, nat_lt, refl, ap, sym, ◌∙◌, subst, arith, ltb→lt, eqb→eq, length-append}
use Rattle.std.specs.Prelude.{slice_get}
use Rattle.std.specs.Bool.{passes}
use Rattle.dyadic.proofs.Equal.{both_true}
use Rattle.interval_model.specs.Space.{Space}
use Rattle.poly_graph.specs.Term.{Node, constant_node, variable_node, negate_node, add_node, multiply_node, square_node, comes_after, in_order, has_child}
use Rattle.poly_graph.proofs.Graphs.{in_order_at}
use Rattle.square_model.specs.Polynomial as model
use Rattle.square_model.specs.Polynomial.{is_short}
use Rattle.square_model.specs.Positive.{node_polynomial, node_steps, steps_below, are_short_below}
use Rattle.squares.specs.Nodes.{terms_at}
use Rattle.squares.specs.Views.{terms_of}
use Rattle.squares.specs.Expanding.{IsNextIf, IsClosed, IsExpandedTo}
use Rattle.squares.specs.declared.budget.Budget.{Budget}
use Rattle.squares.specs.declared.polynomial.Polynomial.{Polynomial}
use Rattle.squares.proofs.Unfolding.{HasChildren, node_unfolds, node_costs}

-- ---- children come first

pub either_passes : (s t : Bool) → (s || t) ≡ true → (s ≡ true) ⊎ (t ≡ true)
either_passes true t h = inl refl
either_passes false t h = inr h

at-child : (a i n : ℕ) → IsTrue (nat_lt a n) → nat_eq a i ≡ true → i < n
at-child a i n o h = subst (λ (j : ℕ). j < n) (eqb→eq a i (passes _ h)) (ltb→lt a n (passes _ o))

at-either : (a b i n : ℕ) → IsTrue (nat_lt a n && nat_lt b n) → (nat_eq a i || nat_eq b i) ≡ true → i < n
at-either a b i n o h = let p = both_true (nat_lt a n) (nat_lt b n) o in elim (either_passes (nat_eq a i) (nat_eq b i) h) [ inl e ↦ at-child a i n p.0 e | inr e ↦ at-child b i n p.1 e ]

pub child_before : (n : ℕ) (node : Node) → IsTrue (comes_after n node) → (i : ℕ) → has_child i node ≡ true → i < n
child_before n (constant_node q) o i h = cc
child_before n (variable_node axis) o i h = cc
child_before n (negate_node a) o i h = at-child a i n o h
child_before n (add_node a b) o i h = at-either a b i n o h
child_before n (multiply_node a b) o i h = at-either a b i n o h
child_before n (square_node a) o i h = at-child a i n o h

-- ---- one polynomial more

last-at : (ts : List model.Polynomial) (t : model.Polynomial) → terms_at (ts ++ t ∷ []) (length ts) ≡ t
last-at [] t = refl
last-at (u ∷ ts) t = last-at ts t

before-last : (ts : List model.Polynomial) (t : model.Polynomial) (k : ℕ) → k < length ts → terms_at (ts ++ t ∷ []) k ≡ terms_at ts k
before-last [] t k h = absurd (omega arith)
before-last (u ∷ ts) t zero h = refl
before-last (u ∷ ts) t (suc k) h = before-last ts t k (omega arith)

pub one_more : (ps : List Polynomial) (p : Polynomial) → map terms_of (ps ++ p ∷ []) ≡ map terms_of ps ++ terms_of p ∷ []
one_more [] p = refl
one_more (q ∷ ps) p = ap (λ (ts : List model.Polynomial). terms_of q ∷ ts) (one_more ps p)

up : ℕ → ℕ → ℕ
up zero n = n
up (suc d) n = suc (up d n)

up-is : (d n : ℕ) → up d n ≡ d + n
unfolding up
up-is zero n = omega arith
up-is (suc d) n = let e = up-is d n in omega (arith, e)

module _ (centre : Space) (nodes : List Node) (ordered : IsTrue (in_order 0 nodes)) (marks : List Bool) (closed : IsClosed nodes marks) where
  grows : (d n : ℕ) → steps_below centre nodes marks n ≤ steps_below centre nodes marks (up d n)
  unfolding up
  grows zero n = omega arith
  grows (suc d) n = let h = grows d n in omega (arith, h)

  stays-long : (d n : ℕ) → are_short_below centre nodes marks n ≡ false → are_short_below centre nodes marks (up d n) ≡ false
  unfolding up
  stays-long zero n h = h
  stays-long (suc d) n h = ap (λ (t : Bool). t && cond (get_or marks (up d n) false) (is_short (node_polynomial centre nodes (up d n))) true) (stays-long d n h)

  whole : (n : ℕ) → n < length nodes → up (length nodes - suc n) (suc n) ≡ length nodes
  whole n h = up-is (length nodes - suc n) (suc n) ∙ omega arith

  children : (n : ℕ) (ts : List model.Polynomial) (left all : ℕ) → IsExpandedTo centre nodes marks n ts left all → (node : Node) → slice_get nodes n ≡ Some node → get_or marks n false ≡ true → HasChildren centre nodes ts node
  children n ts left all s node e m i h =
      let zero-on : 0 + n ≡ n = omega arith in
      s.polynomials i (child_before n node (subst (λ (j : ℕ). IsTrue (comes_after j node)) zero-on (in_order_at 0 nodes ordered n node e).0) i h) (closed n node e m i h)

  -- the steps and the test of one node more
  next-steps : (n : ℕ) (node : Node) (b : Bool) → slice_get nodes n ≡ Some node → get_or marks n false ≡ b → steps_below centre nodes marks (suc n) ≡ steps_below centre nodes marks n + cond b (node_steps centre nodes (Some node)) 0
  next-steps n node b e m = λ t. steps_below centre nodes marks n + cond (m t) (node_steps centre nodes (e t)) 0

  next-short : (n : ℕ) (b : Bool) → get_or marks n false ≡ b → are_short_below centre nodes marks (suc n) ≡ (are_short_below centre nodes marks n && cond b (is_short (node_polynomial centre nodes n)) true)
  next-short n b m = λ t. are_short_below centre nodes marks n && cond (m t) (is_short (node_polynomial centre nodes n)) true

  -- there is a next one
  advanced-by : (n : ℕ) (ts : List model.Polynomial) (all : ℕ) (node : Node) (old new : Budget) (p : Polynomial) → IsExpandedTo centre nodes marks n ts old.left all → slice_get nodes n ≡ Some node →
      (b : Bool) → get_or marks n false ≡ b → IsNextIf b centre ts node old new (Some p) → IsExpandedTo centre nodes marks (suc n) (ts ++ terms_of p ∷ []) new.left all
  advanced-by n ts all node old new p s e true m h =
      let kids = children n ts old.left all s node e m in let cost = node_costs centre nodes ts node kids in let here = node_unfolds centre nodes ordered ts n node e kids in let steps = next-steps n node true e m in
      record {
        count = length-append ts (terms_of p ∷ []) ∙ (let c = s.count in omega (arith, c));
        polynomials = λ k l g. elim (apart k l) [
          | inl q ↦ ap (terms_at (ts ++ terms_of p ∷ [])) (q ∙ sym s.count) ∙ last-at ts (terms_of p) ∙ h.0 ∙ here ∙ ap (node_polynomial centre nodes) (sym q)
          | inr q ↦ before-last ts (terms_of p) k (let c = s.count in omega (arith, c, q)) ∙ s.polynomials k q g
        ];
        steps = let a = s.steps in let g = h.1 in omega (arith, a, g, cost, steps);
        short = next-short n true m ∙ ap (λ (t : Bool). t && is_short (node_polynomial centre nodes n)) s.short ∙ ap is_short (sym here) ∙ h.2;
      }
    where
      apart : (k : ℕ) → k < suc n → (k ≡ n) ⊎ (k < n)
      apart k l = grind (arith, l)
  advanced-by n ts all node old new p s e false m h = let steps = next-steps n node false e m in
      record {
        count = length-append ts (terms_of p ∷ []) ∙ (let c = s.count in omega (arith, c));
        polynomials = λ k l g. elim (apart k l) [
          | inl q ↦ absurd (true-is-not-false (sym g ∙ ap (λ (j : ℕ). get_or marks j false) q ∙ m))
          | inr q ↦ before-last ts (terms_of p) k (let c = s.count in omega (arith, c, q)) ∙ s.polynomials k q g
        ];
        steps = let a = s.steps in omega (arith, a, h, steps);
        short = next-short n false m ∙ ap (λ (t : Bool). t && true) s.short;
      }
    where
      apart : (k : ℕ) → k < suc n → (k ≡ n) ⊎ (k < n)
      apart k l = grind (arith, l)

      true-is-not-false : true ≡ false → ⊥
      true-is-not-false x = cc

  pub advanced : (n : ℕ) (ts : List model.Polynomial) (all : ℕ) (node : Node) (old new : Budget) (p : Polynomial) → IsExpandedTo centre nodes marks n ts old.left all → slice_get nodes n ≡ Some node →
      IsNextIf (get_or marks n false) centre ts node old new (Some p) → IsExpandedTo centre nodes marks (n + 1) (ts ++ terms_of p ∷ []) new.left all
  advanced n ts all node old new p s e h = let next : suc n ≡ n + 1 = omega arith in
      subst (λ (k : ℕ). IsExpandedTo centre nodes marks k (ts ++ terms_of p ∷ []) new.left all) next (advanced-by n ts all node old new p s e (get_or marks n false) refl h)

  -- there is none
  stopped-by : (n : ℕ) (ts : List model.Polynomial) (all : ℕ) (node : Node) (old new : Budget) → IsExpandedTo centre nodes marks n ts old.left all → n < length nodes → slice_get nodes n ≡ Some node →
      (b : Bool) → get_or marks n false ≡ b → IsNextIf b centre ts node old new None → (all < steps_below centre nodes marks (length nodes)) ⊎ (are_short_below centre nodes marks (length nodes) ≡ false)
  stopped-by n ts all node old new s l e true m (inl h) =
      let kids = children n ts old.left all s node e m in let cost = node_costs centre nodes ts node kids in let steps = next-steps n node true e m in let a = s.steps in
      let more = subst (λ (k : ℕ). steps_below centre nodes marks (suc n) ≤ steps_below centre nodes marks k) (whole n l) (grows (length nodes - suc n) (suc n)) in
      inl (omega (arith, h, cost, steps, a, more))
  stopped-by n ts all node old new s l e true m (inr h) =
      let here = node_unfolds centre nodes ordered ts n node e (children n ts old.left all s node e m) in
      let long : are_short_below centre nodes marks (suc n) ≡ false = next-short n true m ∙ ap (λ (t : Bool). t && is_short (node_polynomial centre nodes n)) s.short ∙ ap is_short (sym here) ∙ h in
      inr (subst (λ (k : ℕ). are_short_below centre nodes marks k ≡ false) (whole n l) (stays-long (length nodes - suc n) (suc n) long))
  stopped-by n ts all node old new s l e false m h = absurd h

  pub stopped : (n : ℕ) (ts : List model.Polynomial) (all : ℕ) (node : Node) (old new : Budget) → IsExpandedTo centre nodes marks n ts old.left all → n < length nodes → slice_get nodes n ≡ Some node →
      IsNextIf (get_or marks n false) centre ts node old new None → (all < steps_below centre nodes marks (length nodes)) ⊎ (are_short_below centre nodes marks (length nodes) ≡ false)
  stopped n ts all node old new s l e h = stopped-by n ts all node old new s l e (get_or marks n false) refl h
