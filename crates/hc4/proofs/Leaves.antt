-- Narrowing by a node from which a changed axis is not reached leaves something where it did before.
use Rattle.std.proofs.Common.{◌≡◌, ℕ, zero, suc, ◌+◌, List, [], ◌∷◌, get_or, Option, Some, None, Bool, true, false, not, cond, ◌||◌, nat_eq, eqb-true, refl, ap, ap₂, sym, subst, ◌∙◌, arith}
use Rattle.std.proofs.lemmas.Bool.{eq-eqb}
use Rattle.std.specs.Prelude.{slice_get}
use Rattle.interval_model.specs.Interval.{Interval, met, inverse_sum, inverse_product, inverse_square}
use Rattle.interval_model.specs.Space.{Space}
use Rattle.poly_graph.specs.Term.{Node, constant_node, variable_node, negate_node, add_node, multiply_node, square_node, has_child}
use Rattle.cover_model.specs.Narrowed.{if_child, left_by, with_parent, from_parents, own, narrowed_from, narrowed, some_empty, narrowed_by, enclosures}
use Rattle.cover_model.specs.NodeEnclosure.{row}
use Rattle.cover_model.specs.Honest.{is_some_space}
use Rattle.ival.specs.RowViews.{is_marked}
use Rattle.hc4.proofs.Children.{or-right}

left-square : (t : Bool) (i j n : Interval) → (t ≡ true → i ≡ j) → if_child t (inverse_square i n) ≡ if_child t (inverse_square j n)
left-square true i j n h = ap (λ (x : Interval). inverse_square x n) (h refl)
left-square false i j n h = refl

first-child : (a b : ℕ) → (nat_eq a a || nat_eq b a) ≡ true
first-child a b = ap (λ (t : Bool). t || nat_eq b a) (eq-eqb a a refl)

second-child : (a b : ℕ) → (nat_eq a b || nat_eq b b) ≡ true
second-child a b = or-right (nat_eq a b) (nat_eq b b) (eq-eqb b b refl)

-- what a parent leaves rests on the rows of its children
left_same : (es fs : List Interval) (s : ℕ) (p : Node) (n : Interval) → ((c : ℕ) → has_child c p ≡ true → row es c ≡ row fs c) → left_by es s p n ≡ left_by fs s p n
left_same es fs s (constant_node q) n h = refl
left_same es fs s (variable_node a) n h = refl
left_same es fs s (negate_node a) n h = refl
left_same es fs s (add_node a b) n h =
    ap₂ (λ (x y : Interval). met (if_child (nat_eq a s) (inverse_sum n y)) (if_child (nat_eq b s) (inverse_sum n x))) (h a (first-child a b)) (h b (second-child a b))
left_same es fs s (multiply_node a b) n h =
    ap₂ (λ (x y : Interval). met (if_child (nat_eq a s) (inverse_product n y)) (if_child (nat_eq b s) (inverse_product n x))) (h a (first-child a b)) (h b (second-child a b))
left_same es fs s (square_node a) n h = left-square (nat_eq a s) (row es s) (row fs s) n (h s)

-- of the parents that are narrowed, these are the same rows
abbrev pub SameBelow : List Interval → List Interval → List Node → List (Option Interval) → Type 0
SameBelow es fs ps ns = (i : ℕ) (p : Node) (n : Interval) → slice_get ps i ≡ Some p → get_or ns i None ≡ Some n → (c : ℕ) → has_child c p ≡ true → row es c ≡ row fs c

parents_same : (es fs : List Interval) (s : ℕ) (ps : List Node) (ns : List (Option Interval)) → SameBelow es fs ps ns → from_parents es s ps ns ≡ from_parents fs s ps ns
parents_same es fs s [] ns h = refl
parents_same es fs s (p ∷ ps) [] h = refl
parents_same es fs s (p ∷ ps) (None ∷ ns) h = parents_same es fs s ps ns (λ i q n f g c t. h (suc i) q n f g c t)
parents_same es fs s (p ∷ ps) (Some n ∷ ns) h =
    ap₂ (λ (x : Interval) (o : Option Interval). with_parent (has_child s p) x o) (left_same es fs s p n (λ c t. h 0 p n refl refl c t)) (parents_same es fs s ps ns (λ i q m f g c t. h (suc i) q m f g c t))

-- a node to which something is left is a child of one that is narrowed
child_of_some : (es : List Interval) (s : ℕ) (ps : List Node) (ns : List (Option Interval)) (u : Bool) →
    ((i : ℕ) (p : Node) (n : Interval) → slice_get ps i ≡ Some p → get_or ns i None ≡ Some n → has_child s p ≡ true → u ≡ false) → (x : Interval) → from_parents es s ps ns ≡ Some x → u ≡ false
child_of_some es s [] ns u h x e = cc
child_of_some es s (p ∷ ps) [] u h x e = cc
child_of_some es s (p ∷ ps) (None ∷ ns) u h x e = child_of_some es s ps ns u (λ i q n f g t. h (suc i) q n f g t) x e
child_of_some es s (p ∷ ps) (Some n ∷ ns) u h x e =
    by_parent (has_child s p) (left_by es s p n) (from_parents es s ps ns) u x (λ f. h 0 p n refl refl f) (child_of_some es s ps ns u (λ i q m k l t. h (suc i) q m k l t) x) e
  where
    by_parent : (t : Bool) (i : Interval) (o : Option Interval) (u : Bool) (x : Interval) → (t ≡ true → u ≡ false) → (o ≡ Some x → u ≡ false) → with_parent t i o ≡ Some x → u ≡ false
    by_parent true i o u x f g e = f refl
    by_parent false i o u x f g e = g e

own_same : (es fs : List Interval) (s : ℕ) (o : Option Interval) → ((x : Interval) → o ≡ Some x → row es s ≡ row fs s) → own es s o ≡ own fs s o
own_same es fs s None h = refl
own_same es fs s (Some i) h = ap (λ (r : Interval). Some (met r i)) (h i refl)

own_some : (es : List Interval) (s : ℕ) (o : Option Interval) (x : Interval) → own es s o ≡ Some x → (y : Interval) × (o ≡ Some y)
own_some es s None x e = cc
own_some es s (Some i) x e = (i, refl)

start_some : (t : Bool) (w : Interval) (o : Option Interval) (u : Bool) → (t ≡ true → u ≡ false) → ((x : Interval) → o ≡ Some x → u ≡ false) → (x : Interval) → cond t (Some w) o ≡ Some x → u ≡ false
start_some true w o u h k x e = h refl
start_some false w o u h k x e = k x e

narrowed_same : (es fs : List Interval) (marks : List Bool) (root : ℕ) (w : Interval) (s : ℕ) (nodes : List Node) → ((k : ℕ) → is_marked marks k ≡ false → row es k ≡ row fs k) →
    ((k : ℕ) (p : Node) → slice_get nodes k ≡ Some p → is_marked marks (s + k) ≡ false → (c : ℕ) → has_child c p ≡ true → is_marked marks c ≡ false) → is_marked marks root ≡ false →
    (narrowed_from es root w s nodes ≡ narrowed_from fs root w s nodes) × ((k : ℕ) (x : Interval) → get_or (narrowed_from es root w s nodes) k None ≡ Some x → is_marked marks (s + k) ≡ false)
narrowed_same es fs marks root w s [] same down at = (refl, λ k x e. cc)
narrowed_same es fs marks root w s (node ∷ later) same down at =
    let r = narrowed_same es fs marks root w (suc s) later same
    (λ k p f m c t. down (suc k) p f (subst (λ (i : ℕ). is_marked marks i ≡ false) (let e : suc s + k ≡ s + suc k = omega arith in e) m) c t) at in
    let ns = narrowed_from es root w (suc s) later in
    let ms = narrowed_from fs root w (suc s) later in
    let below : (i : ℕ) (p : Node) (n : Interval) → slice_get later i ≡ Some p → get_or ns i None ≡ Some n → (c : ℕ) → has_child c p ≡ true → is_marked marks c ≡ false =
    λ i p n f g c t. down (suc i) p f (subst (λ (j : ℕ). is_marked marks j ≡ false) (let e : suc s + i ≡ s + suc i = omega arith in e) (r.1 i n g)) c t in
    let o = cond (nat_eq s root) (Some w) (from_parents es s later ns) in
    let unmarked : (x : Interval) → o ≡ Some x → is_marked marks s ≡ false =
    start_some (nat_eq s root) w (from_parents es s later ns) (is_marked marks s) (λ e. subst (λ (i : ℕ). is_marked marks i ≡ false) (sym (eqb-true s root e)) at)
    (child_of_some es s later ns (is_marked marks s) (λ i p n f g t. below i p n f g s t)) in
    let parents : from_parents es s later ns ≡ from_parents fs s later ms =
    parents_same es fs s later ns (λ i p n f g c t. same c (below i p n f g c t)) ∙ ap (from_parents fs s later) r.0 in
    let head : own es s o ≡ own fs s (cond (nat_eq s root) (Some w) (from_parents fs s later ms)) =
    own_same es fs s o (λ x e. same s (unmarked x e)) ∙ ap (λ (q : Option Interval). own fs s (cond (nat_eq s root) (Some w) q)) parents in
    (ap₂ (λ (q : Option Interval) (qs : List (Option Interval)). q ∷ qs) head r.0, at_each s o ns unmarked r.1)
  where
    at_each : (s : ℕ) (o : Option Interval) (ns : List (Option Interval)) → ((x : Interval) → o ≡ Some x → is_marked marks s ≡ false) →
        ((k : ℕ) (x : Interval) → get_or ns k None ≡ Some x → is_marked marks (suc s + k) ≡ false) → (k : ℕ) (x : Interval) → get_or (own es s o ∷ ns) k None ≡ Some x → is_marked marks (s + k) ≡ false
    at_each s o ns here later zero x e = let y = own_some es s o x e in subst (λ (i : ℕ). is_marked marks i ≡ false) (let f : s ≡ s + 0 = omega arith in f) (here y.0 y.1)
    at_each s o ns here later (suc k) x e = subst (λ (i : ℕ). is_marked marks i ≡ false) (let f : suc s + k ≡ s + suc k = omega arith in f) (later k x e)

-- narrowing leaves something unless a node is empty
some_left : (b : Bool) (space : Space) → is_some_space (cond b None (Some space)) ≡ not b
some_left true space = refl
some_left false space = refl

pub leaves_same : (nodes : List Node) (was now : Space) (marks : List Bool) (root : ℕ) (w : Interval) → ((k : ℕ) → is_marked marks k ≡ false → row (enclosures was nodes) k ≡ row (enclosures now nodes) k) →
    ((k : ℕ) (p : Node) → slice_get nodes k ≡ Some p → is_marked marks k ≡ false → (c : ℕ) → has_child c p ≡ true → is_marked marks c ≡ false) → is_marked marks root ≡ false →
    is_some_space (narrowed_by nodes root w was) ≡ is_some_space (narrowed_by nodes root w now)
leaves_same nodes was now marks root w same down at =
    let es = enclosures was nodes in let fs = enclosures now nodes in
    let r = narrowed_same es fs marks root w 0 nodes same
    (λ k p f m c t. down k p f (subst (λ (i : ℕ). is_marked marks i ≡ false) (let e : 0 + k ≡ k = omega arith in e) m) c t) at in
    some_left (some_empty (narrowed nodes es root w)) _ ∙ ap (λ (ns : List (Option Interval)). not (some_empty ns)) r.0 ∙ sym (some_left (some_empty (narrowed nodes fs root w)) _)
