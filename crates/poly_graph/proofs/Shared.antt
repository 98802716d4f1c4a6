-- A shared graph stays one where a new node is added.
use Rattle.std.proofs.Common.{◌≡◌, ◌⊎◌, inl, inr, ℕ, suc, zero, ◌+◌, ◌<◌, List, [], ◌∷◌, ◌++◌, map, length, Bool, true, false, cond, ◌&&◌, IsTrue, Some, None, refl, ap, ap₂, sym, ◌∙◌, subst, arith, nat_eq, eqb→eq, length-append, ℤ, pos}
use Rattle.std.proofs.lemmas.List.{length-map}
use Rattle.std.proofs.lemmas.Bool.{eq-eqb}
use Rattle.std.proofs.lemmas.Bool.Decides.{Decides-int_eq}
use Rattle.std.specs.Ordering.{int_eq}
use Rattle.std.specs.Int.RustNames.{unsigned_abs}
use Rattle.std.specs.Prelude.{slice_get, Result, Ok, Err, OnOk, is_err}
use Rattle.std.specs.Bool.{passes}
use Rattle.std.specs.HashMap.{HashMap, get, Updates}
use Rattle.dyadic.proofs.Equal.{both_true, both_pass}
use Rattle.dyadic.specs.declared.frac.Frac.{Frac}
use Rattle.dyadic.specs.Fraction.{Fraction}
use Rattle.dyadic.specs.Views.{fraction_of_frac}
use Rattle.dyadic.proofs.FracSteps.{whole_size}
use Rattle.poly_graph.specs.declared.node.Node.{Node}
use Rattle.poly_graph.specs.declared.node.Node.TheVariants.{Const, Var, Neg, Add, Mul, Sq}
use Rattle.poly_graph.specs.Term
use Rattle.poly_graph.specs.Term.{in_order, comes_after}
use Rattle.poly_graph.specs.Views.{node_of}
use Rattle.poly_graph.specs.Shared.{same_node, most_nodes, IsNew, IsGraph, IsShared, Interned}

-- ---- `==` of nodes

frac-view : (p q : Frac) → (int_eq p.n q.n && int_eq p.d q.d) ≡ true → fraction_of_frac p ≡ fraction_of_frac q
frac-view p q h = let e = both_true (int_eq p.n q.n) (int_eq p.d q.d) h in
    ap₂ (λ (n d : ℤ). record { num = n; den = unsigned_abs d }) ((Decides-int_eq p.n q.n).0 e.0) ((Decides-int_eq p.d q.d).0 e.1)

view-frac : (p q : Frac) → fraction_of_frac p ≡ fraction_of_frac q → (int_eq p.n q.n && int_eq p.d q.d) ≡ true
view-frac p q h = both_pass (int_eq p.n q.n) (int_eq p.d q.d) ((Decides-int_eq p.n q.n).1 (ap (λ (f : Fraction). f.num) h))
    ((Decides-int_eq p.d q.d).1 (sym (whole_size p.d p.lowest.positive) ∙ ap (λ (f : Fraction). pos f.den) h ∙ whole_size q.d q.lowest.positive))

pub same_view : (a b : Node) → same_node a b ≡ true → node_of a ≡ node_of b
same_view (Const p) (Const q) h = ap Term.constant_node (frac-view p q h)
same_view (Var i) (Var j) h = ap Term.variable_node (eqb→eq i j (passes _ h))
same_view (Neg a) (Neg b) h = ap Term.negate_node (eqb→eq a b (passes _ h))
same_view (Add a b) (Add c d) h = let e = both_true (nat_eq a c) (nat_eq b d) h in ap₂ Term.add_node (eqb→eq a c (passes _ e.0)) (eqb→eq b d (passes _ e.1))
same_view (Mul a b) (Mul c d) h = let e = both_true (nat_eq a c) (nat_eq b d) h in ap₂ Term.multiply_node (eqb→eq a c (passes _ e.0)) (eqb→eq b d (passes _ e.1))
same_view (Sq a) (Sq b) h = ap Term.square_node (eqb→eq a b (passes _ h))
same_view _ _ h = cc

pub view_same : (a b : Node) → node_of a ≡ node_of b → same_node a b ≡ true
view_same (Const p) (Const q) h = view-frac p q cc
view_same (Var i) (Var j) h = eq-eqb i j cc
view_same (Neg a) (Neg b) h = eq-eqb a b cc
view_same (Add a b) (Add c d) h = both_pass (nat_eq a c) (nat_eq b d) (eq-eqb a c cc) (eq-eqb b d cc)
view_same (Mul a b) (Mul c d) h = both_pass (nat_eq a c) (nat_eq b d) (eq-eqb a c cc) (eq-eqb b d cc)
view_same (Sq a) (Sq b) h = eq-eqb a b cc
view_same _ _ h = cc

-- ---- lists with one more at the end

at-end : {X : Type 0} (xs : List X) (x : X) → slice_get (xs ++ (x ∷ [])) (length xs) ≡ Some x
at-end [] x = refl
at-end (y ∷ xs) x = at-end xs x

before-end : {X : Type 0} (xs : List X) (x : X) (k : ℕ) (y : X) → slice_get xs k ≡ Some y → slice_get (xs ++ (x ∷ [])) k ≡ Some y
before-end [] x k y h = cc
before-end (z ∷ xs) x zero y h = h
before-end (z ∷ xs) x (suc k) y h = before-end xs x k y h

there-or-end : {X : Type 0} (xs : List X) (x : X) (k : ℕ) (y : X) → slice_get (xs ++ (x ∷ [])) k ≡ Some y → (slice_get xs k ≡ Some y) ⊎ ((k ≡ length xs) × (x ≡ y))
there-or-end [] x zero y h = inr (refl, cc)
there-or-end [] x (suc k) y h = cc
there-or-end (z ∷ xs) x zero y h = inl h
there-or-end (z ∷ xs) x (suc k) y h = elim (there-or-end xs x k y h) [
  | inl e ↦ inl e
  | inr e ↦ inr (ap suc e.0, e.1)
]

map-end : {X Y : Type 0} (f : X → Y) (xs : List X) (x : X) → map f (xs ++ (x ∷ [])) ≡ map f xs ++ (f x ∷ [])
map-end f [] x = refl
map-end f (y ∷ xs) x = ap (λ ys. f y ∷ ys) (map-end f xs x)

-- what stands in the list of images is the image of what stands there
image-of : {X Y : Type 0} (f : X → Y) (xs : List X) (k : ℕ) (y : Y) → slice_get (map f xs) k ≡ Some y → (x : X) × (f x ≡ y)
image-of f [] k y h = cc
image-of f (x ∷ xs) zero y h = (x, cc)
image-of f (x ∷ xs) (suc k) y h = image-of f xs k y h

order-end : (k : ℕ) (ns : List Term.Node) (n : Term.Node) → IsTrue (in_order k ns) → IsTrue (comes_after (k + length ns) n) → IsTrue (in_order k (ns ++ (n ∷ [])))
order-end k [] n o h = let e : k + 0 ≡ k = omega arith in both_pass (comes_after k n) true (subst (λ (j : ℕ). IsTrue (comes_after j n)) e h) refl
order-end k (m ∷ ns) n o h = let e = both_true (comes_after k m) (in_order (suc k) ns) o in let place : k + suc (length ns) ≡ suc k + length ns = omega arith in
    both_pass (comes_after k m) (in_order (suc k) (ns ++ (n ∷ []))) e.0 (order-end (suc k) ns n e.1 (subst (λ (j : ℕ). IsTrue (comes_after j n)) place h))

-- ---- the graph

some-same : {X : Type 0} (x y : X) → Some x ≡ Some y → x ≡ y
some-same x y h = cc

pub shared_is_graph : {S : Type 0} (nodes : List Node) (numbers : HashMap Node ℕ S) → IsShared nodes numbers → IsGraph (map node_of nodes)
shared_is_graph nodes numbers s = record {
  few = omega (arith, length-map nodes node_of, s.few);
  ordered = s.ordered;
  once = λ j k n h i. let q = image-of node_of nodes j n h in
      some-same j k (sym (s.known q.0 j (h ∙ ap (λ m. Some m) (sym q.1))) ∙ s.known q.0 k (i ∙ ap (λ m. Some m) (sym q.1)));
}

-- a node that the table does not have is new
pub absent_is_new : {S : Type 0} (nodes : List Node) (numbers : HashMap Node ℕ S) (q : Node) → IsShared nodes numbers → get same_node numbers q ≡ None → IsNew (map node_of nodes) (node_of q)
absent_is_new nodes numbers q s h k e = let m = s.known q k e in cc

pub shared_add : {S : Type 0} (nodes : List Node) (numbers after : HashMap Node ℕ S) (node : Node) → IsShared nodes numbers → IsTrue (comes_after (length (map node_of nodes)) (node_of node)) →
    length nodes < most_nodes → get same_node numbers node ≡ None → Updates same_node numbers after node (Some (length nodes)) → IsShared (nodes ++ (node ∷ [])) after
shared_add nodes numbers after node s o few absent u = record {
  few = omega (arith, length-append nodes (node ∷ []));
  ordered = let place : 0 + length (map node_of nodes) ≡ length (map node_of nodes) = omega arith in
      subst (λ (ns : List Term.Node). IsTrue (in_order 0 ns)) (sym (map-end node_of nodes node))
      (order-end 0 (map node_of nodes) (node_of node) s.ordered (subst (λ (j : ℕ). IsTrue (comes_after j (node_of node))) (sym place) o));
  found = λ q k h. subst (λ (ns : List Term.Node). slice_get ns k ≡ Some (node_of q)) (sym (map-end node_of nodes node)) (found-by q k (same_node node q) refl (sym (u.0 q) ∙ h));
  known = λ q k h. known-by q k (there-or-end (map node_of nodes) (node_of node) k (node_of q) (subst (λ (ns : List Term.Node). slice_get ns k ≡ Some (node_of q)) (map-end node_of nodes node) h));
}
  where
    last : length (map node_of nodes) ≡ length nodes
    last = length-map nodes node_of

    found-by : (q : Node) (k : ℕ) (t : Bool) → same_node node q ≡ t → cond t (Some (length nodes)) (get same_node numbers q) ≡ Some k → slice_get (map node_of nodes ++ (node_of node ∷ [])) k ≡ Some (node_of q)
    found-by q k true e h = subst (λ (j : ℕ). slice_get (map node_of nodes ++ (node_of node ∷ [])) j ≡ Some (node_of q)) (last ∙ some-same (length nodes) k h)
        (at-end (map node_of nodes) (node_of node) ∙ ap (λ m. Some m) (same_view node q e))
    found-by q k false e h = before-end (map node_of nodes) (node_of node) k (node_of q) (s.found q k h)

    known-by : (q : Node) (k : ℕ) → (slice_get (map node_of nodes) k ≡ Some (node_of q)) ⊎ ((k ≡ length (map node_of nodes)) × (node_of node ≡ node_of q)) → get same_node after q ≡ Some k
    known-by q k (inl e) = other (same_node node q) refl
      where
        other : (t : Bool) → same_node node q ≡ t → get same_node after q ≡ Some k
        other true h = absurd (absent_is_new nodes numbers node s absent k (e ∙ ap (λ m. Some m) (sym (same_view node q h))))
        other false h = u.2 q h ∙ s.known q k e
    known-by q k (inr e) = u.0 q ∙ ap (λ t. cond t (Some (length nodes)) (get same_node numbers q)) (view_same node q e.1) ∙ ap (λ m. Some m) (sym (e.0 ∙ last))

pub on_ok : {X E : Type 0} (r : Result X E) (P : Type 0) → false ≡ is_err r → OnOk r P → P
on_ok (Ok x) P e h = h
on_ok (Err x) P e h = cc

-- what holds after a node is added at the end
pub record Added {S : Type 0} (value : List Term.Node) (new : List Node) (after : HashMap Node ℕ S) (node : Term.Node) (n : ℕ) : Type 0 where
  pub shared : IsShared new after
  pub interned : Interned value (map node_of new) node n

pub added : {S : Type 0} (nodes new : List Node) (numbers after : HashMap Node ℕ S) (node : Node) (n : ℕ) (value : List Term.Node) → map node_of nodes ≡ value → IsShared nodes numbers →
    IsTrue (comes_after (length value) (node_of node)) → n ≡ length nodes → n < most_nodes → None ≡ get same_node numbers node → new ≡ nodes ++ (node ∷ []) → Updates same_node numbers after node (Some n) →
    Added value new after (node_of node) n
added nodes new numbers after node n value is s o place few absent items u =
    let images : map node_of new ≡ value ++ (node_of node ∷ []) = ap (map node_of) items ∙ map-end node_of nodes node ∙ ap (λ (ns : List Term.Node). ns ++ (node_of node ∷ [])) is in
    let last : n ≡ length value = place ∙ sym (length-map nodes node_of) ∙ ap (λ (ns : List Term.Node). length ns) is in record {
      shared = subst (λ (ns : List Node). IsShared ns after) (sym items)
          (shared_add nodes numbers after node s (subst (λ (ns : List Term.Node). IsTrue (comes_after (length ns) (node_of node))) (sym is) o) (omega (arith, place, few)) (sym absent)
          (subst (λ (k : ℕ). Updates same_node numbers after node (Some k)) place u));
      interned = (
        subst (λ (ns : List Term.Node). slice_get ns n ≡ Some (node_of node)) (sym images) (subst (λ (k : ℕ). slice_get (value ++ (node_of node ∷ [])) k ≡ Some (node_of node)) (sym last) (at-end value (node_of node))),
        inr (images, last, subst (λ (ns : List Term.Node). IsNew ns (node_of node)) is (absent_is_new nodes numbers node s (sym absent))),
      );
    }
