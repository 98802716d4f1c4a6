-- The graph of a problem with a limit.
use Rattle.std.proofs.Common.{◌≡◌, inl, inr, ℕ, suc, zero, ◌+◌, ◌<◌, ◌≤◌, List, [], ◌∷◌, ◌++◌, length, Bool, true, false, ◌&&◌, ◌||◌, IsTrue, Some, refl, ap, ◌∙◌, subst, arith, nat_lt, nat_eq, length-append, append_assoc}
use Rattle.std.proofs.lemmas.Bool.{eq-eqb}
use Rattle.std.proofs.lemmas.Bool.Decides.{Decides-int_eq}
use Rattle.std.specs.Ordering.{int_eq}
use Rattle.std.specs.Prelude.{slice_get}
use Rattle.dyadic.proofs.Equal.{both_true, both_pass}
use Rattle.dyadic.specs.Fraction.{Fraction}
use Rattle.poly_graph.specs.Term.{Node, constant_node, add_node, multiply_node, comes_after, in_order}
use Rattle.poly_graph.specs.Shared.{IsGraph, IsNew, most_nodes}
use Rattle.poly_graph.proofs.Graphs.{in_order_at, some_is}
use Rattle.cert_model.specs.Limited.{is_constant, has_constant, limit_nodes}
use Rattle.goal_limit.proofs.Ends.{there_or_end, once_end}

order-end : (k : ℕ) (ns : List Node) (n : Node) → IsTrue (in_order k ns) → IsTrue (comes_after (k + length ns) n) → IsTrue (in_order k (ns ++ (n ∷ [])))
order-end k [] n o h = let e : k + 0 ≡ k = omega arith in both_pass (comes_after k n) true (subst (λ (j : ℕ). IsTrue (comes_after j n)) e h) refl
order-end k (m ∷ ns) n o h = let e = both_true (comes_after k m) (in_order (suc k) ns) o in let place : k + suc (length ns) ≡ suc k + length ns = omega arith in
    both_pass (comes_after k m) (in_order (suc k) (ns ++ (n ∷ []))) e.0 (order-end (suc k) ns n e.1 (subst (λ (j : ℕ). IsTrue (comes_after j n)) place h))

graph-end : (ns : List Node) (n : Node) → IsGraph ns → length ns + 1 ≤ most_nodes → IsTrue (comes_after (length ns) n) → IsNew ns n → IsGraph (ns ++ (n ∷ []))
graph-end ns n g few after new = let place : length ns ≡ 0 + length ns = omega arith in record {
  few = omega (arith, length-append ns (n ∷ []), few);
  ordered = order-end 0 ns n g.ordered (subst (λ (j : ℕ). IsTrue (comes_after j n)) place after);
  once = once_end ns n g.once new;
}

-- ---- constants

pub constant_self : (q : Fraction) → is_constant q (constant_node q) ≡ true
constant_self q = both_pass (int_eq q.num q.num) (nat_eq q.den q.den) ((Decides-int_eq q.num q.num).1 refl) (eq-eqb q.den q.den refl)

found-there : (ns : List Node) (q : Fraction) (k : ℕ) → slice_get ns k ≡ Some (constant_node q) → has_constant ns q ≡ true
found-there [] q k h = cc
found-there (n ∷ ns) q zero h = ap (λ (m : Node). is_constant q m || has_constant ns q) (some_is n (constant_node q) h) ∙ ap (λ b. b || has_constant ns q) (constant_self q)
found-there (n ∷ ns) q (suc k) h = later (is_constant q n) (has_constant ns q) (found-there ns q k h)
  where
    later : (x y : Bool) → y ≡ true → (x || y) ≡ true
    later true y e = refl
    later false y e = e

new-constant : (ns : List Node) (q : Fraction) → has_constant ns q ≡ false → IsNew ns (constant_node q)
new-constant ns q h k e = let t = found-there ns q k e in cc

-- of a node that stands at the end no child is the last node before it
new-multiply : (ns : List Node) (m n t : ℕ) → IsGraph ns → length ns ≡ m → m ≤ n + 1 → IsNew ns (multiply_node n t)
new-multiply ns m n t g e h k i = let a = in_order_at 0 ns g.ordered k (multiply_node n t) i in
    let below : n < 0 + k = below-of (both_true (nat_lt n (0 + k)) (nat_lt t (0 + k)) a.0).0 in
    omega (arith, a.1)
  where
    below-of : IsTrue (nat_lt n (0 + k)) → n < 0 + k
    below-of p = grind (arith, p)

new-add : (ns : List Node) (m n t : ℕ) → IsGraph ns → length ns ≡ m → m ≤ t + 1 → IsNew ns (add_node n t)
new-add ns m n t g e h k i = let a = in_order_at 0 ns g.ordered k (add_node n t) i in
    let below : t < 0 + k = below-of (both_true (nat_lt n (0 + k)) (nat_lt t (0 + k)) a.0).1 in
    omega (arith, a.1)
  where
    below-of : IsTrue (nat_lt t (0 + k)) → t < 0 + k
    below-of p = grind (arith, p)

before : (a b n : ℕ) → a < n → b < n → IsTrue (nat_lt a n && nat_lt b n)
before a b n h i = both_pass (nat_lt a n) (nat_lt b n) (grind (arith, h)) (grind (arith, i))

-- ---- the four nodes

module _ (ns : List Node) (t : ℕ) (a b : Fraction) (g : IsGraph ns) (room : length ns + 4 ≤ most_nodes) (within : t < length ns) (new-a : has_constant ns a ≡ false) (new-b : has_constant (constant_node a ∷ ns) b ≡ false) where
  abbrev one : List Node
  one = ns ++ (constant_node a ∷ [])

  abbrev two : List Node
  two = one ++ (multiply_node (length ns) t ∷ [])

  abbrev three : List Node
  three = two ++ (constant_node b ∷ [])

  length-one : length one ≡ length ns + 1
  length-one = length-append ns (constant_node a ∷ [])

  length-two : length two ≡ length ns + 2
  length-two = omega (arith, length-append one (multiply_node (length ns) t ∷ []), length-one)

  length-three : length three ≡ length ns + 3
  length-three = omega (arith, length-append two (constant_node b ∷ []), length-two)

  graph-one : IsGraph one
  graph-one = graph-end ns (constant_node a) g (omega (arith, room)) refl (new-constant ns a new-a)

  graph-two : IsGraph two
  graph-two = graph-end one (multiply_node (length ns) t) graph-one (omega (arith, room, length-one))
      (before (length ns) t (length one) (omega (arith, length-one)) (omega (arith, length-one, within)))
      (new-multiply one (length ns + 1) (length ns) t graph-one length-one (omega arith))

  either-false : (x y : Bool) → (x || y) ≡ false → (x ≡ false) × (y ≡ false)
  either-false true y h = cc
  either-false false y h = (refl, h)

  new-in-two : IsNew two (constant_node b)
  new-in-two k h = let e = either-false (is_constant b (constant_node a)) (has_constant ns b) new-b in
      elim (there_or_end one (multiply_node (length ns) t) k (constant_node b) h) [
        | inl i ↦ elim (there_or_end ns (constant_node a) k (constant_node b) i) [
          | inl j ↦ new-constant ns b e.1 k j
          | inr j ↦ let s : is_constant b (constant_node a) ≡ true = ap (is_constant b) j.1 ∙ constant_self b in let f = e.0 in cc
        ]
        | inr i ↦ let d = i.1 in cc
      ]

  graph-three : IsGraph three
  graph-three = graph-end two (constant_node b) graph-two (omega (arith, room, length-two)) refl new-in-two

  graph-four : IsGraph (three ++ (add_node (length ns + 1) (length ns + 2) ∷ []))
  graph-four = graph-end three (add_node (length ns + 1) (length ns + 2)) graph-three (omega (arith, room, length-three))
      (before (length ns + 1) (length ns + 2) (length three) (omega (arith, length-three)) (omega (arith, length-three)))
      (new-add three (length ns + 3) (length ns + 1) (length ns + 2) graph-three length-three (omega arith))

  pub limit_graph : IsGraph (ns ++ limit_nodes (length ns) t a b)
  limit_graph = subst IsGraph (simp append_assoc) graph-four
