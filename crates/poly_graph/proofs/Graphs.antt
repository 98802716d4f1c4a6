-- In a graph whose children come first, a node's term is that of its kind over its children's terms.
use Rattle.std.proofs.Common.{◌≡◌, ℕ, suc, zero, ◌+◌, ◌<◌, List, [], ◌∷◌, ◌++◌, IsTrue, Option, Some, refl, ap, ap₂, sym, ◌∙◌, subst, length, arith, slice_index_or, nat_lt, lit<, ltb→lt, length-append}
use Rattle.std.specs.Prelude.{slice_get, All}
use Rattle.std.specs.Bool.{passes}
use Rattle.std.specs.Option.{unwrap_or}
use Rattle.dyadic.specs.Fraction.{zero_fraction}
use Rattle.dyadic.specs.Point.{Sort}
use Rattle.poly_graph.specs.Problem.{IsNode, IsTerm}
use Rattle.poly_graph.specs.Term.{Term, constant, negate, add, multiply, square, Node, constant_node, variable_node, negate_node, add_node, multiply_node, square_node, node_term, terms_after, graph_terms, comes_after, in_order}
use Rattle.dyadic.proofs.Equal.{both_true}

abbrev pub term_at : List Term → ℕ → Term
term_at terms k = slice_index_or terms k (constant zero_fraction)

pub some_is : (m n : Node) → Some m ≡ Some n → m ≡ n
some_is m n e = ap (λ (o : Option Node). unwrap_or o m) e

-- the new term does not change those before it
below-end : (done : List Term) (t : Term) (k : ℕ) → k < length done → term_at (done ++ (t ∷ [])) k ≡ term_at done k
below-end [] t k h = absurd (omega arith)
below-end (u ∷ done) t zero h = refl
below-end (u ∷ done) t (suc k) h = below-end done t k (omega arith)

at-end : (done : List Term) (t : Term) → term_at (done ++ (t ∷ [])) (length done) ≡ t
at-end [] t = refl
at-end (u ∷ done) t = at-end done t

longer : (done : List Term) (t : Term) → length (done ++ (t ∷ [])) ≡ suc (length done)
longer done t = length-append done (t ∷ []) ∙ omega arith

-- nor do the later ones
kept : (nodes : List Node) (done : List Term) (k : ℕ) → k < length done → term_at (terms_after done nodes) k ≡ term_at done k
kept [] done k h = refl
kept (n ∷ nodes) done k h = kept nodes (done ++ (node_term done n ∷ [])) k (omega (arith, longer done (node_term done n), h)) ∙ below-end done (node_term done n) k h

-- a node's term is the same over terms that agree below it
pub same_term : (n : Node) (k : ℕ) (xs ys : List Term) → IsTrue (comes_after k n) → ((i : ℕ) → i < k → term_at xs i ≡ term_at ys i) → node_term xs n ≡ node_term ys n
same_term (constant_node q) k xs ys h f = refl
same_term (variable_node axis) k xs ys h f = refl
same_term (negate_node a) k xs ys h f = ap negate (f a (ltb→lt a k (passes _ h)))
same_term (add_node a b) k xs ys h f = let e = both_true (nat_lt a k) (nat_lt b k) h in ap₂ add (f a (ltb→lt a k (passes _ e.0))) (f b (ltb→lt b k (passes _ e.1)))
same_term (multiply_node a b) k xs ys h f = let e = both_true (nat_lt a k) (nat_lt b k) h in ap₂ multiply (f a (ltb→lt a k (passes _ e.0))) (f b (ltb→lt b k (passes _ e.1)))
same_term (square_node a) k xs ys h f = ap square (f a (ltb→lt a k (passes _ h)))

-- the node that stands i places on
pub unfolds_from : (nodes : List Node) (done : List Term) → IsTrue (in_order (length done) nodes) → (i : ℕ) (n : Node) → slice_get nodes i ≡ Some n →
    term_at (terms_after done nodes) (length done + i) ≡ node_term (terms_after done nodes) n
unfolds_from [] done h i n e = cc
unfolds_from (m ∷ nodes) done h zero n e =
    let o = both_true (comes_after (length done) m) (in_order (suc (length done)) nodes) h in
    let whole : List Term = terms_after (done ++ (node_term done m ∷ [])) nodes in
    ap (λ (k : ℕ). term_at whole k) (omega arith)
    ∙ kept nodes (done ++ (node_term done m ∷ [])) (length done) (omega (arith, longer done (node_term done m)))
    ∙ at-end done (node_term done m)
    ∙ same_term m (length done) done whole o.0 (λ k l. sym (kept (m ∷ nodes) done k l))
    ∙ ap (λ (x : Node). node_term whole x) (some_is m n e)
unfolds_from (m ∷ nodes) done h (suc i) n e =
    let o = both_true (comes_after (length done) m) (in_order (suc (length done)) nodes) h in
    let next : List Term = done ++ (node_term done m ∷ []) in
    ap (λ (k : ℕ). term_at (terms_after next nodes) k) (omega (arith, longer done (node_term done m)))
    ∙ unfolds_from nodes next (subst (λ (k : ℕ). IsTrue (in_order k nodes)) (sym (longer done (node_term done m))) o.1) i n e

-- the law of the shared graph
pub unfolds : (nodes : List Node) → IsTrue (in_order 0 nodes) → (i : ℕ) (n : Node) → slice_get nodes i ≡ Some n → term_at (graph_terms nodes) i ≡ node_term (graph_terms nodes) n
unfolds nodes h i n e = ap (λ (k : ℕ). term_at (graph_terms nodes) k) (omega arith) ∙ unfolds_from nodes [] h i n e

-- ---- the terms of a problem's nodes have fractions for constants and Real axes for variables

at-append : (sorts : List Sort) (done : List Term) (t : Term) → ((k : ℕ) → IsTerm sorts (term_at done k)) → IsTerm sorts t → (k : ℕ) → IsTerm sorts (term_at (done ++ (t ∷ [])) k)
at-append sorts [] t f g zero = g
at-append sorts [] t f g (suc k) = f 0
at-append sorts (u ∷ done) t f g zero = f 0
at-append sorts (u ∷ done) t f g (suc k) = at-append sorts done t (λ k. f (suc k)) g k

node-is-term : (sorts : List Sort) (done : List Term) (n : Node) → ((k : ℕ) → IsTerm sorts (term_at done k)) → IsNode sorts n → IsTerm sorts (node_term done n)
node-is-term sorts done (constant_node q) f g = g.0
node-is-term sorts done (variable_node axis) f g = g
node-is-term sorts done (negate_node a) f g = f a
node-is-term sorts done (add_node a b) f g = (f a, f b)
node-is-term sorts done (multiply_node a b) f g = (f a, f b)
node-is-term sorts done (square_node a) f g = f a

terms-after-are : (sorts : List Sort) (nodes : List Node) (done : List Term) → All (IsNode sorts) nodes → ((k : ℕ) → IsTerm sorts (term_at done k)) → (k : ℕ) → IsTerm sorts (term_at (terms_after done nodes) k)
terms-after-are sorts [] done h f k = f k
terms-after-are sorts (n ∷ nodes) done h f k = terms-after-are sorts nodes (done ++ (node_term done n ∷ []))
    (λ i d l. h (suc i) d (omega arith)) (at-append sorts done (node_term done n) f (node-is-term sorts done n f (h zero n (omega arith)))) k

pub terms_are : (sorts : List Sort) (nodes : List Node) → All (IsNode sorts) nodes → (k : ℕ) → IsTerm sorts (term_at (graph_terms nodes) k)
terms_are sorts nodes h k = terms-after-are sorts nodes [] h (λ i. lit< tt) k

pub length_terms_after : (nodes : List Node) (done : List Term) → length (terms_after done nodes) ≡ length done + length nodes
length_terms_after [] done = omega arith
length_terms_after (n ∷ nodes) done = length_terms_after nodes (done ++ (node_term done n ∷ [])) ∙ omega (arith, longer done (node_term done n))

pub length_terms : (nodes : List Node) → length (graph_terms nodes) ≡ length nodes
length_terms nodes = length_terms_after nodes [] ∙ omega arith

-- the node that stands i places on
pub in_order_at : (k : ℕ) (nodes : List Node) → IsTrue (in_order k nodes) → (i : ℕ) (p : Node) → slice_get nodes i ≡ Some p → IsTrue (comes_after (k + i) p) × (i < length nodes)
in_order_at k [] o i p e = cc
in_order_at k (n ∷ nodes) o zero p e = let start : k ≡ k + 0 = omega arith in
    (subst (λ (j : ℕ). IsTrue (comes_after j p)) start (subst (λ (m : Node). IsTrue (comes_after k m)) (some_is n p e) (both_true (comes_after k n) (in_order (suc k) nodes) o).0), omega arith)
in_order_at k (n ∷ nodes) o (suc i) p e = let h = in_order_at (suc k) nodes (both_true (comes_after k n) (in_order (suc k) nodes) o).1 i p e in let place : suc k + i ≡ k + suc i = omega arith in
    (subst (λ (j : ℕ). IsTrue (comes_after j p)) place h.0, let l = h.1 in omega arith)
