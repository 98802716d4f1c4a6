-- The narrowed intervals, node by node.
use Rattle.std.proofs.Common.{◌≡◌, ℕ, zero, suc, ◌+◌, ◌<◌, List, [], ◌∷◌, length, get_or, drop, cond, nat_eq, Option, Some, None, refl, ap, ap₂, sym, ◌∙◌, arith}
use Rattle.std.proofs.lemmas.List.{drop_more}
use Rattle.std.specs.Prelude.{slice_get}
use Rattle.interval_model.specs.Interval.{Interval}
use Rattle.poly_graph.specs.Term.{Node}
use Rattle.cover_model.specs.Narrowed.{from_parent, from_parents, own, narrowed_from, narrowed}

pub length_narrowed : (es : List Interval) (root : ℕ) (range : Interval) (s : ℕ) (nodes : List Node) → length (narrowed_from es root range s nodes) ≡ length nodes
length_narrowed es root range s [] = refl
length_narrowed es root range s (n ∷ nodes) = let e = length_narrowed es root range (suc s) nodes in omega (arith, e)

narrowed-from-at : (es : List Interval) (root : ℕ) (range : Interval) (s : ℕ) (nodes : List Node) (i : ℕ) → i < length nodes →
    get_or (narrowed_from es root range s nodes) i None ≡
    own es (s + i) (cond (nat_eq (s + i) root) (Some range) (from_parents es (s + i) (drop (suc i) nodes) (drop (suc i) (narrowed_from es root range s nodes))))
narrowed-from-at es root range s [] i l = absurd (omega arith)
narrowed-from-at es root range s (n ∷ nodes) zero l = let ns : List (Option Interval) = narrowed_from es root range (suc s) nodes in let place : s ≡ s + 0 = omega arith in
    ap (λ (k : ℕ). own es k (cond (nat_eq k root) (Some range) (from_parents es k nodes ns))) place
narrowed-from-at es root range s (n ∷ nodes) (suc i) l = let ns : List (Option Interval) = narrowed_from es root range (suc s) nodes in let place : suc s + i ≡ s + suc i = omega arith in
    narrowed-from-at es root range (suc s) nodes i (omega arith)
    ∙ ap (λ (k : ℕ). own es k (cond (nat_eq k root) (Some range) (from_parents es k (drop (suc i) nodes) (drop (suc i) ns)))) place

-- the narrowed interval of a node, from those of the later ones
pub narrowed_at : (es : List Interval) (root : ℕ) (range : Interval) (nodes : List Node) (k : ℕ) → k < length nodes →
    get_or (narrowed nodes es root range) k None ≡ own es k (cond (nat_eq k root) (Some range) (from_parents es k (drop (suc k) nodes) (drop (suc k) (narrowed nodes es root range))))
narrowed_at es root range nodes k l = let place : 0 + k ≡ k = omega arith in let ns : List (Option Interval) = narrowed nodes es root range in
    narrowed-from-at es root range 0 nodes k l
    ∙ ap (λ (j : ℕ). own es j (cond (nat_eq j root) (Some range) (from_parents es j (drop (suc k) nodes) (drop (suc k) ns)))) place

-- a node stands before the later ones
pub drop_here : (nodes : List Node) (k : ℕ) (n : Node) → slice_get nodes k ≡ Some n → drop k nodes ≡ n ∷ drop (k + 1) nodes
drop_here [] k n h = cc
drop_here (m ∷ nodes) zero n h = let e : m ≡ n = cc in ap (λ (x : Node). x ∷ nodes) e
drop_here (m ∷ nodes) (suc k) n h = drop_here nodes k n h ∙ (let e : suc (k + 1) ≡ suc k + 1 = omega arith in ap (λ (j : ℕ). n ∷ drop j (m ∷ nodes)) e)

-- one more parent
pub parents_step : (es : List Interval) (s : ℕ) (nodes : List Node) (opts : List (Option Interval)) (k : ℕ) (n : Node) (o rest : Option Interval) → slice_get nodes k ≡ Some n → k < length opts →
    o ≡ get_or opts k None → rest ≡ from_parents es s (drop (k + 1) nodes) (drop (k + 1) opts) → from_parent es s n o rest ≡ from_parents es s (drop k nodes) (drop k opts)
parents_step es s nodes opts k n o rest h l e f =
    ap₂ (λ (x y : Option Interval). from_parent es s n x y) e f
    ∙ sym (ap₂ (λ (xs : List Node) (ys : List (Option Interval)). from_parents es s xs ys) (drop_here nodes k n h) (drop_more opts k None l))
