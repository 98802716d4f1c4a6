-- What a table's lists are after a node is added at its end.
use Rattle.std.proofs.Common.{◌≡◌, ℕ, suc, zero, ◌+◌, ◌<◌, List, [], ◌∷◌, ◌++◌, map, length, refl, ap, ap₂, sym, ◌∙◌, subst, arith, length-append, append-nil, append_assoc, slice_index_or, ◌≤◌, take, drop}
use Rattle.std.proofs.Math.Seq.{take-append_seam}
use Rattle.std.proofs.lemmas.List.{map-append, length-map, take-map, take_all}
use Rattle.std.specs.Prelude.{Result, Ok, Err, MatchResult}
use Rattle.std.specs.declared.alloc.AllocError.{AllocError}
use Rattle.script_model.specs.Declared.{Bound}
use Rattle.declared_box.specs.Table.{Node, one, all, list_at, all_of, AreBefore, node_list, lists_after, bound_lists, ComesAfter, AreInOrder, IsAdded}
use Rattle.declared_box.specs.declared.table.BoundNode.{BoundNode}
use Rattle.declared_box.specs.Views.{node_of}

order-push : (n : ℕ) (xs : List Node) (y : Node) → AreInOrder n xs → ComesAfter (n + length xs) y → AreInOrder n (xs ++ (y ∷ []))
order-push n [] y h k = (subst (λ i. ComesAfter i y) (omega arith) k, tt)
order-push n (x ∷ xs) y h k = (h.0, order-push (suc n) xs y h.1 (subst (λ i. ComesAfter i y) (omega arith) k))

lists-push : (lists : List (List Bound)) (xs : List Node) (y : Node) → lists_after lists (xs ++ (y ∷ [])) ≡ lists_after lists xs ++ (node_list (lists_after lists xs) y ∷ [])
lists-push lists [] y = refl
lists-push lists (x ∷ xs) y = lists-push (lists ++ (node_list lists x ∷ [])) xs y

lists-length : (lists : List (List Bound)) (xs : List Node) → length (lists_after lists xs) ≡ length lists + length xs
lists-length lists [] = omega arith
lists-length lists (x ∷ xs) = omega (arith, lists-length (lists ++ (node_list lists x ∷ [])) xs, length-append lists (node_list lists x ∷ []))

-- as many lists as nodes
pub as_many : (nodes : List BoundNode) (t : List (List Bound)) → bound_lists (map node_of nodes) ≡ t → length nodes ≡ length t
as_many nodes t h = sym (length-map nodes node_of) ∙ omega (arith, lists-length [] (map node_of nodes)) ∙ ap length h

-- what is so where a node was added, or not
pub record Pushed (old : List (List Bound)) (new : List BoundNode) (node : Node) (r : Result ℕ AllocError) : Type 0 where
  pub ordered : AreInOrder 0 (map node_of new)
  pub answers : MatchResult r (IsAdded old (bound_lists (map node_of new)) (node_list old node)) (λ _. bound_lists (map node_of new) ≡ old)

pub pushed : (nodes new : List BoundNode) (node : BoundNode) (old : List (List Bound)) (r : Result ℕ AllocError) →
    bound_lists (map node_of nodes) ≡ old → AreInOrder 0 (map node_of nodes) → ComesAfter (length old) (node_of node) →
    MatchResult r (λ k. (k ≡ length nodes) × (new ≡ nodes ++ (node ∷ []))) (λ _. new ≡ nodes) → Pushed old new (node_of node) r
pushed nodes new node old (Err e) v h k w = record {
  ordered = subst (λ xs. AreInOrder 0 (map node_of xs)) (sym w) h;
  answers = ap (λ (xs : List BoundNode). bound_lists (map node_of xs)) w ∙ v;
}
pushed nodes new node old (Ok n) v h k w = let shape : map node_of new ≡ map node_of nodes ++ (node_of node ∷ []) = ap (map node_of) w.1 ∙ map-append node_of nodes (node ∷ []) in
    record {
      ordered = subst (AreInOrder 0) (sym shape) (order-push 0 (map node_of nodes) (node_of node) h
          (subst (λ i. ComesAfter i (node_of node)) (sym (as_many nodes old v) ∙ sym (length-map nodes node_of) ∙ omega arith) k));
      answers = (w.0 ∙ as_many nodes old v, ap bound_lists shape ∙ lists-push [] (map node_of nodes) (node_of node) ∙ ap (λ (t : List (List Bound)). t ++ (node_list t (node_of node) ∷ [])) v);
    }

-- ---- lists by number

pub list_stays : (lists : List (List Bound)) (ys : List (List Bound)) (k : ℕ) → k < length lists → list_at (lists ++ ys) k ≡ list_at lists k
list_stays [] ys k l = absurd (omega (arith, l))
list_stays (x ∷ lists) ys zero l = refl
list_stays (x ∷ lists) ys (suc k) l = list_stays lists ys k (omega (arith, l))

pub list_last : (lists : List (List Bound)) (y : List Bound) → list_at (lists ++ (y ∷ [])) (length lists) ≡ y
list_last [] y = refl
list_last (x ∷ lists) y = list_last lists y

lists-stay : (lists : List (List Bound)) (xs : List Node) (k : ℕ) → k < length lists → list_at (lists_after lists xs) k ≡ list_at lists k
lists-stay lists [] k l = refl
lists-stay lists (x ∷ xs) k l = lists-stay (lists ++ (node_list lists x ∷ [])) xs k (omega (arith, l, length-append lists (node_list lists x ∷ []))) ∙ list_stays lists (node_list lists x ∷ []) k l

all-agree : (lists others : List (List Bound)) (n : ℕ) (parts : List ℕ) → AreBefore n parts → ((k : ℕ) → k < n → list_at others k ≡ list_at lists k) → all_of lists parts ≡ all_of others parts
all-agree lists others n [] o h = refl
all-agree lists others n (k ∷ parts) o h = ap₂ (λ (bs more : List Bound). bs ++ more) (sym (h k (o 0 0 (omega arith)))) (all-agree lists others n parts (λ i d l. o (suc i) d (omega (arith, l))) h)

node-agrees : (lists others : List (List Bound)) (n : ℕ) (x : Node) → ComesAfter n x → ((k : ℕ) → k < n → list_at others k ≡ list_at lists k) → node_list lists x ≡ node_list others x
node-agrees lists others n (one axis s v) o h = refl
node-agrees lists others n (all parts) o h = all-agree lists others n parts o h

abbrev IsNode : List (List Bound) → ℕ → Node → Type 0
IsNode t k x = (list_at t k ≡ node_list t x) × ComesAfter k x

node-at : (lists : List (List Bound)) (nodes : List BoundNode) → AreInOrder (length lists) (map node_of nodes) → (k : ℕ) (x : BoundNode) → k < length nodes → x ≡ slice_index_or nodes k x →
    IsNode (lists_after lists (map node_of nodes)) (length lists + k) (node_of x)
node-at lists [] o k x l e = absurd (omega (arith, l))
node-at lists (y ∷ nodes) o zero x l e = let more = lists ++ (node_list lists (node_of y) ∷ []) in let n : length lists < length more = omega (arith, length-append lists (node_list lists (node_of y) ∷ [])) in
    subst (IsNode (lists_after more (map node_of nodes)) (length lists + 0)) (ap node_of (sym e)) (subst (λ i. IsNode (lists_after more (map node_of nodes)) i (node_of y)) (omega arith) (
      lists-stay more (map node_of nodes) (length lists) n ∙ list_last lists (node_list lists (node_of y))
          ∙ node-agrees lists (lists_after more (map node_of nodes)) (length lists) (node_of y) o.0 (λ k l. lists-stay more (map node_of nodes) k (omega (arith, l, n)) ∙ list_stays lists (node_list lists (node_of y) ∷ []) k l),
      o.0,
    ))
node-at lists (y ∷ nodes) o (suc k) x l e = let more = lists ++ (node_list lists (node_of y) ∷ []) in let n : suc (length lists) ≡ length more = omega (arith, length-append lists (node_list lists (node_of y) ∷ [])) in
    subst (λ i. IsNode (lists_after more (map node_of nodes)) i (node_of x)) (omega (arith, n)) (node-at more nodes (subst (λ i. AreInOrder i (map node_of nodes)) n o.1) k x (omega (arith, l)) e)

-- the node's list is that of the table under its number, and the node comes after its parts
pub node_at : (nodes : List BoundNode) (t : List (List Bound)) → bound_lists (map node_of nodes) ≡ t → AreInOrder 0 (map node_of nodes) → (k : ℕ) (x : BoundNode) → k < length nodes → x ≡ slice_index_or nodes k x →
    (list_at t k ≡ node_list t (node_of x)) × ComesAfter k (node_of x)
node_at nodes t v o k x l e = subst (λ t. IsNode t k (node_of x)) v (subst (λ i. IsNode (bound_lists (map node_of nodes)) i (node_of x)) (omega arith) (node-at [] nodes o k x l e))

pub comes_after_more : (m n : ℕ) (x : Node) → m ≤ n → ComesAfter m x → ComesAfter n x
comes_after_more m n (one axis s v) l o = tt
comes_after_more m n (all parts) l o = λ k d h. omega (arith, l, o k d h)

-- a slice that is written back into all of its vector
pub written_back : {A : Type 0} (new items : List A) (n : ℕ) → n ≡ length new → take n (new ++ drop (length new) items) ≡ new
written_back new items n e = subst (λ k. take k (new ++ drop (length new) items) ≡ new) (sym e) (take-append_seam new (drop (length new) items))

-- ---- the first nodes alone

begins : (lists : List (List Bound)) (xs : List Node) → (more : List (List Bound)) × (lists_after lists xs ≡ lists ++ more)
begins lists [] = ([], sym (append-nil lists))
begins lists (x ∷ xs) = let t = begins (lists ++ (node_list lists x ∷ [])) xs in (node_list lists x ∷ t.0, t.1 ∙ append_assoc lists (node_list lists x ∷ []) t.0)

lists-begin : (lists : List (List Bound)) (xs : List Node) → take (length lists) (lists_after lists xs) ≡ lists
lists-begin lists xs = let t = begins lists xs in ap (take (length lists)) t.1 ∙ take-append_seam lists t.0

lists-take : (lists : List (List Bound)) (n : ℕ) (xs : List Node) → lists_after lists (take n xs) ≡ take (length lists + n) (lists_after lists xs)
lists-take lists n [] = ap (lists_after lists) (take_all n [] (omega arith)) ∙ sym (take_all (length lists + n) lists (omega arith))
lists-take lists zero (x ∷ xs) = let e : length lists + 0 ≡ length lists = omega arith in sym (ap (λ k. take k (lists_after lists (x ∷ xs))) e ∙ lists-begin lists (x ∷ xs))
lists-take lists (suc n) (x ∷ xs) =
    let more = lists ++ (node_list lists x ∷ []) in
    let e : length more + n ≡ length lists + suc n = omega (arith, length-append lists (node_list lists x ∷ [])) in
    lists-take more n xs ∙ ap (λ k. take k (lists_after more xs)) e

first-lists : (n : ℕ) (xs : List Node) → bound_lists (take n xs) ≡ take n (bound_lists xs)
first-lists n xs = let e : 0 + n ≡ n = omega arith in lists-take [] n xs ∙ ap (λ k. take k (bound_lists xs)) e

order-take : (k n : ℕ) (xs : List Node) → AreInOrder k xs → AreInOrder k (take n xs)
order-take k zero xs h = tt
order-take k (suc n) [] h = tt
order-take k (suc n) (x ∷ xs) h = (h.0, order-take (suc k) n xs h.1)

pub order_cut : (nodes new : List BoundNode) (n : ℕ) → new ≡ take n nodes → AreInOrder 0 (map node_of nodes) → AreInOrder 0 (map node_of new)
order_cut nodes new n e h = subst (AreInOrder 0) (take-map node_of n nodes ∙ ap (map node_of) (sym e)) (order-take 0 n (map node_of nodes) h)

pub lists_cut : (nodes new : List BoundNode) (n : ℕ) (t : List (List Bound)) → new ≡ take n nodes → bound_lists (map node_of nodes) ≡ t → bound_lists (map node_of new) ≡ take n t
lists_cut nodes new n t e v = ap (λ xs. bound_lists (map node_of xs)) e ∙ ap bound_lists (sym (take-map node_of n nodes)) ∙ first-lists n (map node_of nodes) ∙ ap (take n) v
