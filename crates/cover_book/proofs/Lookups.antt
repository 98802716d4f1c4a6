-- Nodes and lemmas that are looked up by number.
use Rattle.std.proofs.Common.{◌≡◌, ℕ, zero, suc, ◌+◌, ◌-◌, ◌<◌, ◌≤◌, List, [], ◌∷◌, ◌++◌, map, length, get_or, Bool, true, false, Option, Some, None, IsTrue, drop, cond, refl, ap, sym, ◌∙◌, true≢false, length-append, append_assoc, arith}
use Rattle.std.specs.Prelude.{slice_get}
use Rattle.std.proofs.Math.Seq.{drop-cons, drop-nil}
use Rattle.std.proofs.Math.ListN.{drop_of_length-le}
use Rattle.std.proofs.lemmas.List.{drop-map, length-map, map-append}
use Rattle.cover_model.specs.State.{State}
use Rattle.cover_book.specs.declared.node.Node.{Node}
use Rattle.cover_book.specs.declared.node.Learned.{Learned}
use Rattle.cover_book.specs.Model.{LearnedLemma, NodeModel, BookModel, lemma_states_in, lemma_count}
use Rattle.cover_book.specs.Steps.{with_lemma}
use Rattle.cover_book.specs.Verdict.{is_live, first_live, live_after, live_numbers, live_numbers_after}
use Rattle.cover_book.specs.Views.{node_of, learned_of}
use Rattle.cover_book.proofs.Lists.{some_at}

-- the states of all lemmas of these
abbrev pub states : List State → List Learned → List State
states kept xs = kept ++ map (λ (y : LearnedLemma). y.state) (map learned_of xs)

pub states_count : (b : BookModel) → length (lemma_states_in b) ≡ lemma_count b
states_count b = omega (arith, length-append b.kept (map (λ (y : LearnedLemma). y.state) b.lemmas), length-map b.lemmas (λ (y : LearnedLemma). y.state))

-- one lemma more
pub more_states : (b : BookModel) (x : LearnedLemma) → lemma_states_in b ++ (x.state ∷ []) ≡ lemma_states_in (with_lemma b x)
more_states b x = append_assoc b.kept (map (λ (y : LearnedLemma). y.state) b.lemmas) (x.state ∷ [])
    ∙ ap (λ (ys : List State). b.kept ++ ys) (sym (map-append (λ (y : LearnedLemma). y.state) b.lemmas (x ∷ [])))

learned-some : (xs : List Learned) (i : ℕ) (x : Learned) → i < length xs → x ≡ get_or xs i x → slice_get (states [] xs) i ≡ Some x.state
learned-some [] i x h e = absurd (omega (arith, h))
learned-some (y ∷ xs) zero x h e = ap (λ (z : Learned). Some z.state) (sym e)
learned-some (y ∷ xs) (suc i) x h e = learned-some xs i x (omega (arith, h)) e

learned-none : (xs : List Learned) (i : ℕ) → length xs ≤ i → slice_get (states [] xs) i ≡ None
learned-none [] i h = refl
learned-none (y ∷ xs) zero h = absurd (omega (arith, h))
learned-none (y ∷ xs) (suc i) h = learned-none xs i (omega (arith, h))

behind : (kept : List State) (xs : List Learned) (i : ℕ) → length kept ≤ i → slice_get (states kept xs) i ≡ slice_get (states [] xs) (i - length kept)
behind [] xs i h = let e : i ≡ i - 0 = omega arith in ap (slice_get (states [] xs)) e
behind (T ∷ kept) xs zero h = absurd (omega (arith, h))
behind (T ∷ kept) xs (suc i) h = let e : i - length kept ≡ suc i - suc (length kept) = omega arith in behind kept xs i (omega (arith, h)) ∙ ap (slice_get (states [] xs)) e

pub learned_state : (kept : List State) (xs : List Learned) (i : ℕ) (x : Learned) → length kept ≤ i → i - length kept < length xs → x ≡ get_or xs (i - length kept) x → slice_get (states kept xs) i ≡ Some x.state
learned_state kept xs i x k h e = behind kept xs i k ∙ learned-some xs (i - length kept) x h e

pub no_state : (kept : List State) (xs : List Learned) (i : ℕ) → length kept ≤ i → length xs ≤ i - length kept → slice_get (states kept xs) i ≡ None
no_state kept xs i k h = behind kept xs i k ∙ learned-none xs (i - length kept) h

-- each number below the count is that of a lemma
pub no_gap : (b : BookModel) (i : ℕ) → i < lemma_count b → slice_get (lemma_states_in b) i ≡ None → ⊥
no_gap b i h e = let there = some_at (lemma_states_in b) i (omega (arith, states_count b, h)) in let w : Some there.0 ≡ None = sym there.1 ∙ e in cc

pub node_some : (xs : List Node) (i : ℕ) (x : Node) → i < length xs → x ≡ get_or xs i x → slice_get (map node_of xs) i ≡ Some (node_of x)
node_some [] i x h e = absurd (omega (arith, h))
node_some (y ∷ xs) zero x h e = ap (λ (z : Node). Some (node_of z)) (sym e)
node_some (y ∷ xs) (suc i) x h e = node_some xs i x (omega (arith, h)) e

pub node_none : (xs : List Node) (i : ℕ) → length xs ≤ i → slice_get (map node_of xs) i ≡ None
node_none [] i h = refl
node_none (y ∷ xs) zero h = absurd (omega (arith, h))
node_none (y ∷ xs) (suc i) h = node_none xs i (omega (arith, h))

-- the test of one lemma
pub known_if : (o : Option State) (S T : State) (t : Bool) → o ≡ Some S → ((IsTrue t → S ≡ T) × (S ≡ T → IsTrue t)) → (IsTrue t → o ≡ Some T) × (o ≡ Some T → IsTrue t)
known_if o S T t e h = (λ k. e ∙ ap (λ (U : State). Some U) (h.0 k), λ k. h.1 cc)

pub known_none : (o : Option State) (T : State) → o ≡ None → (IsTrue false → o ≡ Some T) × (o ≡ Some T → IsTrue false)
known_none o T e = (λ k. absurd (true≢false (sym k)), λ k. cc)

-- ---- live nodes in order

pub live_here : (xs : List Node) (i : ℕ) (x : Node) → i < length xs → x ≡ get_or xs i x → is_live (node_of x) ≡ true → first_live i (map node_of (drop i xs)) ≡ Some i
live_here xs i x h e f =
    ap (λ (ys : List Node). first_live i (map node_of ys)) (drop-cons xs i x h)
    ∙ ap (λ (y : Node). cond (is_live (node_of y)) (Some i) (first_live (suc i) (map node_of (drop (suc i) xs)))) (sym e)
    ∙ ap (λ (t : Bool). cond t (Some i) (first_live (suc i) (map node_of (drop (suc i) xs)))) f

pub none_live_past : (xs : List Node) (i : ℕ) → length xs ≤ i → first_live i (map node_of (drop i xs)) ≡ None
none_live_past xs i h = ap (λ (ys : List Node). first_live i (map node_of ys)) (drop_of_length-le xs h)

pub live_of_book : (xs : List Node) (from : ℕ) → first_live from (map node_of (drop from xs)) ≡ first_live from (drop from (map node_of xs))
live_of_book xs from = ap (first_live from) (sym (drop-map node_of from xs))

-- the numbers of the live nodes begin with the first one

numbers-by : (t : Bool) (x : NodeModel) (xs : List NodeModel) (k n : ℕ) → cond t (Some k) (first_live (suc k) xs) ≡ Some n →
    (first_live (suc k) xs ≡ Some n → (j : ℕ) × (n ≡ suc k + j) × (live_numbers (suc k) xs ≡ n ∷ live_numbers (suc n) (drop (suc j) xs))) →
    (j : ℕ) × (n ≡ k + j) × (cond t (k ∷ live_numbers (suc k) xs) (live_numbers (suc k) xs) ≡ n ∷ live_numbers (suc n) (drop (suc j) (x ∷ xs)))
numbers-by true x xs k n e f = let q : k ≡ n = cc in (0, omega (arith, q), ap (λ (i : ℕ). i ∷ live_numbers (suc i) xs) q)
numbers-by false x xs k n e f = let h = f e in (suc h.0, omega (arith, h.1), h.2)

none-by : (t : Bool) (xs : List NodeModel) (k : ℕ) → cond t (Some k) (first_live (suc k) xs) ≡ None → (first_live (suc k) xs ≡ None → live_numbers (suc k) xs ≡ []) →
    cond t (k ∷ live_numbers (suc k) xs) (live_numbers (suc k) xs) ≡ []
none-by true xs k e f = cc
none-by false xs k e f = f e

drop_drop-at : {X : Type 0} (xs : List X) (k j n : ℕ) → n ≡ k + j → drop j (drop k xs) ≡ drop n xs
drop_drop-at xs zero j n e = let q : j ≡ n = omega (arith, e) in ap (λ (i : ℕ). drop i xs) q
drop_drop-at [] (suc k) j n e = drop-nil j ∙ sym (drop-nil n)
drop_drop-at (x ∷ xs) (suc k) j zero e = absurd (omega (arith, e))
drop_drop-at (x ∷ xs) (suc k) j (suc n) e = drop_drop-at xs k j n (omega (arith, e))

numbers-next : (xs : List NodeModel) (k n : ℕ) → first_live k xs ≡ Some n → (j : ℕ) × (n ≡ k + j) × (live_numbers k xs ≡ n ∷ live_numbers (suc n) (drop (suc j) xs))
numbers-next [] k n e = cc
numbers-next (x ∷ xs) k n e = numbers-by (is_live x) x xs k n e (numbers-next xs (suc k) n)

numbers-none : (xs : List NodeModel) (k : ℕ) → first_live k xs ≡ None → live_numbers k xs ≡ []
numbers-none [] k e = refl
numbers-none (x ∷ xs) k e = none-by (is_live x) xs k e (numbers-none xs (suc k))

pub next_number : (b : BookModel) (k n : ℕ) → live_after b k ≡ Some n → live_numbers_after b k ≡ n ∷ live_numbers_after b (n + 1)
next_number b k n e =
    let h = numbers-next (drop k b.nodes) k n e in
    let same : drop (suc h.0) (drop k b.nodes) ≡ drop (n + 1) b.nodes = drop_drop-at b.nodes k (suc h.0) (n + 1) (omega (arith, h.1)) in let one : suc n ≡ n + 1 = omega arith in
    h.2 ∙ ap (λ (ys : List NodeModel). n ∷ live_numbers (suc n) ys) same ∙ ap (λ (i : ℕ). n ∷ live_numbers i (drop (n + 1) b.nodes)) one

pub no_number : (b : BookModel) (k : ℕ) → live_after b k ≡ None → live_numbers_after b k ≡ []
no_number b k e = numbers-none (drop k b.nodes) k e
