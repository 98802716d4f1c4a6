-- The numbers of a book's tree are as many as its nodes.
use Rattle.std.proofs.Common.{◌≡◌, inl, inr, ℕ, zero, suc, ◌+◌, ◌<◌, ◌≤◌, List, [], ◌∷◌, length, refl, sym, ◌∙◌, subst, ⊎_elim, arith}
use Rattle.std.proofs.lemmas.Bool.{cases_lt}
use Rattle.cover_model.specs.Derivation.{Tree}
use Rattle.cert_model.specs.Due.{Standing}
use Rattle.cover_book.specs.Model.{BookModel}
use Rattle.cover_book.specs.Tree.{occurrences}
use Rattle.cover_book.specs.Laws.{IsTreeOfBook}
use Rattle.cover_book.proofs.Lists.{occurs_here, occurs_other, same_or_other}
use Rattle.cover_book.proofs.Changed.{none_past}

-- how often the numbers below n stand in a list
abbrev total : ℕ → List ℕ → ℕ
total zero ns = 0
total (suc n) ns = occurrences n ns + total n ns

total-least : (n : ℕ) (ns : List ℕ) → ((j : ℕ) → j < n → occurrences j ns ≡ 1) → total n ns ≡ n
total-least zero ns h = refl
total-least (suc n) ns h = omega (arith, h n (omega arith), total-least n ns (λ j k. h j (omega (arith, k))))

total-above : (n i : ℕ) (ns : List ℕ) → n ≤ i → total n (i ∷ ns) ≡ total n ns
total-above zero i ns h = refl
total-above (suc n) i ns h = omega (arith, occurs_other n i ns (λ q. absurd (omega (arith, q, h))), total-above n i ns (omega (arith, h)))

total-more : (n i : ℕ) (ns : List ℕ) → i < n → total n (i ∷ ns) ≡ suc (total n ns)
total-more zero i ns h = absurd (omega (arith, h))
total-more (suc n) i ns h = elim (same_or_other i n) [
  | inl e ↦ omega (arith, subst (λ (j : ℕ). occurrences j (i ∷ ns) ≡ suc (occurrences j ns)) e.0 (occurs_here i ns), total-above n i ns (omega (arith, e.0)))
  | inr e ↦ omega (arith, occurs_other n i ns e.0, total-more n i ns (below e.0))
]
  where
    below : (i ≡ n → ⊥) → i < n
    below k = ⊎_elim (λ (l : i < n). l) (λ (l : n ≤ i). absurd (k (omega (arith, l, h)))) (cases_lt i n)

length-total : (n : ℕ) (ns : List ℕ) → ((j : ℕ) → n ≤ j → occurrences j ns ≡ 0) → length ns ≤ total n ns
length-total n [] h = omega arith
length-total n (i ∷ ns) h = ⊎_elim
    (λ (l : i < n). omega (arith, total-more n i ns l, length-total n ns (λ j k. occurs-rest j k)))
    (λ (l : n ≤ i). absurd (omega (arith, h i l, occurs_here i ns)))
    (cases_lt i n)
  where
    occurs-rest : (j : ℕ) → n ≤ j → occurrences j ns ≡ 0
    occurs-rest j k = elim (same_or_other i j) [
      | inl e ↦ absurd (omega (arith, h j k, subst (λ (m : ℕ). occurrences m (i ∷ ns) ≡ suc (occurrences m ns)) e.0 (occurs_here i ns)))
      | inr e ↦ sym (occurs_other j i ns e.0) ∙ h j k
    ]

pub few_numbers : (b : BookModel) (t : Tree) (left : List Standing) (i : IsTreeOfBook b t left) → length i.numbers ≤ length b.nodes
few_numbers b t left i =
    omega (arith, length-total (length b.nodes) i.numbers (none_past b.nodes i.is_tree), total-least (length b.nodes) i.numbers i.once)
