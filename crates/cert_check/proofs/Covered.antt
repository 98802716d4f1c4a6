-- A lemma's marks as two lists cover the marks of a state.
use Rattle.std.proofs.Common.{◌≡◌, ℕ, zero, suc, ◌+◌, ◌<◌, ◌≤◌, List, [], ◌∷◌, length, map, get_or, Bool, true, false, cond, not, ◌&&◌, ◌||◌, IsTrue, nat_eq, nat_lt, refl, ap, ap₂, sym, ◌∙◌, inl, inr, true≢false, arith, ltb→lt}
use Rattle.std.proofs.lemmas.Bool.Decides.{eqb_tells}
use Rattle.std.specs.List.{list_all}
use Rattle.std.specs.Bool.{passes}
use Rattle.std.specs.Cmp.{both_ways}
use Rattle.dyadic.proofs.Equal.{both_true}
use Rattle.poly_graph.specs.Marks.{Mark, marked_yes, marked_no, unmarked, is_yes, is_no, mark_at, member, mark_in, marks_from, marks_of, mark_within, marks_within}
use Rattle.cover_model.specs.State.{State, covers}
use Rattle.cover_model.specs.Rules.{lemma_covers}
use Rattle.cert_model.specs.Due.{all_below, apart}
use Rattle.cert_check.specs.declared.standing.Lemma.{Lemma}

-- ---- place by place

each-within : (j n : ℕ) (ys ns : List ℕ) (ms : List Mark) → n ≡ length ms → ((k : ℕ) → k < n → mark_within (mark_in ys ns (j + k)) (mark_at ms k) ≡ true) → marks_within (marks_from j n ys ns) ms ≡ true
each-within j zero ys ns ms l f = refl
each-within j (suc n) ys ns [] l f = absurd (omega (arith, l))
each-within j (suc n) ys ns (m ∷ ms) l f =
    let here : j + 0 ≡ j = omega arith in
    ap₂ (λ (a : Bool) (b : Bool). a && b) (ap (λ (i : ℕ). mark_within (mark_in ys ns i) m) (sym here) ∙ f 0 (omega arith))
    (each-within (suc j) n ys ns ms (omega (arith, l)) (λ k h. let next : suc j + k ≡ j + suc k = omega arith in ap (λ (i : ℕ). mark_within (mark_in ys ns i) (mark_at ms k)) next ∙ f (suc k) (omega (arith, h))))

within-at : (j n : ℕ) (ys ns : List ℕ) (ms : List Mark) → n ≡ length ms → marks_within (marks_from j n ys ns) ms ≡ true → (k : ℕ) → k < n → mark_within (mark_in ys ns (j + k)) (mark_at ms k) ≡ true
within-at j zero ys ns ms l e k h = absurd (omega (arith, h))
within-at j (suc n) ys ns [] l e k h = absurd (omega (arith, l))
within-at j (suc n) ys ns (m ∷ ms) l e zero h =
    let here : j + 0 ≡ j = omega arith in
    ap (λ (i : ℕ). mark_within (mark_in ys ns i) m) here ∙ (both_true (mark_within (mark_in ys ns j) m) (marks_within (marks_from (suc j) n ys ns) ms) e).0
within-at j (suc n) ys ns (m ∷ ms) l e (suc k) h =
    let next : j + suc k ≡ suc j + k = omega arith in
    ap (λ (i : ℕ). mark_within (mark_in ys ns i) (mark_at ms k)) next
    ∙ within-at (suc j) n ys ns ms (omega (arith, l)) (both_true (mark_within (mark_in ys ns j) m) (marks_within (marks_from (suc j) n ys ns) ms) e).1 k (omega (arith, h))

-- ---- members of a list

same-number : (a : ℕ) → nat_eq a a ≡ true
same-number a = elim (eqb_tells a a) [ inl e ↦ e.0 | inr e ↦ absurd (e.1 refl) ]

all-members : (f : ℕ → Bool) (xs : List ℕ) → ((k : ℕ) → member k xs ≡ true → f k ≡ true) → list_all f xs ≡ true
all-members f [] h = refl
all-members f (x ∷ xs) h =
    ap₂ (λ (a : Bool) (b : Bool). a && b) (h x (ap (λ (t : Bool). t || member x xs) (same-number x)))
    (all-members f xs (λ k m. h k (ap (λ (t : Bool). nat_eq x k || t) m ∙ either-true (nat_eq x k))))
  where
    either-true : (t : Bool) → (t || true) ≡ true
    either-true true = refl
    either-true false = refl

pub member_passes : (f : ℕ → Bool) (k : ℕ) (xs : List ℕ) → list_all f xs ≡ true → member k xs ≡ true → f k ≡ true
member_passes f k [] a m = absurd (true≢false (sym m))
member_passes f k (x ∷ xs) a m = let e = both_true (f x) (list_all f xs) a in elim (eqb_tells x k) [
  | inl p ↦ ap f (sym p.1) ∙ e.0
  | inr p ↦ member_passes f k xs e.1 (sym (ap (λ (t : Bool). t || member k xs) p.0) ∙ m)
]

below-member : (n k : ℕ) (xs : List ℕ) → IsTrue (all_below n xs) → member k xs ≡ true → k < n
below-member n k [] h m = absurd (true≢false (sym m))
below-member n k (x ∷ xs) h m = let e = both_true (nat_lt x n) (all_below n xs) h in elim (eqb_tells x k) [
  | inl p ↦ let l = ltb→lt x n (passes _ e.0) in omega (arith, l, p.1)
  | inr p ↦ below-member n k xs e.1 (sym (ap (λ (t : Bool). t || member k xs) p.0) ∙ m)
]

apart-member : (k : ℕ) (ys ns : List ℕ) → apart ys ns ≡ true → member k ys ≡ true → member k ns ≡ false
apart-member k [] ns a m = absurd (true≢false (sym m))
apart-member k (y ∷ ys) ns a m = let e = both_true (not (member y ns)) (apart ys ns) a in elim (eqb_tells y k) [
  | inl p ↦ ap (λ (i : ℕ). member i ns) (sym p.1) ∙ not-true (member y ns) e.0
  | inr p ↦ apart-member k ys ns e.1 (sym (ap (λ (t : Bool). t || member k ys) p.0) ∙ m)
]
  where
    not-true : (t : Bool) → not t ≡ true → t ≡ false
    not-true true e = absurd (true≢false (sym e))
    not-true false e = refl

-- ---- both lists

within-lists : (y n : Bool) (m : Mark) → (y ≡ true → is_yes m ≡ true) → (n ≡ true → is_no m ≡ true) → mark_within (cond y marked_yes (cond n marked_no unmarked)) m ≡ true
within-lists true n m f g = f refl
within-lists false true m f g = g refl
within-lists false false m f g = refl

module _ (n : ℕ) (ys ns : List ℕ) (ms : List Mark) (l : n ≡ length ms) (by : IsTrue (all_below n ys)) (bn : IsTrue (all_below n ns)) (a : apart ys ns ≡ true) where
  abbrev yes-all : Bool
  yes-all = list_all (λ (j : ℕ). is_yes (mark_at ms j)) ys

  abbrev no-all : Bool
  no-all = list_all (λ (j : ℕ). is_no (mark_at ms j)) ns

  from-lists : (yes-all && no-all) ≡ true → marks_within (marks_of n ys ns) ms ≡ true
  from-lists e = let b = both_true yes-all no-all e in
      each-within 0 n ys ns ms l (λ k h. let at : 0 + k ≡ k = omega arith in
      ap (λ (i : ℕ). mark_within (mark_in ys ns i) (mark_at ms k)) at
      ∙ within-lists (member k ys) (member k ns) (mark_at ms k) (member_passes (λ (j : ℕ). is_yes (mark_at ms j)) k ys b.0) (member_passes (λ (j : ℕ). is_no (mark_at ms j)) k ns b.1))

  at-place : marks_within (marks_of n ys ns) ms ≡ true → (k : ℕ) → k < n → mark_within (mark_in ys ns k) (mark_at ms k) ≡ true
  at-place e k h = let at : k ≡ 0 + k = omega arith in ap (λ (i : ℕ). mark_within (mark_in ys ns i) (mark_at ms k)) at ∙ within-at 0 n ys ns ms l e k h

  yes-at : marks_within (marks_of n ys ns) ms ≡ true → (k : ℕ) → member k ys ≡ true → is_yes (mark_at ms k) ≡ true
  yes-at e k m = sym (ap (λ (t : Bool). mark_within (cond t marked_yes (cond (member k ns) marked_no unmarked)) (mark_at ms k)) m) ∙ at-place e k (below-member n k ys by m)

  no-at : marks_within (marks_of n ys ns) ms ≡ true → (k : ℕ) → member k ns ≡ true → is_no (mark_at ms k) ≡ true
  no-at e k m =
      sym (ap₂ (λ (s : Bool) (t : Bool). mark_within (cond s marked_yes (cond t marked_no unmarked)) (mark_at ms k)) (not-yes k m) m) ∙ at-place e k (below-member n k ns bn m)
    where
      not-yes : (k : ℕ) → member k ns ≡ true → member k ys ≡ false
      not-yes k m = go (member k ys) (apart-member k ys ns a) where
        go : (t : Bool) → (t ≡ true → member k ns ≡ false) → t ≡ false
        go true f = absurd (true≢false (sym m ∙ f refl))
        go false f = refl

  to-lists : marks_within (marks_of n ys ns) ms ≡ true → (yes-all && no-all) ≡ true
  to-lists e = ap₂ (λ (s : Bool) (t : Bool). s && t) (all-members (λ (j : ℕ). is_yes (mark_at ms j)) ys (yes-at e)) (all-members (λ (j : ℕ). is_no (mark_at ms j)) ns (no-at e))

  pub lists_cover : marks_within (marks_of n ys ns) ms ≡ (list_all (λ (j : ℕ). is_yes (mark_at ms j)) ys && list_all (λ (j : ℕ). is_no (mark_at ms j)) ns)
  lists_cover = both_ways (marks_within (marks_of n ys ns) ms) (yes-all && no-all) to-lists from-lists

-- ---- a lemma by its number

pub covers_here : (f : Lemma → State) (Ls : List Lemma) (i : ℕ) (d : Lemma) (S : State) → i < length Ls → lemma_covers (map f Ls) i S ≡ covers (f (get_or Ls i d)) S
covers_here f [] i d S h = absurd (omega (arith, h))
covers_here f (L ∷ Ls) zero d S h = refl
covers_here f (L ∷ Ls) (suc i) d S h = covers_here f Ls i d S (omega (arith, h))

pub covers_none : (Ls : List State) (i : ℕ) (S : State) → length Ls ≤ i → lemma_covers Ls i S ≡ false
covers_none [] zero S h = refl
covers_none [] (suc i) S h = refl
covers_none (L ∷ Ls) zero S h = absurd (omega (arith, h))
covers_none (L ∷ Ls) (suc i) S h = covers_none Ls i S (omega (arith, h))
