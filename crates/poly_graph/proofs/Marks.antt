-- Marks that are set, and marks that others cover.
use Rattle.std.proofs.Common.{◌≡◌, map, replicate, take, ◌++◌, ◌-◌, ap₂, arith, ◌∙◌, ◌⊎◌, inl, inr, ℕ, suc, zero, List, [], ◌∷◌, IsTrue, refl, ap, sym, true≢false}
use Rattle.std.specs.Prelude.{slice_set}
use Rattle.dyadic.proofs.Equal.{both_true, both_pass}
use Rattle.poly_graph.specs.Marks.{Mark, marked_yes, marked_no, unmarked, is_yes, is_no, is_unmarked, mark_at, undecided_in, mark_within, marks_within}

-- after a mark is set, an atom has it, or its former mark
pub set_or_same : (marks : List Mark) (j : ℕ) (m : Mark) (k : ℕ) → ((j ≡ k) × (mark_at (slice_set marks j m) k ≡ m)) ⊎ (mark_at (slice_set marks j m) k ≡ mark_at marks k)
set_or_same [] j m k = inr refl
set_or_same (x ∷ marks) zero m zero = inl (refl, refl)
set_or_same (x ∷ marks) zero m (suc k) = inr refl
set_or_same (x ∷ marks) (suc j) m zero = inr refl
set_or_same (x ∷ marks) (suc j) m (suc k) = elim (set_or_same marks j m k) [
  | inl e ↦ inl (ap suc e.0, e.1)
  | inr e ↦ inr e
]

-- ---- covering

pub mark_reflexive : (m : Mark) → IsTrue (mark_within m m)
mark_reflexive marked_yes = refl
mark_reflexive marked_no = refl
mark_reflexive unmarked = refl

pub marks_reflexive : (ms : List Mark) → IsTrue (marks_within ms ms)
marks_reflexive [] = refl
marks_reflexive (m ∷ ms) = both_pass (mark_within m m) (marks_within ms ms) (mark_reflexive m) (marks_reflexive ms)

mark-through : (a b c : Mark) → IsTrue (mark_within a b) → IsTrue (mark_within b c) → IsTrue (mark_within a c)
mark-through unmarked b c h k = refl
mark-through marked_yes marked_yes c h k = k
mark-through marked_yes marked_no c h k = absurd (true≢false (sym h))
mark-through marked_yes unmarked c h k = absurd (true≢false (sym h))
mark-through marked_no marked_no c h k = k
mark-through marked_no marked_yes c h k = absurd (true≢false (sym h))
mark-through marked_no unmarked c h k = absurd (true≢false (sym h))

pub marks_through : (xs ys zs : List Mark) → IsTrue (marks_within xs ys) → IsTrue (marks_within ys zs) → IsTrue (marks_within xs zs)
marks_through [] ys zs h k = refl
marks_through (x ∷ xs) [] zs h k = absurd (true≢false (sym h))
marks_through (x ∷ xs) (y ∷ ys) [] h k = absurd (true≢false (sym k))
marks_through (x ∷ xs) (y ∷ ys) (z ∷ zs) h k = let a = both_true (mark_within x y) (marks_within xs ys) h in let b = both_true (mark_within y z) (marks_within ys zs) k in
    both_pass (mark_within x z) (marks_within xs zs) (mark-through x y z a.0 b.0) (marks_through xs ys zs a.1 b.1)

unmarked-within : (m n : Mark) → IsTrue (is_unmarked m) → IsTrue (mark_within m n)
unmarked-within unmarked n h = refl
unmarked-within marked_yes n h = absurd (true≢false (sym h))
unmarked-within marked_no n h = absurd (true≢false (sym h))

-- a mark set where there was none is covered by the former marks
pub set_within : (ms : List Mark) (j : ℕ) (m : Mark) → IsTrue (undecided_in ms j) → IsTrue (marks_within ms (slice_set ms j m))
set_within [] j m h = refl
set_within (x ∷ ms) zero m h = both_pass (mark_within x m) (marks_within ms ms) (unmarked-within x m h) (marks_reflexive ms)
set_within (x ∷ ms) (suc j) m h = both_pass (mark_within x x) (marks_within ms (slice_set ms j m)) (mark_reflexive x) (set_within ms j m h)

yes-kept : (m n : Mark) → IsTrue (mark_within m n) → IsTrue (is_yes m) → IsTrue (is_yes n)
yes-kept marked_yes n h k = h
yes-kept marked_no n h k = absurd (true≢false (sym k))
yes-kept unmarked n h k = absurd (true≢false (sym k))

no-kept : (m n : Mark) → IsTrue (mark_within m n) → IsTrue (is_no m) → IsTrue (is_no n)
no-kept marked_no n h k = h
no-kept marked_yes n h k = absurd (true≢false (sym k))
no-kept unmarked n h k = absurd (true≢false (sym k))

-- each yes of the marks that cover is one of the others, and each no
pub yes_within : (ms ns : List Mark) → IsTrue (marks_within ms ns) → (j : ℕ) → IsTrue (is_yes (mark_at ms j)) → IsTrue (is_yes (mark_at ns j))
yes_within [] ns h j k = absurd (true≢false (sym k))
yes_within (m ∷ ms) [] h j k = absurd (true≢false (sym h))
yes_within (m ∷ ms) (n ∷ ns) h zero k = yes-kept m n (both_true (mark_within m n) (marks_within ms ns) h).0 k
yes_within (m ∷ ms) (n ∷ ns) h (suc j) k = yes_within ms ns (both_true (mark_within m n) (marks_within ms ns) h).1 j k

pub no_within : (ms ns : List Mark) → IsTrue (marks_within ms ns) → (j : ℕ) → IsTrue (is_no (mark_at ms j)) → IsTrue (is_no (mark_at ns j))
no_within [] ns h j k = absurd (true≢false (sym k))
no_within (m ∷ ms) [] h j k = absurd (true≢false (sym h))
no_within (m ∷ ms) (n ∷ ns) h zero k = no-kept m n (both_true (mark_within m n) (marks_within ms ns) h).0 k
no_within (m ∷ ms) (n ∷ ns) h (suc j) k = no_within ms ns (both_true (mark_within m n) (marks_within ms ns) h).1 j k

-- ---- marks of the code

pub map_set : {X Y : Type 0} (f : X → Y) (xs : List X) (i : ℕ) (x : X) → map f (slice_set xs i x) ≡ slice_set (map f xs) i (f x)
map_set f [] i x = refl
map_set f (y ∷ xs) zero x = refl
map_set f (y ∷ xs) (suc i) x = ap (λ ys. f y ∷ ys) (map_set f xs i x)

pub map_replicate : {X Y : Type 0} (f : X → Y) (n : ℕ) (x : X) → map f (replicate n x) ≡ replicate n (f x)
map_replicate f zero x = refl
map_replicate f (suc n) x = ap (λ ys. f x ∷ ys) (map_replicate f n x)

take-none : {X : Type 0} (n : ℕ) (xs : List X) → xs ≡ [] → take n xs ≡ xs
take-none zero xs e = sym e
take-none (suc n) [] e = refl
take-none (suc n) (x ∷ xs) e = cc

-- a list that is filled up from nothing
pub filled : {X Y : Type 0} (f : X → Y) (n m : ℕ) (xs ys : List X) (x : X) → xs ≡ [] → m ≡ 0 → ys ≡ take n xs ++ replicate (n - m) x → map f ys ≡ replicate n (f x)
filled {X} f n m xs ys x none start h =
    let count : n - m ≡ n = omega (arith, start) in
    ap (map f) (h ∙ ap₂ (λ (zs : List X) (k : ℕ). zs ++ replicate k x) (take-none n xs none ∙ none) count) ∙ map_replicate f n x
