-- Places of lists that are written and grow.
use Rattle.std.proofs.Common.{◌≡◌, ◌⊎◌, inl, inr, ℕ, zero, suc, ◌+◌, ◌<◌, List, [], ◌∷◌, ◌++◌, map, length, Some, Bool, cond, nat_eq, refl, ap, ◌∙◌, arith}
use Rattle.std.specs.Prelude.{slice_get, slice_set}
use Rattle.std.specs.List.{AllByRecursion}
use Rattle.std.proofs.lemmas.Bool.Decides.{eqb_tells}
use Rattle.std.proofs.lemmas.List.Sums.{sum_by-cons, sum_by-append}
use Rattle.cover_book.specs.Tree.{occurrences}

pub get_left : {X : Type 0} (xs ys : List X) (i : ℕ) (x : X) → slice_get xs i ≡ Some x → slice_get (xs ++ ys) i ≡ Some x
get_left [] ys i x h = cc
get_left (y ∷ xs) ys zero x h = h
get_left (y ∷ xs) ys (suc i) x h = get_left xs ys i x h

-- an element of two lists behind each other is one of the first, or one of the second
pub get_cases : {X : Type 0} (xs ys : List X) (i : ℕ) (x : X) → slice_get (xs ++ ys) i ≡ Some x → (slice_get xs i ≡ Some x) ⊎ ((k : ℕ) × (i ≡ length xs + k) × (slice_get ys k ≡ Some x))
get_cases [] ys i x h = inr (i, omega arith, h)
get_cases (y ∷ xs) ys zero x h = inl h
get_cases (y ∷ xs) ys (suc i) x h = elim (get_cases xs ys i x h) [ inl e ↦ inl e | inr e ↦ inr (e.0, omega (arith, e.1), e.2) ]

pub get_right : {X : Type 0} (xs ys : List X) (k : ℕ) → slice_get (xs ++ ys) (length xs + k) ≡ slice_get ys k
get_right [] ys k = ap (slice_get ys) (omega arith)
get_right (x ∷ xs) ys k = let e : length (x ∷ xs) + k ≡ suc (length xs + k) = omega arith in ap (slice_get (x ∷ (xs ++ ys))) e ∙ get_right xs ys k

pub set_here : {X : Type 0} (xs : List X) (i : ℕ) (x y : X) → slice_get xs i ≡ Some y → slice_get (slice_set xs i x) i ≡ Some x
set_here [] i x y h = cc
set_here (z ∷ xs) zero x y h = refl
set_here (z ∷ xs) (suc i) x y h = set_here xs i x y h

pub set_other : {X : Type 0} (xs : List X) (i j : ℕ) (x : X) → (j ≡ i → ⊥) → slice_get (slice_set xs i x) j ≡ slice_get xs j
set_other [] i j x h = refl
set_other (z ∷ xs) zero zero x h = absurd (h refl)
set_other (z ∷ xs) zero (suc j) x h = refl
set_other (z ∷ xs) (suc i) zero x h = refl
set_other (z ∷ xs) (suc i) (suc j) x h = set_other xs i j x (λ e. h (ap suc e))

pub some_at : {X : Type 0} (xs : List X) (i : ℕ) → i < length xs → (x : X) × (slice_get xs i ≡ Some x)
some_at [] i h = absurd (omega (arith, h))
some_at (x ∷ xs) zero h = (x, refl)
some_at (x ∷ xs) (suc i) h = some_at xs i (omega (arith, h))

pub get_map : {X Y : Type 0} (f : X → Y) (xs : List X) (i : ℕ) (y : Y) → slice_get (map f xs) i ≡ Some y → (x : X) × (slice_get xs i ≡ Some x) × (y ≡ f x)
get_map f [] i y h = cc
get_map f (x ∷ xs) zero y h = (x, refl, cc)
get_map f (x ∷ xs) (suc i) y h = get_map f xs i y h

-- ---- all elements

pub all_append : {X : Type 0} (P : X → Type 0) (xs ys : List X) → AllByRecursion P xs → AllByRecursion P ys → AllByRecursion P (xs ++ ys)
all_append P [] ys h k = k
all_append P (x ∷ xs) ys h k = (h.0, all_append P xs ys h.1 k)

-- ---- numbers in a list

-- one where two numbers are the same, else none
abbrev pub one_if : Bool → ℕ
one_if t = cond t 1 0

pub occurs_cons : (j i : ℕ) (is : List ℕ) → occurrences j (i ∷ is) ≡ one_if (nat_eq i j) + occurrences j is
occurs_cons j i is = sum_by-cons (λ k. one_if (nat_eq k j)) i is

pub occurs_append : (j : ℕ) (is ks : List ℕ) → occurrences j (is ++ ks) ≡ occurrences j is + occurrences j ks
occurs_append j is ks = sum_by-append (λ k. one_if (nat_eq k j)) is ks

pub same_or_other : (i j : ℕ) → ((i ≡ j) × (one_if (nat_eq i j) ≡ 1)) ⊎ ((i ≡ j → ⊥) × (one_if (nat_eq i j) ≡ 0))
same_or_other i j = elim (eqb_tells i j) [ inl e ↦ inl (e.1, ap one_if e.0) | inr e ↦ inr (e.1, ap one_if e.0) ]

pub occurs_other : (j i : ℕ) (is : List ℕ) → (i ≡ j → ⊥) → occurrences j (i ∷ is) ≡ occurrences j is
occurs_other j i is h = elim (same_or_other i j) [ inl e ↦ absurd (h e.0) | inr e ↦ omega (arith, occurs_cons j i is, e.1) ]

pub occurs_here : (j : ℕ) (is : List ℕ) → occurrences j (j ∷ is) ≡ suc (occurrences j is)
occurs_here j is = elim (same_or_other j j) [ inl e ↦ omega (arith, occurs_cons j j is, e.1) | inr e ↦ absurd (e.0 refl) ]
