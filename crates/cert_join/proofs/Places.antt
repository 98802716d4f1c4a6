-- Places in several certificates: one of them, and another in its stead.
use Rattle.std.proofs.Common.{◌≡◌, ◌≢◌, ◌<◌, ◌≤◌, ◌+◌, ℕ, zero, suc, List, [], ◌∷◌, Some, None, length, drop, get_or, slice_set, refl, ap, ◌∙◌, subst, arith}
use Rattle.std.specs.List.{slice_get}
use Rattle.cert_join.specs.Ahead.{AreBefore}
use Rattle.cert_join.specs.Spot.{Spot, IsBefore}

-- the certificate whose lines these are stands before them
pub before_at : (certs : List (List ℕ)) (lines : List (List (List ℕ))) (spots : List Spot) (i : ℕ) (ls : List (List ℕ)) → AreBefore certs lines spots
    → slice_get lines i ≡ Some ls → (s : Spot) × (slice_get spots i ≡ Some s) × IsBefore (get_or certs i []) ls s
before_at [] [] [] i ls b e = absurd (let none : None ≡ Some ls = e in cc)
before_at (cert ∷ certs) (ks ∷ lines) (s ∷ spots) zero ls b e = let same : ks ≡ ls = cc in (s, refl, subst (λ (l : List (List ℕ)). IsBefore cert l s) same b.0)
before_at (cert ∷ certs) (ks ∷ lines) (s ∷ spots) (suc i) ls b e = before_at certs lines spots i ls b.1 e
before_at [] [] (s ∷ spots) i ls b e = absurd b
before_at [] (ks ∷ lines) spots i ls b e = absurd b
before_at (cert ∷ certs) [] spots i ls b e = absurd b
before_at (cert ∷ certs) (ks ∷ lines) [] i ls b e = absurd b

-- it may stand before others
pub before_set : (certs : List (List ℕ)) (lines : List (List (List ℕ))) (spots : List Spot) (i : ℕ) (ls : List (List ℕ)) (s : Spot) → AreBefore certs lines spots
    → IsBefore (get_or certs i []) ls s → AreBefore certs (slice_set lines i ls) (slice_set spots i s)
before_set [] [] [] i ls s b h = tt
before_set (cert ∷ certs) (ks ∷ lines) (r ∷ spots) zero ls s b h = (h, b.1)
before_set (cert ∷ certs) (ks ∷ lines) (r ∷ spots) (suc i) ls s b h = (b.0, before_set certs lines spots i ls s b.1 h)
before_set [] [] (r ∷ spots) i ls s b h = absurd b
before_set [] (ks ∷ lines) spots i ls s b h = absurd b
before_set (cert ∷ certs) [] spots i ls s b h = absurd b
before_set (cert ∷ certs) (ks ∷ lines) [] i ls s b h = absurd b

-- ---- lists in which one element is another

pub get_set_same : {X : Type 0} → (xs : List X) (i : ℕ) (x y : X) → slice_get xs i ≡ Some x → slice_get (slice_set xs i y) i ≡ Some y
get_set_same [] i x y e = absurd (let none : None ≡ Some x = e in cc)
get_set_same (z ∷ xs) zero x y e = refl
get_set_same (z ∷ xs) (suc i) x y e = get_set_same xs i x y e

pub get_set_other : {X : Type 0} → (xs : List X) (i j : ℕ) (y : X) → j ≢ i → slice_get (slice_set xs i y) j ≡ slice_get xs j
get_set_other [] i j y e = refl
get_set_other (z ∷ xs) zero zero y e = absurd (e refl)
get_set_other (z ∷ xs) zero (suc j) y e = refl
get_set_other (z ∷ xs) (suc i) zero y e = refl
get_set_other (z ∷ xs) (suc i) (suc j) y e = get_set_other xs i j y (λ h. e (ap suc h))

pub set_again : {X : Type 0} → (xs : List X) (i : ℕ) (x y : X) → slice_set (slice_set xs i x) i y ≡ slice_set xs i y
set_again [] i x y = refl
set_again (z ∷ xs) zero x y = refl
set_again (z ∷ xs) (suc i) x y = ap (λ (ys : List _). z ∷ ys) (set_again xs i x y)

-- the first of what stands from a place on
pub get_first : {X : Type 0} → (xs ys : List X) (i : ℕ) (x : X) → drop i xs ≡ x ∷ ys → (slice_get xs i ≡ Some x) × (drop (i + 1) xs ≡ ys) × (i < length xs)
get_first [] ys zero x e = absurd (let none : [] ≡ x ∷ ys = e in cc)
get_first [] ys (suc i) x e = absurd (let none : [] ≡ x ∷ ys = e in cc)
get_first {X = X} (z ∷ xs) ys zero x e = let same : z ≡ x = cc in let rest : xs ≡ ys = cc in (ap (λ (y : X). Some y) same, rest, omega arith)
get_first (z ∷ xs) ys (suc i) x e =
    let r = get_first xs ys i x e in
    let next : suc i + 1 ≡ suc (i + 1) = omega arith in
    (r.0, ap (λ (k : ℕ). drop k (z ∷ xs)) next ∙ r.1, omega (arith, r.2))

pub none_from : {X : Type 0} → (xs : List X) (i : ℕ) → drop i xs ≡ [] → length xs ≤ i
none_from [] i e = omega arith
none_from (z ∷ xs) zero e = absurd (cc)
none_from (z ∷ xs) (suc i) e = omega (arith, none_from xs i e)
