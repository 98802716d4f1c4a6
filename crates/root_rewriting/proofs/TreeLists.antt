-- Lists with more behind them.
use Rattle.std.proofs.Common.{◌≡◌, ℕ, zero, suc, ◌-◌, ◌<◌, ◌≤◌, arith, List, [], ◌∷◌, ◌++◌, length, length-append, take, drop, Some, None, refl, ap, sym, ◌∙◌, ◌⊎◌, inl, inr, get_or}
use Rattle.std.specs.Prelude.{slice_get}
use Rattle.std.proofs.Math.Seq.{take-length}
use Rattle.std.proofs.lemmas.Option.{slice_get_cases, slice_get_within}

pub get_before : {X : Type 0} (xs ys : List X) (k : ℕ) (x : X) → slice_get xs k ≡ Some x → slice_get (xs ++ ys) k ≡ Some x
get_before [] ys k x h = cc
get_before (y ∷ xs) ys zero x h = h
get_before (y ∷ xs) ys (suc k) x h = get_before xs ys k x h

pub get_end : {X : Type 0} (xs : List X) (x : X) → slice_get (xs ++ (x ∷ [])) (length xs) ≡ Some x
get_end [] x = refl
get_end (y ∷ xs) x = get_end xs x

pub get_longer : {A : Type 0} (xs ys : List A) (n : ℕ) → n < length xs → slice_get (xs ++ ys) n ≡ slice_get xs n
get_longer xs ys n h = go (slice_get_cases xs n).1
  where
    go : (((x : _) × (n < length xs) × (slice_get xs n ≡ Some x) × (get_or xs n x ≡ x)) ⊎ ((length xs ≤ n) × (slice_get xs n ≡ None))) → slice_get (xs ++ ys) n ≡ slice_get xs n
    go (inl c) = get_before xs ys n c.0 c.2 ∙ sym c.2
    go (inr c) = let absurd : ⊥ = omega (arith, h, c.0) in elim absurd [ ]

pub get_cases : {A : Type 0} (xs : List A) (x : A) (i : ℕ) (y : A) → slice_get (xs ++ (x ∷ [])) i ≡ Some y → (slice_get xs i ≡ Some y) ⊎ ((i ≡ length xs) × (x ≡ y))
get_cases xs x i y h = go (slice_get_cases xs i).1
  where
    go : (((z : _) × (i < length xs) × (slice_get xs i ≡ Some z) × (get_or xs i z ≡ z)) ⊎ ((length xs ≤ i) × (slice_get xs i ≡ None))) → (slice_get xs i ≡ Some y) ⊎ ((i ≡ length xs) × (x ≡ y))
    go (inl c) = inl (sym (get_longer xs (x ∷ []) i c.1) ∙ h)
    go (inr c) =
        let l = slice_get_within (xs ++ (x ∷ [])) i y h in
        let at : i ≡ length xs = omega (arith, l, c.0, length-append xs (x ∷ [])) in
        let found : Some x ≡ Some y = sym (get_end xs x) ∙ ap (slice_get (xs ++ (x ∷ []))) (sym at) ∙ h in
        inr (at, cc found)

pub none_left : {X : Type 0} (xs : List X) → length xs < 1 → xs ≡ []
none_left [] h = refl
none_left (x ∷ xs) h = let no : ⊥ = omega (arith, h) in elim no [ ]

-- a list that is not empty
pub first_of_some : (xs : List ℕ) → 1 ≤ length xs → xs ≡ get_or xs 0 0 ∷ take (length xs - 1) (drop 1 xs)
first_of_some [] h = let none : ⊥ = omega (arith, h) in elim none [ ]
first_of_some (x ∷ xs) h =
    let count : suc (length xs) - 1 ≡ length xs = omega arith in
    ap (λ ys. x ∷ ys) (sym (ap (λ n. take n xs) count ∙ take-length xs))

pub only_one : (xs : List ℕ) → 1 ≤ length xs → length xs < 2 → xs ≡ get_or xs 0 0 ∷ []
only_one [] h g = let none : ⊥ = omega (arith, h) in elim none [ ]
only_one (x ∷ []) h g = refl
only_one (x ∷ y ∷ xs) h g = let none : ⊥ = omega (arith, g) in elim none [ ]
