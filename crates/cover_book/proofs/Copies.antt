-- Lemmas that are copied with their numbers.
use Rattle.std.proofs.Common.{◌≡◌, ℕ, zero, suc, ◌+◌, List, [], ◌∷◌, Some, length, drop, refl, ap, sym, ◌∙◌, min, arith}
use Rattle.std.specs.Prelude.{slice_get}
use Rattle.std.proofs.lemmas.List.{drop_min}
use Rattle.cover_model.specs.State.{State}
use Rattle.cover_book.specs.Model.{numbered_from}

pub numbered_drop : (i k : ℕ) (xs : List State) → drop k (numbered_from i xs) ≡ numbered_from (i + k) (drop k xs)
numbered_drop i zero xs = let e : i ≡ i + 0 = omega arith in ap (λ j. numbered_from j xs) e
numbered_drop i (suc k) [] = refl
numbered_drop i (suc k) (x ∷ xs) = let e : suc i + k ≡ i + suc k = omega arith in numbered_drop (suc i) k xs ∙ ap (λ j. numbered_from j (drop k xs)) e

pub numbered_length : (i : ℕ) (xs : List State) → length (numbered_from i xs) ≡ length xs
numbered_length i [] = refl
numbered_length i (x ∷ xs) = ap suc (numbered_length (suc i) xs)

dropped-at : (xs : List State) (i : ℕ) (S : State) → slice_get xs i ≡ Some S → drop i xs ≡ S ∷ drop (suc i) xs
dropped-at [] i S e = cc
dropped-at (x ∷ xs) zero S e = cc
dropped-at (x ∷ xs) (suc i) S e = dropped-at xs i S e

-- the next copy
pub next_copy : (i : ℕ) (xs : List State) (S : State) → slice_get xs i ≡ Some S → numbered_from i (drop i xs) ≡ record { id = i; state = S } ∷ numbered_from (i + 1) (drop (i + 1) xs)
next_copy i xs S h = ap (numbered_from i) (dropped-at xs i S h) ∙ (let e : suc i ≡ i + 1 = omega arith in ap (λ j. record { id = i; state = S } ∷ numbered_from j (drop j xs)) e)

-- from a place on, or none where there are not so many
pub copies_from : (from : ℕ) (xs : List State) → numbered_from (min from (length xs)) (drop (min from (length xs)) xs) ≡ drop from (numbered_from 0 xs)
copies_from from xs =
    let k : ℕ = min from (length xs) in
    let z : 0 + k ≡ k = omega arith in
    ap (λ j. numbered_from j (drop k xs)) (sym z) ∙ sym (numbered_drop 0 k xs)
    ∙ ap (λ n. drop (min from n) (numbered_from 0 xs)) (sym (numbered_length 0 xs)) ∙ drop_min from (numbered_from 0 xs)
