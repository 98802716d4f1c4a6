-- Lists with more at their end.
use Rattle.std.proofs.Common.{◌≡◌, ℕ, suc, zero, ◌<◌, List, [], ◌∷◌, ◌++◌, map, length, Some, refl, ap, arith, slice_index_or}
use Rattle.std.specs.Prelude.{slice_get, All}

pub get_index : {X : Type 0} (xs : List X) (k : ℕ) (x d : X) → slice_get xs k ≡ Some x → slice_index_or xs k d ≡ x
get_index [] k x d h = cc
get_index (y ∷ xs) zero x d h = cc
get_index (y ∷ xs) (suc k) x d h = get_index xs k x d h

pub index_get : {X : Type 0} (xs : List X) (k : ℕ) (d : X) → k < length xs → slice_get xs k ≡ Some (slice_index_or xs k d)
index_get [] k d h = absurd (omega (arith, h))
index_get (y ∷ xs) zero d h = refl
index_get (y ∷ xs) (suc k) d h = index_get xs k d (omega (arith, h))

pub get_below : {X : Type 0} (xs : List X) (k : ℕ) (x : X) → slice_get xs k ≡ Some x → k < length xs
get_below [] k x h = cc
get_below (y ∷ xs) zero x h = omega arith
get_below (y ∷ xs) (suc k) x h = omega (arith, get_below xs k x h)

pub get_before : {X : Type 0} (xs ys : List X) (k : ℕ) (x : X) → slice_get xs k ≡ Some x → slice_get (xs ++ ys) k ≡ Some x
get_before [] ys k x h = cc
get_before (y ∷ xs) ys zero x h = h
get_before (y ∷ xs) ys (suc k) x h = get_before xs ys k x h

pub index_before : {X : Type 0} (xs ys : List X) (k : ℕ) (d : X) → k < length xs → slice_index_or (xs ++ ys) k d ≡ slice_index_or xs k d
index_before [] ys k d h = absurd (omega (arith, h))
index_before (y ∷ xs) ys zero d h = refl
index_before (y ∷ xs) ys (suc k) d h = index_before xs ys k d (omega (arith, h))

pub get_end : {X : Type 0} (xs : List X) (x : X) → slice_get (xs ++ (x ∷ [])) (length xs) ≡ Some x
get_end [] x = refl
get_end (y ∷ xs) x = get_end xs x

pub map_end : {X Y : Type 0} (f : X → Y) (xs : List X) (x : X) → map f (xs ++ (x ∷ [])) ≡ map f xs ++ (f x ∷ [])
map_end f [] x = refl
map_end f (y ∷ xs) x = ap (λ ys. f y ∷ ys) (map_end f xs x)

pub stood : {X : Type 0} (xs : List X) (k : ℕ) → k < length xs → (x : X) × (slice_get xs k ≡ Some x)
stood [] k h = absurd (omega (arith, h))
stood (x ∷ xs) zero h = (x, refl)
stood (x ∷ xs) (suc k) h = stood xs k (omega (arith, h))

pub all_head : {X : Type 0} (P : X → Type 0) (x : X) (xs : List X) → All P (x ∷ xs) → P x
all_head P x xs h = h zero x (omega arith)

pub all_tail : {X : Type 0} (P : X → Type 0) (x : X) (xs : List X) → All P (x ∷ xs) → All P xs
all_tail P x xs h = λ k d b. h (suc k) d (omega (arith, b))

pub all_end : {X : Type 0} (P : X → Type 0) (xs : List X) (x : X) → All P xs → P x → All P (xs ++ (x ∷ []))
all_end P [] x h p zero d b = p
all_end P [] x h p (suc k) d b = absurd (omega (arith, b))
all_end P (y ∷ xs) x h p zero d b = all_head P y xs h
all_end P (y ∷ xs) x h p (suc k) d b = all_end P xs x (all_tail P y xs h) p k d (omega (arith, b))

pub all_more : {X : Type 0} (P Q : X → Type 0) (xs : List X) → ((x : X) → P x → Q x) → All P xs → All Q xs
all_more P Q xs f h = λ k d b. f (slice_index_or xs k d) (h k d b)

pub nil_of : {X : Type 0} (xs : List X) → length xs ≡ 0 → xs ≡ []
nil_of [] h = refl
nil_of (x ∷ xs) h = absurd (omega (arith, h))
