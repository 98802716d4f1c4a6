-- A list whose elements stand once, with a table that has the number of each.
use Rattle.std.proofs.Common.{◌≡◌, ◌⊎◌, inl, inr, ℕ, suc, zero, List, [], ◌∷◌, ◌++◌, map, length, Bool, true, false, cond, Some, None, refl, ap, sym, ◌∙◌, subst, arith}
use Rattle.std.proofs.lemmas.List.{length-map}
use Rattle.std.proofs.lemmas.Option.{slice_get_within}
use Rattle.std.specs.Prelude.{slice_get}
use Rattle.std.specs.HashMap.{HashMap, get, Updates}

pub at_end : {X : Type 0} (xs : List X) (x : X) → slice_get (xs ++ (x ∷ [])) (length xs) ≡ Some x
at_end [] x = refl
at_end (y ∷ xs) x = at_end xs x

before-end : {X : Type 0} (xs : List X) (x : X) (k : ℕ) (y : X) → slice_get xs k ≡ Some y → slice_get (xs ++ (x ∷ [])) k ≡ Some y
before-end [] x k y h = cc
before-end (z ∷ xs) x zero y h = h
before-end (z ∷ xs) x (suc k) y h = before-end xs x k y h

there-or-end : {X : Type 0} (xs : List X) (x : X) (k : ℕ) (y : X) → slice_get (xs ++ (x ∷ [])) k ≡ Some y → (slice_get xs k ≡ Some y) ⊎ ((k ≡ length xs) × (x ≡ y))
there-or-end [] x zero y h = inr (refl, cc)
there-or-end [] x (suc k) y h = cc
there-or-end (z ∷ xs) x zero y h = inl h
there-or-end (z ∷ xs) x (suc k) y h = elim (there-or-end xs x k y h) [
  | inl e ↦ inl e
  | inr e ↦ inr (ap suc e.0, e.1)
]

pub map_end : {X Y : Type 0} (f : X → Y) (xs : List X) (x : X) → map f (xs ++ (x ∷ [])) ≡ map f xs ++ (f x ∷ [])
map_end f [] x = refl
map_end f (y ∷ xs) x = ap (λ ys. f y ∷ ys) (map_end f xs x)

-- what stands in the list of images is the image of what stands there
image-of : {X Y : Type 0} (f : X → Y) (xs : List X) (k : ℕ) (y : Y) → slice_get (map f xs) k ≡ Some y → (x : X) × (f x ≡ y)
image-of f [] k y h = cc
image-of f (x ∷ xs) zero y h = (x, cc)
image-of f (x ∷ xs) (suc k) y h = image-of f xs k y h

some-same : {X : Type 0} (x y : X) → Some x ≡ Some y → x ≡ y
some-same x y h = cc

-- elements of the code, what they stand for, and a test that tells whether two stand for the same
module _ {N V S : Type 0} (f : N → V) (eq : N → N → Bool) (same : (a b : N) → eq a b ≡ true → f a ≡ f b) (back : (a b : N) → f a ≡ f b → eq a b ≡ true) where
  pub record IsTable (xs : List N) (numbers : HashMap N ℕ S) : Type 0 where
    pub found : (q : N) (k : ℕ) → get eq numbers q ≡ Some k → slice_get (map f xs) k ≡ Some (f q)
    pub known : (q : N) (k : ℕ) → slice_get (map f xs) k ≡ Some (f q) → get eq numbers q ≡ Some k

  -- no element stands twice
  pub once : (xs : List N) (numbers : HashMap N ℕ S) → IsTable xs numbers → (j k : ℕ) (v : V) → slice_get (map f xs) j ≡ Some v → slice_get (map f xs) k ≡ Some v → j ≡ k
  once xs numbers s j k v h i = let q = image-of f xs j v h in some-same j k (sym (s.known q.0 j (h ∙ ap (λ m. Some m) (sym q.1))) ∙ s.known q.0 k (i ∙ ap (λ m. Some m) (sym q.1)))

  -- an element that the table does not have is new
  pub absent_new : (xs : List N) (numbers : HashMap N ℕ S) (q : N) → IsTable xs numbers → get eq numbers q ≡ None → (k : ℕ) → slice_get (map f xs) k ≡ Some (f q) → ⊥
  absent_new xs numbers q s h k e = let m = s.known q k e in cc

  -- the element goes to the end, and one that stands for the same into the table
  module _ (xs : List N) (numbers after : HashMap N ℕ S) (x key : N) (is : f key ≡ f x) (s : IsTable xs numbers) (absent : get eq numbers x ≡ None) (u : Updates eq numbers after key (Some (length xs))) where
    last : length (map f xs) ≡ length xs
    last = length-map xs f

    found-by : (q : N) (k : ℕ) (t : Bool) → eq key q ≡ t → cond t (Some (length xs)) (get eq numbers q) ≡ Some k → slice_get (map f xs ++ (f x ∷ [])) k ≡ Some (f q)
    found-by q k true e h = subst (λ (j : ℕ). slice_get (map f xs ++ (f x ∷ [])) j ≡ Some (f q)) (last ∙ some-same (length xs) k h) (at_end (map f xs) (f x) ∙ ap (λ m. Some m) (sym is ∙ same key q e))
    found-by q k false e h = before-end (map f xs) (f x) k (f q) (s.found q k h)

    other : (q : N) (k : ℕ) (t : Bool) → eq key q ≡ t → slice_get (map f xs) k ≡ Some (f q) → get eq after q ≡ Some k
    other q k true h e = absurd (absent_new xs numbers x s absent k (e ∙ ap (λ m. Some m) (sym (same key q h) ∙ is)))
    other q k false h e = u.2 q h ∙ s.known q k e

    known-by : (q : N) (k : ℕ) → (slice_get (map f xs) k ≡ Some (f q)) ⊎ ((k ≡ length (map f xs)) × (f x ≡ f q)) → get eq after q ≡ Some k
    known-by q k (inl e) = other q k (eq key q) refl e
    known-by q k (inr e) = u.0 q ∙ ap (λ t. cond t (Some (length xs)) (get eq numbers q)) (back key q (is ∙ e.1)) ∙ ap (λ m. Some m) (sym (e.0 ∙ last))

    pub table_add : IsTable (xs ++ (x ∷ [])) after
    table_add = record {
      found = λ q k h. subst (λ (ys : List V). slice_get ys k ≡ Some (f q)) (sym (map_end f xs x)) (found-by q k (eq key q) refl (sym (u.0 q) ∙ h));
      known = λ q k h. known-by q k (there-or-end (map f xs) (f x) k (f q) (subst (λ (ys : List V). slice_get ys k ≡ Some (f q)) (map_end f xs x) h));
    }

  -- the last element goes, and its number out of the table
  module _ (xs : List N) (x : N) (numbers after : HashMap N ℕ S) (s : IsTable (xs ++ (x ∷ [])) numbers) (u : Updates eq numbers after x None) where
    last-is : (q : N) → eq x q ≡ true → get eq numbers q ≡ Some (length (map f xs))
    last-is q e = s.known q (length (map f xs)) (ap (λ ys. slice_get ys (length (map f xs))) (map_end f xs x) ∙ at_end (map f xs) (f x) ∙ ap (λ m. Some m) (same x q e))

    still-found : (q : N) (k : ℕ) (t : Bool) → eq x q ≡ t → cond t None (get eq numbers q) ≡ Some k → slice_get (map f xs) k ≡ Some (f q)
    still-found q k true e h = cc
    still-found q k false e h = elim (there-or-end (map f xs) (f x) k (f q) (subst (λ (ys : List V). slice_get ys k ≡ Some (f q)) (map_end f xs x) (s.found q k h))) [
      | inl i ↦ i
      | inr i ↦ let g = back x q i.1 in cc
    ]

    still-known : (q : N) (k : ℕ) (t : Bool) → eq x q ≡ t → slice_get (map f xs) k ≡ Some (f q) → get eq after q ≡ Some k
    still-known q k true e h =
        let there = s.known q k (ap (λ ys. slice_get ys k) (map_end f xs x) ∙ before-end (map f xs) (f x) k (f q) h) in
        let same-place = some-same k (length (map f xs)) (sym there ∙ last-is q e) in
        absurd (omega (arith, slice_get_within (map f xs) k (f q) h, same-place))
    still-known q k false e h = u.2 q e ∙ s.known q k (ap (λ ys. slice_get ys k) (map_end f xs x) ∙ before-end (map f xs) (f x) k (f q) h)

    pub table_cut : IsTable xs after
    table_cut = record {
      found = λ q k h. still-found q k (eq x q) refl (sym (u.0 q) ∙ h);
      known = λ q k h. still-known q k (eq x q) refl h;
    }
