-- A function of each element of two rows that differ in one place at most.
use Rattle.std.proofs.Common.{◌≡◌, ◌≢◌, ℕ, zero, suc, ◌<◌, List, [], ◌∷◌, length, set, get_or, map, replicate, refl, arith}

module _ {A B : Type 0} where
  pub map_alike : (f : A → B) (xs ys : List A) → length ys ≡ length xs → ((j : ℕ) (d : A) → j < length xs → f (get_or ys j d) ≡ f (get_or xs j d)) → map f ys ≡ map f xs
  map_alike f [] [] len same = refl
  map_alike f [] (y ∷ ys) len same = absurd (omega arith)
  map_alike f (x ∷ xs) [] len same = absurd (omega arith)
  map_alike f (x ∷ xs) (y ∷ ys) len same =
      let head : f y ≡ f x = same 0 x (omega arith) in
      let tail : map f ys ≡ map f xs = map_alike f xs ys (omega arith) (λ j d h. same (suc j) d (omega arith)) in
      λ i. head i ∷ tail i

  pub map_one : (f : A → B) (xs ys : List A) (k : ℕ) (z : B) → length ys ≡ length xs → k < length xs → ((d : A) → f (get_or ys k d) ≡ z) → ((j : ℕ) (d : A) → j < length xs → j ≢ k → f (get_or ys j d) ≡ f (get_or xs j d)) → map f ys ≡ set (map f xs) k z
  map_one f [] ys k z len inside here others = absurd (omega arith)
  map_one f (x ∷ xs) [] k z len inside here others = absurd (omega arith)
  map_one f (x ∷ xs) (y ∷ ys) zero z len inside here others =
      let head : f y ≡ z = here x in
      let tail : map f ys ≡ map f xs = map_alike f xs ys (omega arith) (λ j d h. others (suc j) d (omega arith) (λ e. omega arith)) in
      λ i. head i ∷ tail i
  map_one f (x ∷ xs) (y ∷ ys) (suc k) z len inside here others =
      let head : f y ≡ f x = others 0 x (omega arith) (λ e. omega arith) in
      let tail : map f ys ≡ set (map f xs) k z = map_one f xs ys k z (omega arith) (omega arith) here (λ j d h ne. others (suc j) d (omega arith) (λ e. ne (omega arith))) in
      λ i. head i ∷ tail i

  -- each element gives z
  pub map_all : (f : A → B) (xs : List A) (z : B) → ((j : ℕ) (d : A) → j < length xs → f (get_or xs j d) ≡ z) → map f xs ≡ replicate (length xs) z
  map_all f [] z each = refl
  map_all f (x ∷ xs) z each =
      let head : f x ≡ z = each 0 x (omega arith) in
      let tail : map f xs ≡ replicate (length xs) z = map_all f xs z (λ j d h. each (suc j) d (omega arith)) in
      λ i. head i ∷ tail i

module _ {A B C : Type 0} where
  -- two rows that give the same
  pub map_two : (f : A → C) (g : B → C) (xs : List A) (ys : List B) → length ys ≡ length xs → ((j : ℕ) (d : A) (e : B) → j < length xs → g (get_or ys j e) ≡ f (get_or xs j d)) → map g ys ≡ map f xs
  map_two f g [] [] len same = refl
  map_two f g [] (y ∷ ys) len same = absurd (omega arith)
  map_two f g (x ∷ xs) [] len same = absurd (omega arith)
  map_two f g (x ∷ xs) (y ∷ ys) len same =
      let head : g y ≡ f x = same 0 x y (omega arith) in
      let tail : map g ys ≡ map f xs = map_two f g xs ys (omega arith) (λ j d e h. same (suc j) d e (omega arith)) in
      λ i. head i ∷ tail i
