-- Lists by places.
use Rattle.std.proofs.Common.{◌≡◌, ℕ, zero, suc, ◌+◌, ◌<◌, List, [], ◌∷◌, ◌++◌, map, take, length, get_or, Some, refl, ap, sym, ◌∙◌, arith}
use Rattle.std.specs.Prelude.{slice_get}
use Rattle.std.proofs.lemmas.List.{length-map, take_more}
use Rattle.std.proofs.lemmas.Option.{slice_get_within, slice_get-get_or}

module _ {A B : Type 0} (f : A → B) where
  -- f of the element at a place; behind the end f of what stands for none
  pub map_at : (xs : List A) (k : ℕ) (d : A) → get_or (map f xs) k (f d) ≡ f (get_or xs k d)
  map_at [] k d = refl
  map_at (x ∷ xs) zero d = refl
  map_at (x ∷ xs) (suc k) d = map_at xs k d

  -- one more element is done
  pub map_done : (xs : List A) (done : List B) (k : ℕ) (x : A) (y : B) → slice_get xs k ≡ Some x → done ≡ take k (map f xs) → y ≡ f x → done ++ (y ∷ []) ≡ take (k + 1) (map f xs)
  map_done xs done k x y is e g =
      let within : k < length xs = slice_get_within xs k x is in
      let there : Some (get_or xs k x) ≡ Some x = sym (slice_get-get_or xs k x within) ∙ is in
      let same : get_or xs k x ≡ x = cc there in
      ap (λ ys. ys ++ (y ∷ [])) e ∙ ap (λ z. take k (map f xs) ++ (z ∷ [])) (g ∙ ap f (sym same) ∙ sym (map_at xs k x)) ∙
      sym (take_more (map f xs) k (f x) (omega (arith, within, length-map xs f)))

  take-whole : (ys : List B) (k : ℕ) → length ys < k + 1 → take k ys ≡ ys
  take-whole [] zero l = refl
  take-whole [] (suc k) l = refl
  take-whole (y ∷ ys) zero l = absurd (omega (arith, l))
  take-whole (y ∷ ys) (suc k) l = ap (λ zs. y ∷ zs) (take-whole ys k (omega (arith, l)))

  pub all_done : (xs : List A) (done : List B) (k n : ℕ) → done ≡ take k (map f xs) → n ≡ length xs → n < k + 1 → done ≡ map f xs
  all_done xs done k n e g h = e ∙ take-whole (map f xs) k (omega (arith, g, h, length-map xs f))
