-- Changes that are gathered place by place, and made one after the other.
use Rattle.std.proofs.Common.{◌≡◌, ℕ, zero, suc, ◌+◌, ◌<◌, ◌≤◌, List, [], ◌∷◌, ◌++◌, length, take, drop, get_or, set, append-nil, refl, ap, sym, ◌∙◌, arith}
use Rattle.std.proofs.lemmas.List.{drop_more, drop_all, take_all, length-set}
use Rattle.cert_check.specs.Changed.{placed}

module _ {A B : Type 0} (f : A → B) where
  -- one more change
  pub placed_more : (cs : List (ℕ × A)) (c : ℕ × A) (xs : List B) → placed f (cs ++ (c ∷ [])) xs ≡ set (placed f cs xs) c.0 (f c.1)
  placed_more [] c xs = refl
  placed_more (b ∷ cs) c xs = placed_more cs c (set xs b.0 (f b.1))

  pub length_placed : (cs : List (ℕ × A)) (xs : List B) → length (placed f cs xs) ≡ length xs
  length_placed [] xs = refl
  length_placed (c ∷ cs) xs = length_placed cs (set xs c.0 (f c.1)) ∙ length-set xs c.0 (f c.1)

  -- the loop over changes
  pub placed_next : (cs : List (ℕ × A)) (xs : List B) (k : ℕ) (c : ℕ × A) → k < length cs → placed f (drop k cs) xs ≡ placed f (drop (k + 1) cs) (set xs (get_or cs k c).0 (f (get_or cs k c).1))
  placed_next cs xs k c h = ap (λ (ds : List (ℕ × A)). placed f ds xs) (drop_more cs k c h)

  pub placed_done : (cs : List (ℕ × A)) (xs : List B) (k : ℕ) → length cs ≤ k → placed f (drop k cs) xs ≡ xs
  placed_done cs xs k h = ap (λ (ds : List (ℕ × A)). placed f ds xs) (drop_all k cs h)

-- the first places of a list, and the others of another one
abbrev pub joined : {B : Type 0} (n : ℕ) (xs ys : List B) → List B
joined n xs ys = take n ys ++ drop n xs

module _ {B : Type 0} where
  joined-same : (n : ℕ) (xs ys : List B) (d e : B) → n < length xs → length xs ≡ length ys → get_or xs n d ≡ get_or ys n e → joined n xs ys ≡ joined (suc n) xs ys
  joined-same n [] ys d e h l g = absurd (omega (arith, h))
  joined-same n (x ∷ xs) [] d e h l g = absurd (omega (arith, l))
  joined-same zero (x ∷ xs) (y ∷ ys) d e h l g = ap (λ (z : B). z ∷ xs) g
  joined-same (suc n) (x ∷ xs) (y ∷ ys) d e h l g = ap (λ (zs : List B). y ∷ zs) (joined-same n xs ys d e (omega (arith, h)) (omega (arith, l)) g)

  joined-set : (n : ℕ) (xs ys : List B) (d : B) → n < length xs → length xs ≡ length ys → set (joined n xs ys) n (get_or ys n d) ≡ joined (suc n) xs ys
  joined-set n [] ys d h l = absurd (omega (arith, h))
  joined-set n (x ∷ xs) [] d h l = absurd (omega (arith, l))
  joined-set zero (x ∷ xs) (y ∷ ys) d h l = refl
  joined-set (suc n) (x ∷ xs) (y ∷ ys) d h l = ap (λ (zs : List B). y ∷ zs) (joined-set n xs ys d (omega (arith, h)) (omega (arith, l)))

  joined-all : (n : ℕ) (xs ys : List B) → length xs ≤ n → length ys ≤ n → joined n xs ys ≡ ys
  joined-all n xs ys h l = ap (λ (zs : List B). take n ys ++ zs) (drop_all n xs h) ∙ append-nil (take n ys) ∙ take_all n ys l

module _ {A B : Type 0} (f : A → B) where
  -- the place is the same in both
  pub same_step : (cs : List (ℕ × A)) (n : ℕ) (a b : A) (xs ys : List B) → placed f cs xs ≡ joined n xs ys → n < length ys → length xs ≡ length ys →
      f a ≡ get_or xs n (f a) → f b ≡ get_or ys n (f b) → f a ≡ f b → placed f cs xs ≡ joined (n + 1) xs ys
  same_step cs n a b xs ys e h l x y s =
      let next : suc n ≡ n + 1 = omega arith in
      e ∙ joined-same n xs ys (f a) (f b) (omega (arith, h, l)) l (sym x ∙ s ∙ y) ∙ ap (λ (k : ℕ). joined k xs ys) next

  -- it is another one
  pub other_step : (cs new : List (ℕ × A)) (n : ℕ) (b : A) (xs ys : List B) → placed f cs xs ≡ joined n xs ys → n < length ys → length xs ≡ length ys →
      f b ≡ get_or ys n (f b) → new ≡ cs ++ ((n, b) ∷ []) → placed f new xs ≡ joined (n + 1) xs ys
  other_step cs new n b xs ys e h l y s =
      let next : suc n ≡ n + 1 = omega arith in
      ap (λ (ds : List (ℕ × A)). placed f ds xs) s ∙ placed_more f cs (n, b) xs ∙ ap (λ (zs : List B). set zs n (f b)) e
      ∙ ap (λ (z : B). set (joined n xs ys) n z) y ∙ joined-set n xs ys (f b) (omega (arith, h, l)) l ∙ ap (λ (k : ℕ). joined k xs ys) next

  pub last_step : (cs : List (ℕ × A)) (n : ℕ) (xs ys : List B) → placed f cs xs ≡ joined n xs ys → length ys ≤ n → length xs ≡ length ys → placed f cs xs ≡ ys
  last_step cs n xs ys e h l = e ∙ joined-all n xs ys (omega (arith, h, l)) h
