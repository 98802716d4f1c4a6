-- Elements of lists.
use Rattle.std.proofs.Common.{◌⊎◌, inl, inr, ℕ, List, [], ◌∷◌, ◌++◌, map, refl, subst}
use Rattle.script_roots.specs.TreeBounds.{EndBound, all_ends}
use Rattle.root_rewriting.specs.Sweep.{IsAmong}

module _ {A : Type 0} (x : A) where
  pub among_left : (xs ys : List A) → IsAmong x xs → IsAmong x (xs ++ ys)
  among_left [] ys h = elim h [ ]
  among_left (y ∷ xs) ys (inl e) = inl e
  among_left (y ∷ xs) ys (inr h) = inr (among_left xs ys h)

  pub among_right : (xs ys : List A) → IsAmong x ys → IsAmong x (xs ++ ys)
  among_right [] ys h = h
  among_right (y ∷ xs) ys h = inr (among_right xs ys h)

  pub among_either : (xs ys : List A) → IsAmong x (xs ++ ys) → IsAmong x xs ⊎ IsAmong x ys
  among_either [] ys h = inr h
  among_either (y ∷ xs) ys (inl e) = inl (inl e)
  among_either (y ∷ xs) ys (inr h) = elim (among_either xs ys h) [ inl k ↦ inl (inr k) | inr k ↦ inr k ]

module _ (f : ℕ → List EndBound) (e : EndBound) where
  -- an element of one of these lists
  pub among_all : (ks : List ℕ) (k : ℕ) → IsAmong k ks → IsAmong e (f k) → IsAmong e (all_ends (map f ks))
  among_all [] k h g = elim h [ ]
  among_all (j ∷ ks) k (inl i) g = among_left e (f j) (all_ends (map f ks)) (subst (λ (n : ℕ). IsAmong e (f n)) i g)
  among_all (j ∷ ks) k (inr h) g = among_right e (f j) (all_ends (map f ks)) (among_all ks k h g)

  pub record AmongOne (ks : List ℕ) : Type 0 where
    pub place : ℕ
    pub is : IsAmong place ks
    pub has : IsAmong e (f place)

  pub among_one : (ks : List ℕ) → IsAmong e (all_ends (map f ks)) → AmongOne ks
  among_one [] h = elim h [ ]
  among_one (j ∷ ks) h = elim (among_either e (f j) (all_ends (map f ks)) h) [
    | inl k ↦ record { place = j; is = inl refl; has = k }
    | inr k ↦ let r = among_one ks k in record { place = r.place; is = inr r.is; has = r.has }
  ]
