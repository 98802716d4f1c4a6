-- Lists of ids and of views.
use Rattle.std.proofs.Common.{◌≡◌, ◌≢◌, ℕ, zero, suc, ◌+◌, ◌≤◌, List, [], ◌∷◌, ◌++◌, set, refl, sym, ap, inl, inr, ⊎_elim, arith}
use mathlib.Core.Option.{some, some-injective, some-ne-none}
use lib.ListN.{get_elem?}
use Rattle.steal_pool.specs.declared.rule.DequeView.{DequeView}
use Rattle.steal_pool.specs.Law.{weigh, weigh_all, IsSub, AllSub, total}

pub weigh-append : (h : ℕ → ℕ) (xs ys : List ℕ) → weigh h (xs ++ ys) ≡ weigh h xs + weigh h ys
weigh-append h [] ys = omega arith
weigh-append h (x ∷ xs) ys = let t = weigh-append h xs ys in omega (arith, t)

pub weigh_all-append : (h : ℕ → ℕ) (xs ys : List (List ℕ)) → weigh_all h (xs ++ ys) ≡ weigh_all h xs + weigh_all h ys
weigh_all-append h [] ys = omega arith
weigh_all-append h (x ∷ xs) ys = let t = weigh_all-append h xs ys in omega (arith, t)

pub sub_more : (xs ys zs : List ℕ) → IsSub xs ys → IsSub xs (ys ++ zs)
sub_more [] ys zs s = tt
sub_more (x ∷ xs) [] zs s = absurd s
sub_more (x ∷ xs) (y ∷ ys) zs s = ⊎_elim (λ (t : (x ≡ y) × IsSub xs ys). inl (t.0, sub_more xs ys zs t.1)) (λ (t : IsSub (x ∷ xs) ys). inr (sub_more (x ∷ xs) ys zs t)) s

pub sub_refl : (xs : List ℕ) → IsSub xs xs
sub_refl [] = tt
sub_refl (x ∷ xs) = inl (refl, sub_refl xs)

sub_behind : (xs ys : List ℕ) → IsSub xs (ys ++ xs)
sub_behind [] ys = tt
sub_behind (x ∷ xs) [] = inl (refl, sub_refl xs)
sub_behind (x ∷ xs) (y ∷ ys) = inr (sub_behind (x ∷ xs) ys)

pub sub_both : (xs ys zs : List ℕ) → IsSub xs ys → IsSub (xs ++ zs) (ys ++ zs)
sub_both [] ys zs s = sub_behind zs ys
sub_both (x ∷ xs) [] zs s = absurd s
sub_both (x ∷ xs) (y ∷ ys) zs s = ⊎_elim (λ (t : (x ≡ y) × IsSub xs ys). inl (t.0, sub_both xs ys zs t.1)) (λ (t : IsSub (x ∷ xs) ys). inr (sub_both (x ∷ xs) ys zs t)) s

pub all_more : (xs : List (List ℕ)) (ys zs : List ℕ) → AllSub xs ys → AllSub xs (ys ++ zs)
all_more [] ys zs s = tt
all_more (x ∷ xs) ys zs s = (sub_more x ys zs s.0, all_more xs ys zs s.1)

pub all_append : (xs ys : List (List ℕ)) (zs : List ℕ) → AllSub xs zs → AllSub ys zs → AllSub (xs ++ ys) zs
all_append [] ys zs s t = t
all_append (x ∷ xs) ys zs s t = (s.0, all_append xs ys zs s.1 t)

pub total_set : (f : DequeView → ℕ) (vs : List DequeView) (j : ℕ) (v w : DequeView) → get_elem? vs j ≡ some v → total f (set vs j w) + f v ≡ total f vs + f w
total_set f [] j v w e = absurd (some-ne-none v (sym e))
total_set f (x ∷ vs) zero v w e = let same : f x ≡ f v = ap f (some-injective x v e) in omega arith
total_set f (x ∷ vs) (suc j) v w e = let t = total_set f vs j v w e in omega (arith, t)

pub total_snoc : (f : DequeView → ℕ) (vs : List DequeView) (w : DequeView) → total f (vs ++ w ∷ []) ≡ total f vs + f w
total_snoc f [] w = omega arith
total_snoc f (x ∷ vs) w = let t = total_snoc f vs w in omega (arith, t)

pub total_ge : (f : DequeView → ℕ) (vs : List DequeView) (j : ℕ) (v : DequeView) → get_elem? vs j ≡ some v → f v ≤ total f vs
total_ge f [] j v e = absurd (some-ne-none v (sym e))
total_ge f (x ∷ vs) zero v e = let same : f x ≡ f v = ap f (some-injective x v e) in omega arith
total_ge f (x ∷ vs) (suc j) v e = let t = total_ge f vs j v e in omega (arith, t)

pub total_two : (f : DequeView → ℕ) (vs : List DequeView) (i j : ℕ) (v w : DequeView) → i ≢ j → get_elem? vs i ≡ some v → get_elem? vs j ≡ some w → f v + f w ≤ total f vs
total_two f [] i j v w n a b = absurd (some-ne-none v (sym a))
total_two f (x ∷ vs) zero zero v w n a b = absurd (n refl)
total_two f (x ∷ vs) zero (suc j) v w n a b = let same : f x ≡ f v = ap f (some-injective x v a) in let t = total_ge f vs j w b in omega (arith, t)
total_two f (x ∷ vs) (suc i) zero v w n a b = let same : f x ≡ f w = ap f (some-injective x w b) in let t = total_ge f vs i v a in omega (arith, t)
total_two f (x ∷ vs) (suc i) (suc j) v w n a b = let t = total_two f vs i j v w (λ e. n (ap suc e)) a b in omega (arith, t)

-- where all the others are 0, the total is one's own
pub total_alone : (f : DequeView → ℕ) (vs : List DequeView) (i : ℕ) (v : DequeView) → get_elem? vs i ≡ some v → ((j : ℕ) (u : DequeView) → j ≢ i → get_elem? vs j ≡ some u → f u ≡ 0) → total f vs ≡ f v
total_alone f [] i v e others = absurd (some-ne-none v (sym e))
total_alone f (x ∷ vs) zero v e others = let same : f x ≡ f v = ap f (some-injective x v e) in let t = total_none f vs (λ j u a. others (suc j) u (λ k. omega arith) a) in omega (arith, t)
  where
    total_none : (f : DequeView → ℕ) (vs : List DequeView) → ((j : ℕ) (u : DequeView) → get_elem? vs j ≡ some u → f u ≡ 0) → total f vs ≡ 0
    total_none f [] h = refl
    total_none f (y ∷ vs) h = let a = h 0 y refl in let t = total_none f vs (λ j u e. h (suc j) u e) in omega (arith, a, t)
total_alone f (x ∷ vs) (suc i) v e others = let a = others 0 x (λ k. omega arith) refl in let t = total_alone f vs i v e (λ j u n b. others (suc j) u (λ k. n (suc_inj k)) b) in omega (arith, a, t)
  where
    suc_inj : {m n : ℕ} → suc m ≡ suc n → m ≡ n
    suc_inj e = omega arith
