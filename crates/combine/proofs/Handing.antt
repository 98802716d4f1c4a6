-- What is handed down, place by place.
use Rattle.std.proofs.Common.{◌≡◌, ◌≢◌, ℕ, Bool, true, false, cond, Some, nat_eq, eqb-true, eq-eqb, refl, subst, ◌∙◌}
use Rattle.interval_model.specs.Interval.{Interval}
use Rattle.cover_model.specs.Combination.{Adjoints, joined, handed}
use Rattle.cover_model.proofs.CombinationConstants.{handed_alike}

pub handed_at : (os new : Adjoints) (a : ℕ) (i : Interval) → new a ≡ Some (joined (os a) i) → ((k : ℕ) → k ≢ a → new k ≡ os k) → (k : ℕ) → new k ≡ handed a i os k
handed_at os new a i at others k = go (nat_eq k a) (λ h. eqb-true k a h) (λ h e. let t : nat_eq k a ≡ true = eq-eqb k a e in cc)
  where
    go : (t : Bool) → (t ≡ true → k ≡ a) → (t ≡ false → k ≢ a) → new k ≡ cond t (Some (joined (os k) i)) (os k)
    go true p q = subst (λ (j : ℕ). new j ≡ Some (joined (os j) i)) (let e : a ≡ k = cc (p refl) in e) at
    go false p q = others k (q refl)

pub handed_twice : (a b : ℕ) (i j : Interval) (os mid new : Adjoints) → ((k : ℕ) → mid k ≡ handed a i os k) → ((k : ℕ) → new k ≡ handed b j mid k) → (k : ℕ) → new k ≡ handed b j (handed a i os) k
handed_twice a b i j os mid new f g k = g k ∙ handed_alike b j mid (handed a i os) k (f k)
