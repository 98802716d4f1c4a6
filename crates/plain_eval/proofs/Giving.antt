-- Coefficients that are given, as a function of the nodes.
use Rattle.std.proofs.Common.{◌≡◌, ◌≢◌, ℕ, Bool, true, false, cond, Some, nat_eq, eqb-true, eq-eqb, refl, subst}
use mathlib.Core.Path.{fun_ext}
use Rattle.interval_model.specs.Interval.{Interval}
use Rattle.cover_model.specs.Combination.{Adjoints, joined, handed}

pub handed_is : (os new : Adjoints) (a : ℕ) (i : Interval) → new a ≡ Some (joined (os a) i) → ((k : ℕ) → k ≢ a → new k ≡ os k) → new ≡ handed a i os
handed_is os new a i at others = fun_ext (λ k. go k (nat_eq k a) (λ h. eqb-true k a h) (λ h e. let t : nat_eq k a ≡ true = eq-eqb k a e in cc))
  where
    go : (k : ℕ) (t : Bool) → (t ≡ true → k ≡ a) → (t ≡ false → k ≢ a) → new k ≡ cond t (Some (joined (os k) i)) (os k)
    go k true p q = subst (λ (j : ℕ). new j ≡ Some (joined (os j) i)) (let e : a ≡ k = cc (p refl) in e) at
    go k false p q = others k (q refl)
