-- Narrowings in another version: what is left is the same, and where the version reads the same lines, they are as lawful.
use Rattle.std.proofs.Common.{◌≡◌, ℕ, Bool, true, false, ◌&&◌, refl, ap, sym, ◌∙◌, true≢false, nat_le, nat_lt, length, cond}
use Rattle.poly_graph.specs.Problem.{Problem}
use Rattle.cover_model.specs.State.{State, Loosenings}
use Rattle.cover_model.specs.Rules.{Narrowing, by_range, by_off_range, by_combination, can_narrow, has_version_2, has_version_5, in_no_one_sided, is_combination, are_ordered, are_combinable, narrowed_to}

gated : (t u w : Bool) → (t ≡ true → u ≡ true) → (t && w) ≡ true → (u && w) ≡ true
gated true u w f h = ap (λ (x : Bool). x && w) (f refl) ∙ h
gated false u w f h = absurd (true≢false (sym h))

module _ (p : Problem) (s : Loosenings) (v : ℕ) (S : State) where
  pub narrowed_in : (n : Narrowing) → narrowed_to p (record s { version = v }) S n ≡ narrowed_to p s S n
  narrowed_in (by_range j) = refl
  narrowed_in (by_off_range j) = refl
  narrowed_in (by_combination ms) = refl

  pub can_narrow_in : (n : Narrowing) → (has_version_2 s ≡ true → nat_le 2 v ≡ true) → has_version_5 s ≡ nat_le 5 v → can_narrow p s S n ≡ true → can_narrow p (record s { version = v }) S n ≡ true
  can_narrow_in (by_range j) f g h = h
  can_narrow_in (by_off_range j) f g h = gated (has_version_2 s) (nat_le 2 v) (in_no_one_sided p S j) f h
  can_narrow_in (by_combination ms) f g h =
      let few : is_combination s ms ≡ is_combination (record s { version = v }) ms = ap (λ (t : Bool). nat_lt 0 (length ms) && nat_le (length ms) (cond t 512 64) && are_ordered ms) g in
      gated (has_version_2 s && is_combination s ms) (nat_le 2 v && is_combination (record s { version = v }) ms) (are_combinable p S ms)
      (λ k. gated (has_version_2 s) (nat_le 2 v) (is_combination (record s { version = v }) ms) f (ap (λ (t : Bool). has_version_2 s && t) (sym few) ∙ k)) h
