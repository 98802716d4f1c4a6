-- Lists with one more element, which is new.
use Rattle.std.proofs.Common.{◌≡◌, ◌⊎◌, inl, inr, ℕ, suc, zero, List, [], ◌∷◌, ◌++◌, length, Some, refl, ap, sym, ◌∙◌}
use Rattle.std.specs.Prelude.{slice_get}

pub there_or_end : {X : Type 0} (xs : List X) (x : X) (k : ℕ) (y : X) → slice_get (xs ++ (x ∷ [])) k ≡ Some y → (slice_get xs k ≡ Some y) ⊎ ((k ≡ length xs) × (x ≡ y))
there_or_end [] x zero y h = inr (refl, cc)
there_or_end [] x (suc k) y h = cc
there_or_end (z ∷ xs) x zero y h = inl h
there_or_end (z ∷ xs) x (suc k) y h = elim (there_or_end xs x k y h) [
  | inl e ↦ inl e
  | inr e ↦ inr (ap suc e.0, e.1)
]

abbrev pub Once : {X : Type 0} → List X → Type 0
Once {X} xs = (j k : ℕ) (n : X) → slice_get xs j ≡ Some n → slice_get xs k ≡ Some n → j ≡ k

pub once_end : {X : Type 0} (xs : List X) (x : X) → Once xs → ((k : ℕ) → slice_get xs k ≡ Some x → ⊥) → Once (xs ++ (x ∷ []))
once_end xs x once new j k n h i = by (there_or_end xs x j n h) (there_or_end xs x k n i)
  where
    by : (slice_get xs j ≡ Some n) ⊎ ((j ≡ length xs) × (x ≡ n)) → (slice_get xs k ≡ Some n) ⊎ ((k ≡ length xs) × (x ≡ n)) → j ≡ k
    by (inl a) (inl b) = once j k n a b
    by (inl a) (inr b) = absurd (new j (a ∙ ap (λ m. Some m) (sym b.1)))
    by (inr a) (inl b) = absurd (new k (b ∙ ap (λ m. Some m) (sym a.1)))
    by (inr a) (inr b) = a.0 ∙ sym b.0
