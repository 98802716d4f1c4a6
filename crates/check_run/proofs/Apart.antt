-- Texts that differ.
use Rattle.std.proofs.Common.{◌≡◌, inl, inr, ℕ, List, get_or, nat_eq, false, true≢false, ap, sym, ◌∙◌}
use Rattle.std.proofs.lemmas.Bool.Decides.{eqb_tells}

-- a byte at a place tells two texts apart
pub apart : (t u : List ℕ) (k : ℕ) → t ≡ u → nat_eq (get_or t k 0) (get_or u k 0) ≡ false → ⊥
apart t u k e f = elim (eqb_tells (get_or t k 0) (get_or u k 0)) [ inl h ↦ true≢false (sym h.0 ∙ f) | inr h ↦ h.1 (ap (λ (x : List ℕ). get_or x k 0) e) ]
