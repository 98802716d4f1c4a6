-- Narrowed spaces.
use Rattle.std.proofs.Common.{◌≡◌, [], ◌∷◌, length, IsTrue, refl, sym, arith, true≢false}
use Rattle.dyadic.proofs.Equal.{both_true}
use Rattle.interval_model.specs.Space.{Space, domain_within, space_within}

pub within_length : (a b : Space) → IsTrue (space_within a b) → length a ≡ length b
within_length [] [] h = refl
within_length (d ∷ a) (e ∷ b) h = let k = within_length a b (both_true (domain_within d e) (space_within a b) h).1 in omega (arith, k)
within_length [] (e ∷ b) h = absurd (true≢false (sym h))
within_length (d ∷ a) [] h = absurd (true≢false (sym h))
