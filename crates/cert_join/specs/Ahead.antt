-- Places in several certificates, each before the lines that are ahead of it.
use Rattle.std.specs.Prelude.{ℕ, List, [], ◌∷◌}
use Rattle.cert_join.specs.Spot.{Spot, IsBefore}

-- each place stands in its certificate, before its lines
abbrev pub AreBefore : List (List ℕ) → List (List (List ℕ)) → List Spot → Type 0
AreBefore [] [] [] = Unit {0}
AreBefore (cert ∷ certs) (ls ∷ lss) (s ∷ spots) = IsBefore cert ls s × AreBefore certs lss spots
AreBefore _ _ _ = ⊥
