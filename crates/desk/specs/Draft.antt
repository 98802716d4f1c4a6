-- What stands in a draft.
use Rattle.std.specs.Prelude.{◌≡◌, ℕ, List, []}
use Rattle.std.specs.Option.{option_map}
use Rattle.desk.specs.Sight.{Sight}

-- the same sight, with this text in the draft
abbrev pub drafted : Sight → List ℕ → Sight
drafted d text = record d { draft = option_map (λ written. text) d.cert_out }

-- since the first sight this text was drafted, and nothing else changed
abbrev pub IsDrafted : Sight → List ℕ → Sight → Type 0
IsDrafted old text new = new ≡ drafted old text

-- the draft is empty
abbrev pub IsBegun : Sight → Type 0
IsBegun d = IsDrafted d [] d
