-- Versions of the format.
use Rattle.std.specs.Prelude.{ℕ}
use Rattle.cover_model.specs.State.{Loosenings}

-- loosenings in this version: which lines it has does not depend on their bits
abbrev pub at_version : ℕ → Loosenings
at_version v = record { margin_bits = 0; delta_bits = 0; version = v }
