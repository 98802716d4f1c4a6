-- What holds at a margin, or at a delta, whatever else the loosenings are.
use Rattle.std.specs.Prelude.{◌≡◌, ℕ}
use Rattle.cover_model.specs.State.{Loosenings}

-- of all loosenings with this margin
abbrev pub AtMargin : ℕ → (Loosenings → Type 0) → Type 0
AtMargin margin_bits P = (s : Loosenings) → s.margin_bits ≡ margin_bits → P s

-- of all loosenings with this delta
abbrev pub AtDelta : ℕ → (Loosenings → Type 0) → Type 0
AtDelta delta_bits P = (s : Loosenings) → s.delta_bits ≡ delta_bits → P s
