-- Margins: the bits of the loosenings and of the least width, and the version of the lines, which options have among others.
use Rattle.std.specs.Prelude.{◌≡◌, ◌⊎◌, ℕ, ◌<◌, ◌≤◌}
use Rattle.cover_data.specs.declared.margins.Margins.{Margins}
use Rattle.cover_data.specs.declared.margins.Options.{Options}
use Rattle.cover_model.specs.State.{Loosenings}

pub record AreMargins (m : Margins) : Type 0 where
  pub some_delta : 1 ≤ m.delta_bits
  pub few_delta : m.delta_bits ≤ 30
  pub above_delta : m.delta_bits < m.margin_bits
  pub few_margin : m.margin_bits ≤ 60
  pub few_least : m.least_bits ≤ 60
  pub version_is : (m.version ≡ 2) ⊎ (m.version ≡ 5)

-- the margins among what a search is asked for
abbrev pub margins_of : Options → Margins
margins_of o = record { delta_bits = o.delta_bits; margin_bits = o.margin_bits; least_bits = o.least_bits; version = o.version }

-- the margin, the delta and the version, as the definitions of a cover take them
abbrev pub loosenings_of : Margins → Loosenings
loosenings_of m = record { margin_bits = m.margin_bits; delta_bits = m.delta_bits; version = m.version }

-- the same bits in another version
abbrev pub margins_in : ℕ → Margins → Margins
margins_in v m = record { delta_bits = m.delta_bits; margin_bits = m.margin_bits; least_bits = m.least_bits; version = v }

abbrev pub options_in : ℕ → Options → Options
options_in v o = record o { version = v }
