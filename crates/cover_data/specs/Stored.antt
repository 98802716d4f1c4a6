-- Spaces in pieces.
use Rattle.std.specs.Prelude.{◌≡◌, ℕ, List, length, take, drop, flat_map}
use Rattle.interval_model.specs.Space.{Space as AxisDomains}
use Rattle.ival.specs.SpaceViews.{space_of}
use Rattle.ival.specs.declared.space.Space.{Space}

-- the axes of the pieces, one piece after the other
abbrev pub joined : List Space → AxisDomains
joined pieces = flat_map space_of pieces

-- the axes from this place on begin with these
abbrev pub StandsAt : AxisDomains → ℕ → AxisDomains → Type 0
StandsAt space from piece = take (length piece) (drop from space) ≡ piece
