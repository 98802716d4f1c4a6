-- The state of a reader of lines.
use Rattle.std.specs.Prelude.{ℕ, List, Bool}

-- the bytes that were fed and not yet answered, and whether the input ended
pub record Reading : Type 0 where
  pub unread : List ℕ
  pub ended : Bool
