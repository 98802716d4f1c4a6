-- Truth values as numbers.
use Rattle.std.specs.Prelude.{ℕ, Bool, true, false}

-- 1 where it is true, and else 0
abbrev pub bit_of : Bool → ℕ
bit_of true = 1
bit_of false = 0
