-- The names that a `let` or a call binds.
use Rattle.std.specs.Prelude.{◌≡◌, ℕ, List, [], ◌∷◌, ◌++◌, Option, Some, None, cond}
use Rattle.std.specs.Borrow.{Bor}
use Rattle.std.specs.HashMap.{HashMap, get_by}
use Rattle.std.specs.Str.{bytes_eq}
use Rattle.value_build.specs.declared.value.Value.{Value}
use Rattle.problem_build.specs.declared.locals.Local.{Local}

-- the value of the first local of this name
abbrev pub local_value : List ℕ → List Local → Option Value
local_value x [] = None
local_value x (l ∷ rest) = cond (bytes_eq x l.name.now) (Some l.value) (local_value x rest)

-- the map has the value of the first of each name
pub record IsIndexed {S : Type 0} (ls : List Local) (first : HashMap (Bor (List ℕ)) Value S) : Type 0 where
  pub values : (x : List ℕ) → get_by (λ k. bytes_eq x k.now) first ≡ local_value x ls

-- the names of several levels, the nearest first
abbrev pub all_levels : List (List Local) → List Local
all_levels [] = []
all_levels (ls ∷ rest) = ls ++ all_levels rest
