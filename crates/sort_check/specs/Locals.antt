-- The names that a `let` or a definition binds.
use Rattle.std.specs.Prelude.{◌≡◌, ℕ, List, [], ◌∷◌, ◌++◌, Option, Some, None, cond}
use Rattle.std.specs.Borrow.{Bor}
use Rattle.std.specs.HashMap.{HashMap, get_by}
use Rattle.std.specs.Str.{bytes_eq}
use Rattle.smt_script.specs.declared.command.Parameter.{Parameter}
use Rattle.smt_script.specs.declared.command.Sort.{Sort}

-- the sort of the first of this name
abbrev pub local_sort : List ℕ → List Parameter → Option Sort
local_sort x [] = None
local_sort x (p ∷ ps) = cond (bytes_eq x p.name.now) (Some p.sort) (local_sort x ps)

-- the map has the sort of the first of each name
pub record IsIndexed {S : Type 0} (ps : List Parameter) (first : HashMap (Bor (List ℕ)) Sort S) : Type 0 where
  pub sorts : (x : List ℕ) → get_by (λ k. bytes_eq x k.now) first ≡ local_sort x ps

-- the names of several levels, the nearest first
abbrev pub all_levels : List (List Parameter) → List Parameter
all_levels [] = []
all_levels (ps ∷ rest) = ps ++ all_levels rest
