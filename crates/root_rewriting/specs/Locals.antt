-- The names that a `let` or a call binds.
use Rattle.std.specs.Prelude.{◌≡◌, ℕ, List, [], ◌∷◌, ◌++◌, Option, Some, None, cond}
use Rattle.std.specs.Borrow.{Bor}
use Rattle.std.specs.HashMap.{HashMap, get_by}
use Rattle.std.specs.Str.{bytes_eq}
use Rattle.root_rewriting.specs.declared.unfold.locals.Local.{Local}

-- the node of the first local of this name
abbrev pub local_node : List ℕ → List Local → Option ℕ
local_node x [] = None
local_node x (l ∷ rest) = cond (bytes_eq x l.name.now) (Some l.node) (local_node x rest)

-- the map has the node of the first of each name
pub record IsIndexed {S : Type 0} (ls : List Local) (first : HashMap (Bor (List ℕ)) ℕ S) : Type 0 where
  pub nodes : (x : List ℕ) → get_by (λ k. bytes_eq x k.now) first ≡ local_node x ls

-- the names of several levels, the nearest first
abbrev pub all_levels : List (List Local) → List Local
all_levels [] = []
all_levels (ls ∷ rest) = ls ++ all_levels rest
