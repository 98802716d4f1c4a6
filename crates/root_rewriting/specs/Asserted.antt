-- The assertions and goals of a script, with their trees in an arena.
use Rattle.std.specs.Prelude.{◌≡◌, ℕ, ◌+◌, ◌<◌, ◌≤◌, List, [], ◌∷◌, ◌++◌, length, Option, Some, Result, Ok, Err, slice_get}
use Rattle.script_model.specs.Sexp as sexp
use Rattle.script_model.specs.Script.{Command}
use Rattle.script_forms.specs.Walk.{most_size}
use Rattle.script_roots.specs.Tree.{Tree}
use Rattle.script_roots.specs.Fresh as model
use Rattle.script_roots.specs.Fresh.{asserted, asserted_from}
use Rattle.script_fault.specs.declared.place.Place as place
use Rattle.script_fault.specs.declared.fault.ReadError.{ReadError}
use Rattle.script_fault.specs.declared.fault.ReadError.TheVariants.{Fault, Memory}
use Rattle.script_fault.specs.declared.fault.FaultKind.TheVariants as kinds
use Rattle.script_fault.specs.declared.limit.Limit.TheVariants as limits
use Rattle.smt_sexp.specs.Views.{place_of}
use Rattle.smt_sexp.specs.declared.sexps.Sexps as arena
use Rattle.root_rewriting.specs.Ahead.{top_bodies}
use Rattle.root_rewriting.specs.TreeNames.{top_names}
use Rattle.root_rewriting.specs.Nodes.{trees_in}
use Rattle.script_roots.specs.Reached.{too_many, first_beyond, reached_from}
use Rattle.root_rewriting.specs.declared.unfold.assertions.Assertion as code
use Rattle.root_rewriting.specs.declared.unfold.assertions.Progress.{Progress}

pub record IsAsserted (ts : List Tree) (c : code.Assertion) (a : model.Asserted) : Type 0 where
  pub at : place_of c.place ≡ a.at
  pub goal : c.is_goal ≡ a.is_goal
  pub tree : slice_get ts c.tree ≡ Some a.tree

-- these are assertions and goals, whose trees stand among these
abbrev pub AreAsserted : List Tree → List code.Assertion → List model.Asserted → Type 0
AreAsserted ts [] [] = Unit {0}
AreAsserted ts (c ∷ cs) (a ∷ rest) = IsAsserted ts c a × AreAsserted ts cs rest
AreAsserted ts _ _ = ⊥

-- the first commands are done, and these are left
pub record IsAt (s : arena.Sexps) (script left : List Command) (p : Progress) : Type 0 where
  pub done : List model.Asserted
  pub are : AreAsserted (trees_in p.unfolded.trees) p.assertions.items done
  pub split : asserted script ≡ done ++ asserted_from (top_names s p.top (length p.top)) left
  pub within : p.unfolded.reached ≤ most_size
  pub counted : too_many script ≡ first_beyond most_size p.unfolded.reached (reached_from (top_bodies s p.top (length p.top)) left)

-- out of memory, or more expressions than may be reached
abbrev pub IsRefusal : ReadError → Type 0
IsRefusal (Fault f) = f.kind ≡ kinds.TooMany limits.Size
IsRefusal Memory = Unit {0}

-- at the first place with which there are more than may be reached
abbrev pub IsAtFirst : Option sexp.Place → ReadError → Type 0
IsAtFirst first (Fault f) = first ≡ Some (place_of f.at)
IsAtFirst first Memory = Unit {0}

-- so many more are reached in the assertion or goal at this place, which may be; or they may not
abbrev pub ClaimCounts : place.Place → ℕ → ℕ → ℕ → Result (Unit {0}) ReadError → Type 0
ClaimCounts at old new n (Ok u) = (new ≡ old + n) × (old ≤ most_size → new ≤ most_size)
ClaimCounts at old new n (Err (Fault f)) = (f.at ≡ at) × (most_size < old + n)
ClaimCounts at old new n (Err Memory) = Unit {0}
