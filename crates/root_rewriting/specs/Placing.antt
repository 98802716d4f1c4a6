-- Assertions that are written one after the other.
use Rattle.std.specs.Prelude.{◌≡◌, ◌≤◌, List, [], ◌∷◌, ◌++◌, length, map, cond, Option, Some}
use Rattle.script_model.specs.Sexp.{Place, Sexp}
use Rattle.script_model.specs.Script.{Command, claim, minimize}
use Rattle.script_roots.specs.Reached.{first_beyond}
use Rattle.script_roots.specs.Refused.{most_tokens, tokens_from}
use Rattle.script_fault.specs.declared.fault.FaultKind.TheVariants as kinds
use Rattle.script_fault.specs.declared.fault.ReadError.{ReadError}
use Rattle.script_fault.specs.declared.fault.ReadError.TheVariants.{Fault, Memory}
use Rattle.script_fault.specs.declared.limit.Limit.TheVariants as limits
use Rattle.smt_sexp.specs.Arena.{expression_at}
use Rattle.smt_sexp.specs.Building.{flat_back}
use Rattle.smt_sexp.specs.Views.{place_of}
use Rattle.smt_sexp.specs.Writing.{Written, tokens_in}
use Rattle.smt_sexp.specs.declared.sexps.Sexps as arena
use Rattle.smt_sexp.specs.declared.writing.Writer.{Writer}
use Rattle.root_rewriting.specs.declared.placed.Placed.{Placed}

abbrev pub placed_command : arena.Sexps → Placed → Command
placed_command s p = let e = expression_at s p.at in cond p.is_goal (minimize (place_of p.place) e) (claim (place_of p.place) e)

-- these expressions, the last first, stand one behind the other
abbrev pub HasTops : arena.Sexps → List Sexp → Type 0
HasTops s tops = (later before : List Sexp) (e : Sexp) → tops ≡ later ++ e ∷ before → expression_at s (length (flat_back before)) ≡ e

-- of all these commands the first were written, and these are left
pub record InWriting (w : Writer) (ps : List Placed) (all left : List Command) : Type 0 where
  pub done : List Command
  pub tops : List Sexp
  pub stands : Written w [] tops
  pub split : all ≡ done ++ left
  pub kept : (s : arena.Sexps) → HasTops s tops → map (placed_command s) ps ≡ done
  pub within : tokens_in w ≤ most_tokens
  pub counted : first_beyond most_tokens 0 (tokens_from all) ≡ first_beyond most_tokens (tokens_in w) (tokens_from left)

-- out of memory, or too much from this place on
abbrev pub IsTooLarge : ReadError → Option Place → Type 0
IsTooLarge (Fault f) first = (f.kind ≡ kinds.TooMany limits.Size) × (first ≡ Some (place_of f.at))
IsTooLarge Memory first = Unit {0}
