-- The bindings of a `let`.
use Rattle.std.specs.Prelude.{◌≡◌, ℕ, ◌<◌, List, [], ◌++◌, true, Option, Some, None, is_some, Result, Ok, Err, Vec}
use Rattle.std.specs.Borrow.{Bor}
use Rattle.script_model.specs.Sexp.{Place, symbol, Sexp, leaf, group, Sexps, none, more}
use Rattle.script_model.specs.Reading.{Names, Label, meaning, bound_names, binding_meanings, values_bound, let_meaning}
use Rattle.smt_sexp.specs.Arena.{rest_of, places_of, expression_at}
use Rattle.smt_sexp.specs.Views.{place_of}
use Rattle.script_fault.specs.declared.place.Place as code
use Rattle.script_fault.specs.declared.name.Name as names
use Rattle.smt_sexp.specs.declared.sexps.Sexps as arena
use Rattle.smt_script.specs.Forms.{Behind}
use Rattle.smt_script.specs.declared.command.Sort as code_sort
use Rattle.sort_check.specs.Sorts.{Sorted, ill, sort_mismatch, sorting, binding_sort, first_ill}
use Rattle.sort_check.specs.Views.{fault_of, sorts_seen}
use Rattle.sort_check.specs.declared.stop.Stop.{Stop}
use Rattle.sort_check.specs.declared.stop.Stop.TheVariants as stops

-- a binding stands first, and the rest
abbrev pub as_binding : Sexps → Option (Label × Sexp × Sexps)
as_binding (more (group _ (more (leaf at (symbol name)) (more e none))) rest) = Some (record { at = at; name = name }, e, rest)
as_binding _ = None

abbrev pub FindsBinding : arena.Sexps → ℕ → Option (code.Place × Bor names.Name × ℕ × ℕ) → Type 0
FindsBinding s at None = as_binding (rest_of s at) ≡ None
FindsBinding s at (Some (place, name, body, after)) =
    (as_binding (rest_of s at) ≡ Some (record { at = place_of place; name = name.now }, expression_at s body, rest_of s after)) × (at < body) × Behind s at after

-- a `let` at what stands behind its word
abbrev pub let_at : Names Sorted → Place → Sexps → Sorted
let_at env at (more (group _ bindings) (more body none)) =
    let_meaning sorting at (bound_names bindings) (values_bound (binding_meanings sorting env bindings)) (meaning sorting (binding_meanings sorting env bindings ++ env) body)
let_at env at _ = ill at sort_mismatch

abbrev pub labels_of : Option (List Label) → List Label
labels_of (Some names) = names
labels_of None = []

-- bindings behind those of these names, and then the body's sort
abbrev pub bound_from : List (List ℕ) → Names Sorted → Sexps → Sorted → Sorted
bound_from before env items body = binding_sort before (labels_of (bound_names items)) (values_bound (binding_meanings sorting env items)) body

-- the parts of a `let`
pub record IsLet (s : arena.Sexps) (at inside body : ℕ) : Type 0 where
  pub sort_is : (env : Names Sorted) (p : Place) → let_at env p (rest_of s at) ≡
      bound_from [] env (rest_of s inside) (meaning sorting (binding_meanings sorting env (rest_of s inside) ++ env) (expression_at s body))
  pub formed : is_some (bound_names (rest_of s inside)) ≡ true
  pub inside_later : at < inside
  pub body_later : at < body
  pub within : at < places_of s

abbrev pub FindsLet : arena.Sexps → ℕ → Option (ℕ × ℕ) → Type 0
FindsLet s at None = (env : Names Sorted) (p : Place) → let_at env p (rest_of s at) ≡ ill p sort_mismatch
FindsLet s at (Some (inside, body)) = IsLet s at inside body

-- the sorts of arguments, or the first fault
abbrev pub Lists : {A : Type 0} → Result (Vec code_sort.Sort A) Stop → List Sorted → Type 0
Lists (Ok ss) said = said ≡ sorts_seen ss.items
Lists (Err (stops.Fault at f)) said = first_ill said ≡ Some (ill (place_of at) (fault_of f))
Lists (Err stops.Memory) said = Unit {0}
