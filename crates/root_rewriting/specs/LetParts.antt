-- The parts of a `let`.
use Rattle.std.specs.Prelude.{◌≡◌, ℕ, suc, ◌+◌, List, ◌∷◌, ◌++◌, Bool, true, false, Option, Some, None, cond, is_some}
use Rattle.script_model.specs.Sexp.{Place, Sexp, group, Sexps, none, more}
use Rattle.script_model.specs.Reading.{Label, bound_names}
use Rattle.script_roots.specs.Tree.{Tree, formless, Names, tree_of, binding_trees}
use Rattle.smt_sexp.specs.Arena.{rest_of, expression_at}
use Rattle.script_roots.specs.Reached.{Bodies, reached_in, binding_bodies, bindings_reached}
use Rattle.smt_sexp.specs.declared.sexps.Sexps as arena

-- bindings that are formed and not none
abbrev pub begins : Option (List Label) → Bool
begins (Some (x ∷ xs)) = true
begins _ = false

-- the bindings and the body, from what stands behind the word
abbrev pub as_let : Sexps → Option (Sexps × Sexp)
as_let (more (group _ bindings) (more body none)) = cond (begins (bound_names bindings)) (Some (bindings, body)) None
as_let _ = None

-- the tree of a `let` of these parts
abbrev pub let_of : Names → Place → Option (Sexps × Sexp) → Tree
let_of names at None = formless at
let_of names at (Some (bindings, body)) = tree_of (binding_trees names bindings ++ names) body

-- how many expressions are reached in it
abbrev pub let_parts_reached : Bodies → Option (Sexps × Sexp) → ℕ
let_parts_reached names None = 1
let_parts_reached names (Some (bindings, body)) = suc (bindings_reached names bindings + reached_in (binding_bodies bindings ++ names) body)

-- the first place of the bindings, and the place of the body
abbrev pub FindsLet : arena.Sexps → ℕ → Option (ℕ × ℕ) → Type 0
FindsLet s at None = as_let (rest_of s at) ≡ None
FindsLet s at (Some (inside, body)) = (as_let (rest_of s at) ≡ Some (rest_of s inside, expression_at s body)) × (is_some (bound_names (rest_of s inside)) ≡ true)
