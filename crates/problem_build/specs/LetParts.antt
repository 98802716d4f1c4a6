-- The parts of a `let`.
use Rattle.std.specs.Prelude.{◌≡◌, ℕ, List, ◌∷◌, ◌++◌, Bool, true, false, Option, Some, None, cond, is_some}
use Rattle.script_model.specs.Sexp.{Place, Sexp, group, Sexps, none, more}
use Rattle.script_model.specs.Reading.{Meanings, Names, Label, meaning, bound_names, binding_meanings, values_bound, malformed}
use Rattle.smt_sexp.specs.Arena.{rest_of, expression_at}
use Rattle.smt_sexp.specs.declared.sexps.Sexps as arena
use Rattle.sort_check.specs.Forms.{labels_of}

-- bindings that are formed and not none
abbrev pub begins : Option (List Label) → Bool
begins (Some (x ∷ xs)) = true
begins _ = false

-- the bindings and the body, from what stands behind the word
abbrev pub as_let : Sexps → Option (Sexps × Sexp)
as_let (more (group _ bindings) (more body none)) = cond (begins (bound_names bindings)) (Some (bindings, body)) None
as_let _ = None

-- what a `let` of these parts means
abbrev pub let_of : {V : Type 0} → Meanings V → Names V → Place → Option (Sexps × Sexp) → V
let_of M env at None = M.nothing at malformed
let_of M env at (Some (bindings, body)) =
    M.bind at (labels_of (bound_names bindings)) (values_bound (binding_meanings M env bindings)) (meaning M (binding_meanings M env bindings ++ env) body)

-- the first place of the bindings, and the place of the body
abbrev pub FindsLet : arena.Sexps → ℕ → Option (ℕ × ℕ) → Type 0
FindsLet s at None = as_let (rest_of s at) ≡ None
FindsLet s at (Some (inside, body)) = (as_let (rest_of s at) ≡ Some (rest_of s inside, expression_at s body)) × (is_some (bound_names (rest_of s inside)) ≡ true)
