-- How many expressions are reached while the assertions and goals of a script are unfolded.
use Rattle.std.specs.Prelude.{ℕ, zero, suc, ◌+◌, List, [], ◌∷◌, ◌++◌, length, Option, Some, None, cond, nat_lt}
use Rattle.script_model.specs.Sexp.{Place, Leaf, symbol, reserved, Sexp, leaf, group, Sexps, none, more, bang, let_word}
use Rattle.script_model.specs.Reading.{Operator, Label, operators, found, bound_names}
use Rattle.script_model.specs.Script.{Parameter, Command, declare, define, claim, minimize, check, ineffective}
use Rattle.script_forms.specs.Walk.{most_size}
use Rattle.script_roots.specs.Tree.{sqrt_name}

-- Each literal, name, application, `let` and annotation counts one, and so does what has no form. A bound name, a parameter and a constant
-- have no body that is reached where they are named; a definition has one, at each call.

-- for each name, the nearest first, how many are reached in its body, where it has so many arguments
abbrev pub Bodies : Type 0
Bodies = List (List ℕ × (ℕ → ℕ))

abbrev pub no_body : ℕ → ℕ
no_body args = 0

abbrev pub total : List ℕ → ℕ
total [] = 0
total (n ∷ ns) = n + total ns

-- ---- an expression

-- a name that is no operator, alone
abbrev pub named_reached : Option (ℕ → ℕ) → ℕ
named_reached None = 1
named_reached (Some f) = suc (f 0)

abbrev pub symbol_reached : Bodies → List ℕ → Option Operator → ℕ
symbol_reached names x (Some op) = 1
symbol_reached names x None = named_reached (found x names)

abbrev pub leaf_reached : Bodies → Leaf → ℕ
leaf_reached names (symbol x) = symbol_reached names x (found x operators)
leaf_reached names l = 1

-- at arguments in which so many are reached; those of an unknown name are not
abbrev pub call_reached : Option (ℕ → ℕ) → List ℕ → ℕ
call_reached None ns = 1
call_reached (Some f) ns = suc (total ns + f (length ns))

abbrev pub application_reached : Bodies → List ℕ → Option Operator → List ℕ → ℕ
application_reached names x op [] = 1
application_reached names x (Some op) (n ∷ ns) = suc (total (n ∷ ns))
application_reached names x None (n ∷ ns) = call_reached (found x names) (n ∷ ns)

-- a `let` whose bindings are formed and not none
abbrev pub let_reached : Option (List Label) → ℕ → ℕ
let_reached (Some (x ∷ xs)) n = suc n
let_reached o n = 1

-- what the bindings of a `let` bind
abbrev pub binding_bodies : Sexps → Bodies
binding_bodies (more (group _ (more (leaf _ (symbol x)) (more e none))) rest) = (x, no_body) ∷ binding_bodies rest
binding_bodies _ = []

abbrev mutual
  pub reached_in : Bodies → Sexp → ℕ
  reached_in names (leaf at l) = leaf_reached names l
  reached_in names (group at items) = group_reached names items

  pub group_reached : Bodies → Sexps → ℕ
  group_reached names (more (leaf _ (reserved let_word)) (more (group _ bindings) (more body none))) =
      let_reached (bound_names bindings) (bindings_reached names bindings + reached_in (binding_bodies bindings ++ names) body)
  group_reached names (more (leaf _ (reserved bang)) (more term attributes)) = suc (reached_in names term)
  group_reached names (more (leaf _ (reserved word)) args) = 1
  group_reached names (more (leaf _ (symbol x)) args) = application_reached names x (found x operators) (all_reached names args)
  group_reached names _ = 1

  pub all_reached : Bodies → Sexps → List ℕ
  all_reached names none = []
  all_reached names (more e rest) = reached_in names e ∷ all_reached names rest

  pub bindings_reached : Bodies → Sexps → ℕ
  bindings_reached names (more (group _ (more (leaf _ (symbol x)) (more e none))) rest) = reached_in names e + bindings_reached names rest
  bindings_reached names _ = 0

-- ---- definitions

-- of the first parameters, for as many arguments
abbrev pub parameter_bodies : List Parameter → ℕ → Bodies
parameter_bodies [] args = []
parameter_bodies (p ∷ params) zero = []
parameter_bodies (p ∷ params) (suc args) = (p.name, no_body) ∷ parameter_bodies params args

abbrev pub definition_body : Bodies → List Parameter → Sexp → ℕ → ℕ
definition_body names params body args = reached_in (parameter_bodies params args ++ names) body

-- before the first command
abbrev pub theory_bodies : Bodies
theory_bodies = (sqrt_name, no_body) ∷ []

-- ---- a script

-- for each assertion and goal, its place and how many are reached in it; of commands behind which these names are known
abbrev pub reached_from : Bodies → List Command → List (Place × ℕ)
reached_from names [] = []
reached_from names (declare at x sort ∷ rest) = reached_from ((x, no_body) ∷ names) rest
reached_from names (define at f params sort body ∷ rest) = reached_from ((f, definition_body names params body) ∷ names) rest
reached_from names (claim at e ∷ rest) = (at, reached_in names e) ∷ reached_from names rest
reached_from names (minimize at t ∷ rest) = (at, reached_in names t) ∷ reached_from names rest
reached_from names (check at ∷ rest) = reached_from names rest
reached_from names (ineffective at ∷ rest) = reached_from names rest

-- the first with which there are more than so many, after so many
abbrev pub first_beyond : ℕ → ℕ → List (Place × ℕ) → Option Place
first_beyond most before [] = None
first_beyond most before ((at, n) ∷ rest) = cond (nat_lt most (before + n)) (Some at) (first_beyond most (before + n) rest)

-- the first assertion or goal of a script with which there are more than may be
abbrev pub too_many : List Command → Option Place
too_many script = first_beyond most_size 0 (reached_from theory_bodies script)
