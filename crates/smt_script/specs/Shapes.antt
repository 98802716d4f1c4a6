-- The commands, one part of their form after the other.
use Rattle.std.specs.Prelude.{ℕ, List, cond, Option, Some, None}
use Rattle.std.specs.Str.Parse.{digits_value}
use Rattle.script_model.specs.Sexp.{Place, Sexp, leaf, group, Sexps, none, more}
use Rattle.script_model.specs.Script.{claim, ineffective}
use Rattle.smt_script.specs.Levels.{command, asks_values}
use Rattle.script_model.specs.Reading.{found}
use Rattle.smt_script.specs.Commands.{Before, Said, says, fails, bad_command, SortForm, sort_form, Arguments, no_arguments, arguments, goal, Parameters, wrong_parameters, parameters, with_parameter, declaration, definition, with_logic, is_logic, logics, one_step, pushing, popping, assuming}
use Rattle.smt_script.specs.Forms.{as_symbol, as_group, as_any, is_end}

abbrev pub at_last : Sexps → Said → Said
at_last rest said = cond (is_end rest) said (fails bad_command)

-- a name and a sort
abbrev pub declares_sort : Before → Place → List ℕ → Arguments → Option (Sexp × Sexps) → Said
declares_sort b at f args None = fails bad_command
declares_sort b at f args (Some (s, rest)) = at_last rest (declaration b at f args (sort_form s))

abbrev pub declares_name : Before → Place → Option (Place × List ℕ × Sexps) → Said
declares_name b at None = fails bad_command
declares_name b at (Some (p, f, rest)) = declares_sort b at f no_arguments (as_any rest)

-- a name, arguments and a sort
abbrev pub declares_arguments : Before → Place → List ℕ → Option (Sexps × Sexps) → Said
declares_arguments b at f None = fails bad_command
declares_arguments b at f (Some (args, rest)) = declares_sort b at f (arguments args) (as_any rest)

abbrev pub declares_function_name : Before → Place → Option (Place × List ℕ × Sexps) → Said
declares_function_name b at None = fails bad_command
declares_function_name b at (Some (p, f, rest)) = declares_arguments b at f (as_group rest)

-- a name, parameters, a sort and a term
abbrev pub defines_body : Before → Place → List ℕ → Parameters → SortForm → Option (Sexp × Sexps) → Said
defines_body b at f params s None = fails bad_command
defines_body b at f params s (Some (body, rest)) = at_last rest (definition b at f params s body)

abbrev pub defines_sort : Before → Place → List ℕ → Parameters → Option (Sexp × Sexps) → Said
defines_sort b at f params None = fails bad_command
defines_sort b at f params (Some (s, rest)) = defines_body b at f params (sort_form s) (as_any rest)

abbrev pub defines_parameters : Before → Place → List ℕ → Option (Sexps × Sexps) → Said
defines_parameters b at f None = fails bad_command
defines_parameters b at f (Some (params, rest)) = defines_sort b at f (parameters params) (as_any rest)

abbrev pub defines_name : Before → Place → Option (Place × List ℕ × Sexps) → Said
defines_name b at None = fails bad_command
defines_name b at (Some (p, f, rest)) = defines_parameters b at f (as_group rest)

-- a term
abbrev pub asserts_term : Before → Place → Option (Sexp × Sexps) → Said
asserts_term b at None = fails bad_command
asserts_term b at (Some (e, rest)) = at_last rest (says b (one_step (command (claim at e))))

abbrev pub minimizes_term : Before → Place → Option (Sexp × Sexps) → Said
minimizes_term b at None = fails bad_command
minimizes_term b at (Some (t, rest)) = at_last rest (goal b at t)

-- a logic
abbrev pub sets_name : Before → Place → Option (Place × List ℕ × Sexps) → Said
sets_name b at None = fails bad_command
sets_name b at (Some (p, l, rest)) = at_last rest (cond b.logic (fails bad_command) (with_logic b at (is_logic (found l logics))))

-- a text
abbrev pub echoes_text : Before → Place → Option Sexps → Said
echoes_text b at None = fails bad_command
echoes_text b at (Some rest) = at_last rest (says b (one_step (command (ineffective at))))

-- terms
abbrev pub gets_some : Before → Place → Sexps → Said
gets_some b at none = fails bad_command
gets_some b at (more e es) = says b (one_step (asks_values at (more e es)))

abbrev pub gets_terms : Before → Place → Option (Sexps × Sexps) → Said
gets_terms b at None = fails bad_command
gets_terms b at (Some (es, rest)) = at_last rest (gets_some b at es)

-- a number of levels
abbrev pub pushes_levels : Before → Place → Option (List ℕ × Sexps) → Said
pushes_levels b at None = fails bad_command
pushes_levels b at (Some (digits, rest)) = at_last rest (pushing b at (digits_value 10 digits))

abbrev pub pops_levels : Before → Place → Option (List ℕ × Sexps) → Said
pops_levels b at None = fails bad_command
pops_levels b at (Some (digits, rest)) = at_last rest (popping b at (digits_value 10 digits))

-- terms to be assumed
abbrev pub assumes_terms : Before → Place → Option (Sexps × Sexps) → Said
assumes_terms b at None = fails bad_command
assumes_terms b at (Some (es, rest)) = at_last rest (assuming b at es)

-- ---- parameters

-- a name with its place, and what stands in the place of its sort
abbrev pub shape_sort : Place → List ℕ → Option (Sexp × Sexps) → Option (Place × List ℕ × SortForm)
shape_sort at x None = None
shape_sort at x (Some (s, rest)) = cond (is_end rest) (Some (at, x, sort_form s)) None

abbrev pub shape_name : Option (Place × List ℕ × Sexps) → Option (Place × List ℕ × SortForm)
shape_name None = None
shape_name (Some (at, x, rest)) = shape_sort at x (as_any rest)

abbrev pub shape_of : Sexp → Option (Place × List ℕ × SortForm)
shape_of (group at items) = shape_name (as_symbol items)
shape_of (leaf at l) = None

abbrev pub shape_group : Option (Sexps × Sexps) → Option (Place × List ℕ × SortForm)
shape_group None = None
shape_group (Some (items, rest)) = shape_name (as_symbol items)

abbrev pub with_shape : Option (Place × List ℕ × SortForm) → Parameters → Parameters
with_shape None rest = wrong_parameters
with_shape (Some (at, x, s)) rest = with_parameter at x s rest
