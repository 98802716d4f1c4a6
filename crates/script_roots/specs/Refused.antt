-- What of a script is refused before constants can stand for its roots and quotients.
use Rattle.std.specs.Prelude.{ℕ, suc, ◌+◌, ◌^◌, List, [], ◌∷◌, ◌++◌, Option, Some, None}
use Rattle.script_model.specs.Sexp.{Place, Sexp, leaf, group, Sexps, none, more}
use Rattle.script_model.specs.Script.{Command, declare, define, claim, minimize, check, ineffective}
use Rattle.script_roots.specs.Fresh.{Table, left_out}
use Rattle.script_roots.specs.Rewritten.{rewritten, script_table}
use Rattle.script_roots.specs.Reached.{first_beyond, too_many}

-- ---- what is written

abbrev mutual
  -- each literal and name, and each parenthesis
  pub tokens_of : Sexp → ℕ
  tokens_of (leaf at l) = 1
  tokens_of (group at items) = suc (suc (all_tokens items))

  pub all_tokens : Sexps → ℕ
  all_tokens none = 0
  all_tokens (more e rest) = tokens_of e + all_tokens rest

-- with its place, of a command's expression
abbrev pub command_tokens : Command → List (Place × ℕ)
command_tokens (declare at x sort) = []
command_tokens (define at f params sort body) = (at, tokens_of body) ∷ []
command_tokens (claim at e) = (at, tokens_of e) ∷ []
command_tokens (minimize at t) = (at, tokens_of t) ∷ []
command_tokens (check at) = []
command_tokens (ineffective at) = []

abbrev pub tokens_from : List Command → List (Place × ℕ)
tokens_from [] = []
tokens_from (command ∷ rest) = command_tokens command ++ tokens_from rest

abbrev pub most_tokens : ℕ
most_tokens = 2 ^ 22

abbrev pub beyond_unless_empty : Table → List Command → Option Place
beyond_unless_empty [] script = None
beyond_unless_empty (entry ∷ rest) script = first_beyond most_tokens 0 (tokens_from script)

-- the first command of the rewritten script with which its expressions have more tokens than may be; a script that stays as it is has none
abbrev pub too_long : Option ℕ → List Command → Option Place
too_long bound script = beyond_unless_empty (script_table bound script) (rewritten bound script)

-- ---- refusals

pub data Refusal : Type 0 where
  -- more expressions are reached, or more tokens are written, than may be
  too_large : Refusal
  -- a root of an `ite`, or a goal with a root or a quotient
  left_out_form : Refusal

abbrev pub refused_at : Refusal → Option Place → Option (Place × Refusal) → Option (Place × Refusal)
refused_at why (Some at) later = Some (at, why)
refused_at why None later = later

-- the first of them
abbrev pub refusal : Option ℕ → List Command → Option (Place × Refusal)
refusal bound script = refused_at too_large (too_many script) (refused_at left_out_form (left_out script) (refused_at too_large (too_long bound script) None))
