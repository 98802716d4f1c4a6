-- What a script does, one step after the other, and which commands are in force at each of its checks.
use Rattle.std.specs.Prelude.{ℕ, suc, zero, List, [], ◌∷◌, ◌++◌, Option, Some, None}
use Rattle.script_model.specs.Sexp.{Place, Sexps}
use Rattle.script_model.specs.Script.{Command, check, ineffective}

pub data Step : Type 0 where
  command : Command → Step
  -- `push` and `pop`, with how many levels they open and close
  opens closes : Place → ℕ → Step
  -- `reset` and `reset-assertions`
  resets : Place → Step
  -- `get-value`, with its terms
  asks_values : Place → Sexps → Step

-- the declarations, definitions and assertions that are in force: with the innermost level, and once each of the levels is
-- closed, the innermost first
pub record Levels : Type 0 where
  pub inner : List Command
  pub outer : List (List Command)

-- nothing is in force, and no level is open
abbrev pub no_levels : Levels
no_levels = record { inner = []; outer = [] }

abbrev pub opened : ℕ → Levels → Levels
opened zero l = l
opened (suc n) l = opened n (record { inner = l.inner; outer = l.inner ∷ l.outer })

-- what is in force once so many levels are closed
abbrev pub closed_to : ℕ → List Command → List (List Command) → Levels
closed_to zero inner outer = record { inner = inner; outer = outer }
closed_to (suc n) inner [] = record { inner = inner; outer = [] }
closed_to (suc n) inner (cs ∷ outer) = closed_to n cs outer

abbrev pub closed : ℕ → Levels → Levels
closed n l = closed_to n l.inner l.outer

-- a command that holds until its level is closed
abbrev pub with_command : Levels → Command → Levels
with_command l (check at) = l
with_command l (ineffective at) = l
with_command l c = record { inner = l.inner ++ (c ∷ []); outer = l.outer }

abbrev pub after_step : Levels → Step → Levels
after_step l (command c) = with_command l c
after_step l (opens at n) = opened n l
after_step l (closes at n) = closed n l
after_step l (resets at) = no_levels
after_step l (asks_values at es) = l

-- ---- checks

-- a check, with the script that it asks of: what is in force at it, with one check
pub record Asked : Type 0 where
  pub at : Place
  pub script : List Command

abbrev pub asked_here : Levels → Step → List Asked
asked_here l (command (check at)) = record { at = at; script = l.inner ++ (check at ∷ []) } ∷ []
asked_here l s = []

-- the checks of steps where these levels are open
abbrev pub asked_from : Levels → List Step → List Asked
asked_from l [] = []
asked_from l (s ∷ rest) = asked_here l s ++ asked_from (after_step l s) rest

-- the checks of a script, in order
abbrev pub checks_of : List Step → List Asked
checks_of steps = asked_from no_levels steps

-- the script of a script's only check
abbrev pub only_script : List Asked → Option (List Command)
only_script (a ∷ []) = Some a.script
only_script _ = None
