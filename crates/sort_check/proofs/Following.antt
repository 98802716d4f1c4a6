-- A fault of one step is that of all, and the checks of a script without a fault are of scripts without one.
use Rattle.std.proofs.Common.{◌≡◌, ◌<◌, ℕ, List, [], ◌∷◌, None, ap, ◌∙◌, refl, map, length, arith, Global}
use Rattle.std.specs.Prelude.{Err}
use Rattle.std.specs.Borrow.{Bor}
use Rattle.std.specs.HashMap.{HashMap}
use Rattle.std.specs.List.{AllByRecursion}
use Rattle.script_model.specs.Reading.{Names}
use Rattle.script_model.specs.Script.{Command, declare, define, claim, minimize, check, ineffective}
use Rattle.smt_sexp.specs.declared.sexps.Sexps.{Sexps}
use Rattle.smt_script.specs.Levels.{Asked, Levels, Step, command, opens, closes, resets, asks_values, after_step, asked_from}
use Rattle.smt_script.specs.Views.{step_of}
use Rattle.smt_script.specs.declared.command.Step as code
use Rattle.smt_script.specs.declared.command.Sort as code_sort
use Rattle.sort_check.specs.Forms.{Lists}
use Rattle.sort_check.specs.Levels.{course_fault_from, fault_in, step_fault}
use Rattle.sort_check.specs.Scopes.{Follows}
use Rattle.sort_check.specs.Sorts.{Finding, Sorted, first_ill, sort_fault, sort_fault_from, then_on}
use Rattle.sort_check.specs.Views.{sorts_seen}
use Rattle.sort_check.proofs.Lists.{first_ill-none}
use Rattle.sort_check.specs.Steps.{FindsFault, Steps}
use Rattle.sort_check.specs.declared.names.Known.{Known}
use Rattle.sort_check.specs.declared.scope.Scope.{Scope}
use Rattle.sort_check.specs.declared.stop.Stop.{Stop}
use Rattle.sort_check.specs.declared.stop.Stop.TheVariants as stops
use Rattle.sort_check.proofs.Scopes.{then_none}

pub stops_first : (theory : Names Sorted) (s : Sexps) (scope : Scope) (l : Levels) (step : Step) (later : List Step) (e : Stop) {all : Finding} →
    all ≡ course_fault_from theory l (step ∷ later) → Follows theory s scope l step (Err e) → FindsFault (Err e) all
stops_first theory s scope l step later (stops.Fault at f) is h = is ∙ ap (λ g. then_on g (course_fault_from theory (after_step l step) later)) h
stops_first theory s scope l step later stops.Memory is h = tt

-- the same of commands
pub stops_here : {S : Type 0} (top : HashMap (Bor (List ℕ)) Known S) (n : ℕ) (names : Names Sorted) (c : Command) (later : List Command) (e : Stop) {all : Finding} →
    all ≡ sort_fault_from n names (c ∷ later) → Steps top n names c (Err e) → FindsFault (Err e) all
stops_here top n names c later (stops.Fault at f) is h = is ∙ h later
stops_here top n names c later stops.Memory is h = tt

abbrev pub IsSorted : Asked → Type 0
IsSorted a = sort_fault a.script ≡ None

pub asked_sorted : (l : Levels) (steps : List Step) → course_fault_from [] l steps ≡ None → AllByRecursion IsSorted (asked_from l steps)
asked_sorted l [] e = tt
asked_sorted l (command (check at) ∷ rest) e =
    let a = then_none (step_fault [] l.inner (command (check at))) _ e in (a.0, asked_sorted l rest a.1)
asked_sorted l (command (declare at x s) ∷ rest) e = asked_sorted _ rest (then_none (step_fault [] l.inner (command (declare at x s))) _ e).1
asked_sorted l (command (define at f params s body) ∷ rest) e = asked_sorted _ rest (then_none (step_fault [] l.inner (command (define at f params s body))) _ e).1
asked_sorted l (command (claim at x) ∷ rest) e = asked_sorted _ rest (then_none (step_fault [] l.inner (command (claim at x))) _ e).1
asked_sorted l (command (minimize at t) ∷ rest) e = asked_sorted _ rest (then_none (step_fault [] l.inner (command (minimize at t))) _ e).1
asked_sorted l (command (ineffective at) ∷ rest) e = asked_sorted _ rest (then_none (step_fault [] l.inner (command (ineffective at))) _ e).1
asked_sorted l (opens at n ∷ rest) e = asked_sorted _ rest e
asked_sorted l (closes at n ∷ rest) e = asked_sorted _ rest e
asked_sorted l (resets at ∷ rest) e = asked_sorted _ rest e
asked_sorted l (asks_values at es ∷ rest) e = asked_sorted _ rest (then_none (step_fault [] l.inner (asks_values at es)) _ e).1

pub no_steps : (s : Sexps) (xs : List code.Step) → length xs < 1 → map (step_of s) xs ≡ []
no_steps s [] h = refl
no_steps s (x ∷ xs) h = absurd (omega (arith, h))

-- ---- terms that are asked for

pub asked_ok : (ms : List Sorted) (ss : List code_sort.Sort) → ms ≡ sorts_seen ss → fault_in (first_ill ms) ≡ None
asked_ok ms ss e = ap (λ x. fault_in (first_ill x)) e ∙ ap fault_in (first_ill-none ss)

pub asked_fails : (e : Stop) (ms : List Sorted) → Lists {A = Global} (Err e) ms → FindsFault (Err e) (fault_in (first_ill ms))
asked_fails (stops.Fault at f) ms h = ap fault_in h
asked_fails stops.Memory ms h = tt
