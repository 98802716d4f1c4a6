-- What the code keeps of the levels of a script.
use Rattle.std.specs.Prelude.{◌≡◌, ℕ, ◌≤◌, List, [], ◌∷◌, Bool, true, false, map, take, reverse, length, Option, Some, None, Result, Ok, Err}
use Rattle.std.specs.Borrow.{Bor}
use Rattle.script_model.specs.Reading.{Names}
use Rattle.script_model.specs.Script as script
use Rattle.smt_script.specs.Levels.{Levels, Step, after_step, command, no_levels}
use Rattle.smt_script.specs.Views.{command_of, step_of}
use Rattle.smt_script.specs.declared.command.Command.{Command}
use Rattle.smt_script.specs.declared.command.Step as code
use Rattle.smt_sexp.specs.Views.{place_of}
use Rattle.smt_sexp.specs.declared.sexps.Sexps.{Sexps}
use Rattle.sort_check.specs.Levels.{names_of, step_fault}
use Rattle.sort_check.specs.Sorts.{Sorted, sort_fault_in}
use Rattle.sort_check.specs.Steps.{count_after}
use Rattle.sort_check.specs.Views.{Knows, fault_of, theory_names}
use Rattle.sort_check.specs.declared.scope.Mark.{Mark}
use Rattle.sort_check.specs.declared.scope.Scope.{Scope}
use Rattle.sort_check.specs.declared.scope.Theory.{Theory}
use Rattle.sort_check.specs.declared.stop.Stop.{Stop}
use Rattle.sort_check.specs.declared.stop.Stop.TheVariants as stops

-- how many constants are declared behind commands
abbrev pub count_from : ℕ → List script.Command → ℕ
count_from n [] = n
count_from n (c ∷ rest) = count_from (count_after c n) rest

abbrev pub count_of : List script.Command → ℕ
count_of cs = count_from 0 cs

abbrev pub seen : Sexps → Bor Command → script.Command
seen s c = command_of s c.now

-- the name that a command declares or defines
abbrev pub command_name : script.Command → Option (List ℕ)
command_name (script.declare at x s) = Some x
command_name (script.define at f params s body) = Some f
command_name c = None

-- a command holds until its level is closed
abbrev pub stays : script.Command → Bool
stays (script.check at) = false
stays (script.ineffective at) = false
stays c = true

abbrev pub name_bytes : Bor (List ℕ) → List ℕ
name_bytes n = n.now

abbrev pub forced : Sexps → Scope → List script.Command
forced s scope = map (seen s) scope.force.items

-- what is in force behind the names of a theory has no fault, and the scope knows the names of both
pub record IsKnown (theory : Names Sorted) (s : Sexps) (scope : Scope) : Type 0 where
  pub knows : Knows scope.top (names_of theory (forced s scope))
  pub sorted : sort_fault_in theory (forced s scope) ≡ None

-- of what is in force, these commands were there where the mark was set
pub record IsMark (m : Mark) (inner cs : List script.Command) : Type 0 where
  pub within : m.commands ≤ length inner
  pub taken : cs ≡ take m.commands inner
  pub counted : m.constants ≡ count_of cs
  pub few : m.constants ≤ 1024

-- the marks, the innermost first, tell how much of what is in force was there before each level
abbrev pub AreMarks : List Mark → List script.Command → List (List script.Command) → Type 0
AreMarks [] inner [] = Unit {0}
AreMarks (m ∷ ms) inner (cs ∷ outer) = IsMark m inner cs × AreMarks ms cs outer
AreMarks ms inner outer = ⊥

-- these levels are open
pub record InForce (theory : Names Sorted) (s : Sexps) (scope : Scope) (l : Levels) : Type 0 where
  pub known : IsKnown theory s scope
  pub force : forced s scope ≡ l.inner
  pub count : scope.constants ≡ count_of l.inner
  pub few : scope.constants ≤ 1024
  pub marks : AreMarks (reverse scope.marks.items) l.inner l.outer

abbrev pub Begins : Names Sorted → Scope → Type 0
Begins theory scope = (s : Sexps) → InForce theory s scope no_levels

-- from levels to those that f gives
abbrev pub Passes : Scope → Scope → (Levels → Levels) → Type 0
Passes old new f = (theory : Names Sorted) (s : Sexps) (l : Levels) → InForce theory s old l → InForce theory s new (f l)

-- so many commands are left, and their names are known where those of all were
pub record Forgets (old new : Scope) (left : ℕ) : Type 0 where
  pub rest : new.force.items ≡ take left old.force.items
  pub known : (theory : Names Sorted) (s : Sexps) → IsKnown theory s old → IsKnown theory s new
  pub marks : new.marks ≡ old.marks

-- a step has no fault, and behind it the levels are open that it leaves; or this is its fault, or memory
abbrev pub Follows : Names Sorted → Sexps → Scope → Levels → Step → Result (Unit {0}) Stop → Type 0
Follows theory s scope l step (Ok u) = InForce theory s scope (after_step l step) × (step_fault theory l.inner step ≡ None)
Follows theory s scope l step (Err (stops.Fault at f)) = step_fault theory l.inner step ≡ Some (place_of at, fault_of f)
Follows theory s scope l step (Err stops.Memory) = Unit {0}

-- a step, where the names of this theory are known before the first command
abbrev pub FollowsStep : Theory → Sexps → Scope → Scope → code.Step → Result (Unit {0}) Stop → Type 0
FollowsStep theory s old new step r = (l : Levels) → InForce (theory_names theory) s old l → Follows (theory_names theory) s new l (step_of s step) r

-- a command, whatever names are known before the first one
abbrev pub FollowsCommand : Sexps → Scope → Scope → Command → Result (Unit {0}) Stop → Type 0
FollowsCommand s old new c r = (theory : Names Sorted) (l : Levels) → InForce theory s old l → Follows theory s new l (command (command_of s c)) r
