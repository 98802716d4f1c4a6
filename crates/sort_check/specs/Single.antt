-- The script of a script's only check.
use Rattle.std.specs.Prelude.{◌≡◌, ℕ, ◌≤◌, List, [], ◌∷◌, map, take, reverse, length, Option, Some, None, Result, Ok, Err}
use Rattle.script_model.specs.Sexp as sexp
use Rattle.script_model.specs.Script as script
use Rattle.script_fault.specs.Answers.{IsFaultOrMemory}
use Rattle.script_fault.specs.declared.fault.FaultKind.TheVariants.{LeftOut, NoCheck}
use Rattle.script_fault.specs.declared.fault.ReadError.{ReadError}
use Rattle.script_fault.specs.declared.fault.ScriptFault.{ScriptFault}
use Rattle.script_fault.specs.declared.place.Place.{Place}
use Rattle.smt_sexp.specs.TextAnswers.{fault_at}
use Rattle.smt_sexp.specs.Views.{place_of}
use Rattle.smt_sexp.specs.declared.sexps.Sexps.{Sexps}
use Rattle.smt_script.specs.Commands.{nowhere}
use Rattle.smt_script.specs.Levels as levels
use Rattle.smt_script.specs.Levels.{Asked, Levels, after_step, checks_of, only_script, with_command}
use Rattle.smt_script.specs.Views.{command_of, commands_in, step_of, steps_in}
use Rattle.smt_script.specs.declared.command.Command.{Command}
use Rattle.smt_script.specs.declared.command.Course.{Course}
use Rattle.smt_script.specs.declared.command.Script.{Script}
use Rattle.smt_script.specs.declared.command.Step.{Step}
use Rattle.sort_check.specs.declared.force.Force.{Force}
use Rattle.sort_check.specs.declared.typed.Typed.{Typed}
use Rattle.sort_check.specs.declared.typed.TypedCourse.{TypedCourse}

-- a second check is left out of the language
abbrev pub asked_fault : List Asked → Option ScriptFault
asked_fault [] = Some (fault_at nowhere NoCheck)
asked_fault (a ∷ []) = None
asked_fault (a ∷ b ∷ later) = Some (fault_at b.at LeftOut)

-- what is in force at the only check, with the check, or why there is no such script
abbrev pub IsOnly : Course → Result Script ReadError → Type 0
IsOnly course (Ok script) = only_script (checks_of (steps_in course)) ≡ Some (commands_in script)
IsOnly course (Err e) = IsFaultOrMemory e (asked_fault (checks_of (steps_in course)))

-- the same of steps whose names and sorts are without a fault
abbrev pub IsSingle : TypedCourse → Result Typed ReadError → Type 0
IsSingle typed (Ok single) = only_script (checks_of (steps_in typed.course)) ≡ Some (commands_in single.script)
IsSingle typed (Err e) = IsFaultOrMemory e (asked_fault (checks_of (steps_in typed.course)))

abbrev pub second_place : List Asked → Option sexp.Place
second_place (a ∷ b ∷ later) = Some b.at
second_place _ = None

abbrev pub seen_place : Option Place → Option sexp.Place
seen_place None = None
seen_place (Some at) = Some (place_of at)

abbrev pub check_place : levels.Step → Option sexp.Place
check_place (levels.command (script.check at)) = Some at
check_place s = None

-- the place of the second check among steps
abbrev pub IsSecond : List Step → Option Place → Type 0
IsSecond steps r = (s : Sexps) → seen_place r ≡ second_place (checks_of (map (step_of s) steps))

-- the script of the first of these checks
abbrev pub first_script : List Asked → Option (List script.Command)
first_script [] = None
first_script (a ∷ later) = Some a.script

abbrev pub seen_script : Option Script → Option (List script.Command)
seen_script None = None
seen_script (Some x) = Some (commands_in x)

-- what is in force at the first check among steps over these expressions, with the check
abbrev pub StandsAtCheck : Sexps → List Step → Option Script → Type 0
StandsAtCheck s steps r = seen_script r ≡ first_script (checks_of (map (step_of s) steps))

-- the lengths, the innermost first, tell how much of what is in force was there before each level
abbrev pub AreLengths : List ℕ → List script.Command → List (List script.Command) → Type 0
AreLengths [] inner [] = Unit {0}
AreLengths (n ∷ ns) inner (cs ∷ outer) = (n ≤ length inner) × (cs ≡ take n inner) × AreLengths ns cs outer
AreLengths ns inner outer = ⊥

-- these levels are open
pub record Stacks (s : Sexps) (force : List Command) (marks : List ℕ) (l : Levels) : Type 0 where
  pub inner : map (command_of s) force ≡ l.inner
  pub outer : AreLengths (reverse marks) l.inner l.outer

abbrev pub Opens : List Command → List ℕ → List ℕ → (Levels → Levels) → Type 0
Opens force old new f = (s : Sexps) (l : Levels) → Stacks s force old l → Stacks s force new (f l)

abbrev pub Closes : List Command → List ℕ → List Command → List ℕ → (Levels → Levels) → Type 0
Closes force old force' new f = (s : Sexps) (l : Levels) → Stacks s force old l → Stacks s force' new (f l)

-- a command is added, where it holds until its level is closed
abbrev pub Holds : List Command → List Command → Command → Type 0
Holds old new c = (s : Sexps) (ns : List ℕ) (l : Levels) → Stacks s old ns l → Stacks s new ns (with_command l (command_of s c))

-- nothing is in force, and no level is open
pub record IsNothing (f : Force) : Type 0 where
  pub commands : f.script.commands.items ≡ []
  pub marks : f.marks.items ≡ []

-- from the levels before a step to those behind it
abbrev pub Takes : Force → Force → Step → Type 0
Takes old new step = (s : Sexps) (l : Levels) → Stacks s old.script.commands.items old.marks.items l →
    Stacks s new.script.commands.items new.marks.items (after_step l (step_of s step))
