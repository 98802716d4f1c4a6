-- What a check of a script's sorts and names answers.
use Rattle.std.specs.Prelude.{◌≡◌, Option, Some, None, Result, Ok, Err}
use Rattle.script_fault.specs.Answers.{IsFaultOrMemory}
use Rattle.script_fault.specs.declared.fault.FaultKind.{FaultKind}
use Rattle.script_fault.specs.declared.fault.FaultKind.TheVariants.{UnknownSymbol, SortMismatch, Redeclared, LeftOut, TooMany}
use Rattle.script_fault.specs.declared.fault.ReadError.{ReadError}
use Rattle.script_fault.specs.declared.fault.ScriptFault.{ScriptFault}
use Rattle.script_fault.specs.declared.limit.Limit.TheVariants.{Axes}
use Rattle.smt_sexp.specs.TextAnswers.{fault_at}
use Rattle.smt_script.specs.Views.{commands_in, steps_in}
use Rattle.smt_script.specs.declared.command.Course.{Course}
use Rattle.smt_script.specs.declared.command.Script.{Script}
use Rattle.sort_check.specs.Levels.{course_fault, course_fault_with_roots}
use Rattle.sort_check.specs.Sorts.{SortFault, unknown_symbol, redeclared, sort_mismatch, left_out_form, too_many_axes, Finding, sort_fault}
use Rattle.sort_check.specs.declared.typed.TypedCourse.{TypedCourse}

abbrev pub sort_kind : SortFault → FaultKind
sort_kind (unknown_symbol name) = UnknownSymbol name
sort_kind sort_mismatch = SortMismatch
sort_kind (redeclared name) = Redeclared name
sort_kind left_out_form = LeftOut
sort_kind too_many_axes = TooMany Axes

-- a fault that was found, as it is answered
abbrev pub finding_fault : Finding → Option ScriptFault
finding_fault (Some (at, x)) = Some (fault_at at (sort_kind x))
finding_fault None = None

-- the same steps, which have no fault, or their first one
abbrev pub IsCheckAnswer : Course → Result TypedCourse ReadError → Type 0
IsCheckAnswer course (Ok typed) = (typed.course ≡ course) × (course_fault (steps_in course) ≡ None)
IsCheckAnswer course (Err e) = IsFaultOrMemory e (finding_fault (course_fault (steps_in course)))

-- no fault of steps in which `sqrt` is a function of one Real, or their first one
abbrev pub IsRootsAnswer : Course → Result (Unit {0}) ReadError → Type 0
IsRootsAnswer course (Ok u) = course_fault_with_roots (steps_in course) ≡ None
IsRootsAnswer course (Err e) = IsFaultOrMemory e (finding_fault (course_fault_with_roots (steps_in course)))

-- no fault of a script with one check, or its first one
abbrev pub IsScriptAnswer : Script → Result (Unit {0}) ReadError → Type 0
IsScriptAnswer script (Ok u) = sort_fault (commands_in script) ≡ None
IsScriptAnswer script (Err e) = IsFaultOrMemory e (finding_fault (sort_fault (commands_in script)))
