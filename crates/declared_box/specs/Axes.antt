-- The axes of declared constants, and their faults.
use Rattle.std.specs.Prelude.{◌≡◌, ℕ, List, map, Option, Some, None, Result, Ok, Err, Vec}
use Rattle.std.specs.Global.{Global}
use Rattle.dyadic.specs.Point.{Sort}
use Rattle.script_model.specs.Script as script
use Rattle.script_model.specs.Declared.{Bound, DeclaredInterval, BoundFault, no_bound, bound_too_wide, axis_fault, or_later, bound_fault_from}
use Rattle.poly_graph.specs.Problem as problem
use Rattle.poly_graph.specs.Problem.{IsDeclared}
use Rattle.poly_graph.specs.ProblemViews.{declared_of, axis_of}
use Rattle.poly_graph.specs.declared.axis.Axis.{Axis}
use Rattle.poly_graph.specs.declared.axis.Declared.{Declared}
use Rattle.script_forms.specs.ProblemOf.{IsDeclaredBy, AreAxes}
use Rattle.smt_sexp.specs.Views.{place_of}
use Rattle.smt_script.specs.Views.{sort_of}
use Rattle.declared_box.specs.Interval.{interval_by}
use Rattle.declared_box.specs.declared.axes.Constant.{Constant}
use Rattle.declared_box.specs.declared.axes.EndFault.{EndFault}
use Rattle.declared_box.specs.declared.axes.EndFault.TheVariants.{Missing, TooWide}
use Rattle.script_fault.specs.Answers.{IsFaultOrMemory}
use Rattle.script_fault.specs.declared.fault.FaultKind.{FaultKind}
use Rattle.script_fault.specs.declared.fault.FaultKind.TheVariants.{NoBound, BoundTooWide}
use Rattle.script_fault.specs.declared.fault.ReadError.{ReadError}
use Rattle.script_fault.specs.declared.fault.ScriptFault.{ScriptFault}
use Rattle.smt_sexp.specs.TextAnswers.{fault_at}

abbrev pub constant_of : Constant → script.Constant
constant_of c = record { at = place_of c.place; name = c.name.now; sort = sort_of c.sort }

abbrev pub fault_of : EndFault → BoundFault
fault_of Missing = no_bound
fault_of TooWide = bound_too_wide

-- what is declared of a constant of this sort with this interval, or its fault
abbrev pub Declares : Sort → DeclaredInterval → Result Declared EndFault → Type 0
Declares s i (Ok d) = (axis_fault s i ≡ None) × IsDeclaredBy s i (declared_of d) × IsDeclared (declared_of d) × (problem.sort_of (declared_of d) ≡ s)
Declares s i (Err f) = axis_fault s i ≡ Some (fault_of f)

abbrev pub bound_kind : List ℕ → BoundFault → FaultKind
bound_kind name no_bound = NoBound name
bound_kind name bound_too_wide = BoundTooWide name

-- the fault of the bounds of a constant, with its place and its name
abbrev pub bounds_fault : Option (script.Constant × BoundFault) → Option ScriptFault
bounds_fault (Some (c, x)) = Some (fault_at c.at (bound_kind c.name x))
bounds_fault None = None

-- the error is the fault that was found, or out of memory
abbrev pub IsBoundsError : ReadError → Option (script.Constant × BoundFault) → Type 0
IsBoundsError e found = IsFaultOrMemory e (bounds_fault found)

-- the axis of this constant with this interval, or its fault
abbrev pub IsAxisOf : script.Constant → DeclaredInterval → Result Axis ReadError → Type 0
IsAxisOf c i (Ok a) = (axis_fault c.sort i ≡ None) × (a.name.items ≡ c.name) × IsDeclaredBy c.sort i (declared_of a.declared) × IsDeclared (declared_of a.declared) × (problem.sort_of (declared_of a.declared) ≡ c.sort)
IsAxisOf c i (Err e) = (later : Option (script.Constant × BoundFault)) → IsBoundsError e (or_later c (axis_fault c.sort i) later)

-- where the words give this bound, and these are the bounds: the axes of the constants, or the first fault
abbrev pub IsAxesAnswer : Option ℕ → List Bound → List script.Constant → Result (Vec Axis Global) ReadError → Type 0
IsAxesAnswer bound bs constants (Ok axes) = (bound_fault_from (interval_by bound bs) 0 constants ≡ None) × AreAxes (interval_by bound bs) 0 constants (map axis_of axes.items)
IsAxesAnswer bound bs constants (Err e) = IsBoundsError e (bound_fault_from (interval_by bound bs) 0 constants)
