-- What the building of a script answers.
use Rattle.std.specs.Prelude.{◌≡◌, ℕ, ◌≤◌, List, length, Option, Some, None, Result, Ok, Err}
use Rattle.script_model.specs.Sexp.{Place}
use Rattle.script_model.specs.Script.{Command}
use Rattle.poly_graph.specs.AtomTable.{most_atoms}
use Rattle.poly_graph.specs.ProblemViews.{Parts, problem_of}
use Rattle.poly_graph.specs.Shared.{IsGraph}
use Rattle.script_forms.specs.ProblemOf.{IsProblemOf}
use Rattle.script_forms.specs.Walk.{Walked, stops, BuildingFault, building_fault}
use Rattle.script_fault.specs.Answers.{IsFaultOrMemory}
use Rattle.script_fault.specs.declared.fault.FaultKind.{FaultKind}
use Rattle.script_fault.specs.declared.fault.FaultKind.TheVariants as kinds
use Rattle.script_fault.specs.declared.fault.ReadError.{ReadError}
use Rattle.script_reading.specs.Faults.{in_building}
use Rattle.term_build.specs.declared.stop.Fault.{Fault}
use Rattle.term_build.specs.declared.stop.Fault.TheVariants.{NumberTooWide, DivisorNotConstant, ZeroDivisor, IllFormed}

-- the kind of a builder's fault
abbrev pub builder_kind : Fault → FaultKind
builder_kind NumberTooWide = kinds.NumberTooWide
builder_kind DivisorNotConstant = kinds.DivisorNotConstant
builder_kind ZeroDivisor = kinds.ZeroDivisor
builder_kind IllFormed = kinds.SortMismatch

-- the error is the fault that was found, or out of memory
abbrev pub IsBuildingError : ReadError → Option (Place × BuildingFault) → Type 0
IsBuildingError e found = IsFaultOrMemory e (in_building found)

-- the problem of a script without a fault, or its first fault, where the words give this bound
abbrev pub IsBuildAnswer : Option ℕ → List Command → Result Parts ReadError → Type 0
IsBuildAnswer bound script (Ok p) = (building_fault bound script ≡ None) × IsProblemOf bound script (problem_of p)
IsBuildAnswer bound script (Err e) = IsBuildingError e (building_fault bound script)

-- each node of the terms stands once, and there are no more atoms than there may be
pub record IsLean (p : Parts) : Type 0 where
  pub nodes : IsGraph p.nodes
  pub atoms : length p.atoms ≤ most_atoms

-- where a walk stops
abbrev pub found_by : Walked → Option (Place × BuildingFault)
found_by (stops place x) = Some (place, x)
found_by w = None
