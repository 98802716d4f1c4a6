-- What is answered of a script that has a fault, and of one that has none.
use Rattle.std.specs.Prelude.{◌≡◌, ◌≤◌, ◌<◌, ℕ, List, [], ◌∷◌, Bool, Option, Some, None, IfSome, option_map, length}
use Rattle.std.specs.List.{AllByRecursion}
use Rattle.desk.specs.declared.desk.Port.TheVariants.{Script}
use Rattle.desk.specs.Sight.{Sight, SideFailed}
use Rattle.poly_graph.specs.ProblemViews.{Parts}
use Rattle.check_run.specs.declared.script.Halt.{Halt}
use Rattle.check_run.specs.declared.script.Halt.TheVariants as halt
use Rattle.script_fault.specs.declared.fault.ScriptFault.{ScriptFault}
use Rattle.check_run.specs.ScriptFaults.{fault_text}
use Rattle.script_reading.specs.Faults.{most_bytes}
use Rattle.script_reading.specs.Reader.{too_many_bytes}
use Rattle.check_run.specs.declared.status.Status.{Status}
use Rattle.check_run.specs.declared.status.Status.TheVariants.{ScriptRefused, InFailed, NoMemory}
use Rattle.check_run.specs.Course.{Start, Quiet, says, Ends}
use Rattle.check_run.specs.Parts.{After}

-- as many axes and atoms as a search takes at most
pub record IsWithin (p : Parts) : Type 0 where
  pub axes : length p.axes ≤ 1024
  pub atoms : length p.atoms ≤ 65536

abbrev pub AreWithin : List (Parts × Bool) → Type 0
AreWithin session = AllByRecursion (λ (p : Parts × Bool). IsWithin p.0) session

-- the fault is one with this text
abbrev pub HasFaultText : Option ScriptFault → List ℕ → Type 0
HasFaultText fault text = option_map fault_text fault ≡ Some text

-- why bytes have no problems: their first fault, by its text, or out of memory, since no port fails
abbrev pub IsHaltOfFault : Option ScriptFault → Halt → Type 0
IsHaltOfFault fault (halt.Refused text) = HasFaultText fault text.items
IsHaltOfFault fault halt.Failed = ⊥
IsHaltOfFault fault halt.Memory = Unit {0}

-- a refusal with this text
abbrev pub HasText : List ℕ → Halt → Type 0
HasText text (halt.Refused said) = said.items ≡ text
HasText text halt.Failed = ⊥
HasText text halt.Memory = Unit {0}

abbrev pub script_start : List ℕ → List Start
script_start name = (Script, name) ∷ []

-- a script of which this holds was read from its port, to its end
pub record Fetches (name : List ℕ) (Has : List ℕ → Type 0) (old new : Sight) : Type 0 where
  pub after : After (script_start name) old new
  pub read : IfSome old.script (λ script. new.script ≡ Some [])
  pub has : IfSome old.script Has

-- it was read, to its end where it is not too long, and has a fault, where this is the first fault of each script
pub record FetchesFault (first : List ℕ → Option ScriptFault) (name text : List ℕ) (old new : Sight) : Type 0 where
  pub after : After (script_start name) old new
  pub read : IfSome old.script (λ script. length script ≤ most_bytes → new.script ≡ Some [])
  pub has : IfSome old.script (λ script. HasFaultText (first script) text)

abbrev pub Halts : (List ℕ → Option ScriptFault) → List ℕ → Halt → Sight → Sight → Type 0
Halts first name (halt.Refused text) old new = FetchesFault first name text.items old new
Halts first name halt.Failed old new = SideFailed old.in_faults new.in_faults × Quiet (script_start name) old new
Halts first name halt.Memory old new = Quiet (script_start name) old new

-- the atom of a goal is one of the problem
abbrev pub IsAtomOf : Option ℕ → Parts → Type 0
IsAtomOf None p = Unit {0}
IsAtomOf (Some g) p = g < length p.atoms

-- the refusal of a script with too many bytes
abbrev pub IsTooLong : Halt → Type 0
IsTooLong h = HasText (fault_text too_many_bytes) h

-- the end of a run that halts
abbrev pub HaltEnds : Halt → Sight → Sight → Status → Type 0
HaltEnds (halt.Refused text) old new status = Ends (says ScriptRefused text.items) old new status
HaltEnds halt.Failed old new status = (status ≡ InFailed) × (new ≡ old)
HaltEnds halt.Memory old new status = (status ≡ NoMemory) × (new ≡ old)
