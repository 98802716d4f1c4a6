-- What a phase of the reader answers where it refuses a script.
use Rattle.std.specs.Prelude.{◌≡◌, Option, Some}
use Rattle.script_fault.specs.declared.fault.ReadError.{ReadError}
use Rattle.script_fault.specs.declared.fault.ReadError.TheVariants.{Fault, Memory}
use Rattle.script_fault.specs.declared.fault.ScriptFault.{ScriptFault}

-- the error is this fault, or out of memory
abbrev pub IsFaultOrMemory : ReadError → Option ScriptFault → Type 0
IsFaultOrMemory (Fault fault) found = found ≡ Some fault
IsFaultOrMemory Memory found = Unit {0}
