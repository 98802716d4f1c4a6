-- The fault of a script that is too long.
use Rattle.std.proofs.Common.{◌≡◌, ◌<◌, ℕ, List, Option, Some, length, ap₂}
use Rattle.script_fault.specs.declared.fault.ScriptFault.{ScriptFault}
use Rattle.smt_script.specs.Levels.{Asked, Step}
use Rattle.smt_sexp.proofs.Sizes.{fault_of_many}
use Rattle.sort_check.specs.Levels.{course_fault, course_fault_with_roots}
use Rattle.sort_check.specs.Sorts.{Finding}
use Rattle.script_reading.specs.Faults.{by_bytes, in_checks, in_each_check, in_each_rewritten, in_rewritten, most_bytes, script_fault, session_fault, unless_plain}
use Rattle.script_reading.specs.Reader.{too_many_bytes}
use Rattle.script_reading.proofs.Parts.{bytes_first}

long-by : (sorts : List Step → Finding) (last : List Asked → Option ScriptFault) (script : List ℕ) → most_bytes < length script → by_bytes sorts last script ≡ Some too_many_bytes
long-by sorts last script long = bytes_first sorts last script too_many_bytes (fault_of_many script long)

pub long_script : (bound : Option ℕ) (script : List ℕ) → most_bytes < length script → script_fault bound script ≡ Some too_many_bytes
long_script bound script long = ap₂ unless_plain (long-by course_fault (in_checks bound) script long) (long-by course_fault_with_roots (in_rewritten bound) script long)

pub long_session : (bound : Option ℕ) (script : List ℕ) → most_bytes < length script → session_fault bound script ≡ Some too_many_bytes
long_session bound script long = ap₂ unless_plain (long-by course_fault (in_each_check bound) script long) (long-by course_fault_with_roots (in_each_rewritten bound) script long)
