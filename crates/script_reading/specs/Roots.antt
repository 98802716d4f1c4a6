-- What a script that is read with roots is: the laws on the rewritten script hold of each of its checks.
use Rattle.std.specs.Prelude.{◌≡◌, ℕ, List, Option, Some, None}
use Rattle.std.specs.List.{AllByRecursion}
use Rattle.script_fault.specs.declared.fault.ScriptFault.{ScriptFault}
use Rattle.script_roots.specs.Laws.{IsRewritable}
use Rattle.smt_script.specs.Levels.{Asked, checks_of}
use Rattle.script_reading.specs.Faults.{plain_session_fault, session_fault}
use Rattle.script_reading.specs.Session.{steps_of_text}

-- Where a script without fault is read with roots, the commands of each check are rewritable: so what is said of the rewritten script at a point
-- is said of the script as it is written (`script_roots`).
abbrev pub RootedIsRewritable : Type 0
RootedIsRewritable = (bound : Option ℕ) (text : List ℕ) (x : ScriptFault) → session_fault bound text ≡ None → plain_session_fault bound text ≡ Some x →
    AllByRecursion (λ (a : Asked). IsRewritable bound a.script) (checks_of (steps_of_text text))
