-- What bytes without a fault are.
use Rattle.std.specs.Prelude.{◌≡◌, ℕ, List, Option, Some, None}
use Rattle.script_model.specs.Script.{Command}
use Rattle.smt_script.specs.Levels.{only_script}
use Rattle.sort_check.specs.Sorts.{sort_fault}
use Rattle.script_forms.specs.Walk.{building_fault}
use Rattle.script_reading.specs.Faults.{script_fault}
use Rattle.script_reading.specs.Session.{AreCarried, asked_in, carried_in}

-- these bytes are the text of a script with one check, and these its commands, where constants stand for roots and quotients; they have no
-- fault where the words give this bound
pub record IsAccepted (bound : Option ℕ) (bytes : List ℕ) (script : List Command) : Type 0 where
  pub commands : only_script (asked_in bound bytes) ≡ Some script
  pub sorted : sort_fault script ≡ None
  pub built : building_fault bound script ≡ None

-- Bytes without a fault are the text of a script without one.
abbrev pub FaultlessIsAccepted : Type 0
FaultlessIsAccepted = (bound : Option ℕ) (bytes : List ℕ) → script_fault bound bytes ≡ None → (script : List Command) × IsAccepted bound bytes script

-- Where all commands of a check are said to be in force at the next one, they begin those of the next one.
abbrev pub CarriedBegins : Type 0
CarriedBegins = (bound : Option ℕ) (text : List ℕ) → AreCarried (asked_in bound text) (carried_in bound text)
