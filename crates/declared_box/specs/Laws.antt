-- The declared box of a script, by the bounds that its assertions give.
use Rattle.std.specs.Prelude.{◌≡◌, ℕ, List, Option}
use Rattle.script_model.specs.Script.{Command}
use Rattle.script_model.specs.Declared.{declared_interval, script_bounds}
use Rattle.declared_box.specs.Interval.{interval_by}

-- The declared interval of each axis is that by the bounds of the script.
abbrev pub BoxIsThatOfBounds : Type 0
BoxIsThatOfBounds = (bound : Option ℕ) (script : List Command) → declared_interval bound script ≡ interval_by bound (script_bounds script)
