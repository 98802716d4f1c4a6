-- That the demo's script has no fault.
use Rattle.std.specs.Prelude.{◌≡◌, ◌≤◌, ℕ, Option, None}
use Rattle.gen_script.specs.Demo.{demo_script}
use Rattle.script_reading.specs.Faults.{script_fault}

-- at every seed and size, whatever bound the words give
abbrev pub DemoIsFaultless : Type 0
DemoIsFaultless = (bound : Option ℕ) (seed size : ℕ) → size ≤ 10000 → script_fault bound (demo_script seed size) ≡ None
