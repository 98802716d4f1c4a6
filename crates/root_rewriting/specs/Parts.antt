-- Numbers in 2^20ths, as they are written.
use Rattle.std.specs.Prelude.{◌≡◌, ℕ, cond, ℤ}
use Rattle.script_model.specs.Sexp.{Place, Sexp}
use Rattle.script_roots.specs.Rewritten.{negative_parts_at, parts_above, parts_at, parts_below}
use Rattle.root_rewriting.specs.Whole.{number_of}
use Rattle.root_rewriting.specs.declared.parts.Parts.{Parts}

abbrev pub written_parts : Place → Parts → Sexp
written_parts at p = cond p.negative (negative_parts_at at (number_of p.count)) (parts_at at (number_of p.count))

-- so many units rounded down, and up
abbrev pub IsBelow : ℤ → Parts → Type 0
IsBelow units p = (at : Place) → written_parts at p ≡ parts_below at units

abbrev pub IsAbove : ℤ → Parts → Type 0
IsAbove units p = (at : Place) → written_parts at p ≡ parts_above at units
