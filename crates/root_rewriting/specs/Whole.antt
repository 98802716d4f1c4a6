-- Whole numbers as they are written.
use Rattle.std.specs.Prelude.{ℕ, ◌*◌, ◌^◌}
use Rattle.root_rewriting.specs.declared.whole.Whole.{Whole}

abbrev pub number_of : Whole → ℕ
number_of w = w.factor * 2 ^ w.power
