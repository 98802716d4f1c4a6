use Rattle.std.proofs.Common.{◌≡◌, map, take}
use Rattle.cover_line.specs.Views.{numbers_of}
use Rattle.cover_data.proofs.squares.copies_of_rows.Given as goal

-- those before are copied
abbrev pub invariant-loop-row : goal.invariant-loop-row
invariant-loop-row l = map numbers_of l.all.items ≡ map numbers_of (take l.row-index l.rows)
