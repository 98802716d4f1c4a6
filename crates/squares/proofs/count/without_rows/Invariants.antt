use Rattle.std.proofs.Common.{◌≡◌, ◌+◌, map, drop}
use Rattle.cover_line.specs.Views.{numbers_of}
use Rattle.square_model.specs.Positive.{sizes_of}
use Rattle.squares.proofs.count.without_rows.Given as goal

-- those before are taken away
abbrev pub invariant-loop-row : goal.invariant-loop-row
invariant-loop-row l = l.less + sizes_of (map numbers_of l.rows) ≡ l.left + sizes_of (map numbers_of (drop l.row-index l.rows))
