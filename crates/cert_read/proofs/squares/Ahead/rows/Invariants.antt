use Rattle.std.proofs.Common.{◌≡◌, ◌-◌, map}
use Rattle.cover_line.specs.Views.{numbers_of}
use Rattle.cert_read.specs.CertLine.{take_rows}
use Rattle.cert_read.specs.Taking.{words_ahead}
use Rattle.cert_read.proofs.Takings.{onto}
use Rattle.cert_read.proofs.squares.Ahead.rows.Given as goal

abbrev pub invariant-loop-above : goal.invariant-loop-above
invariant-loop-above l = take_rows l.many (words_ahead l.fn.self) ≡ onto (map numbers_of l.rows.items) (take_rows (l.many - l.above) (words_ahead l.self))
