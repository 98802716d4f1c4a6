use Rattle.std.proofs.Common.{◌≡◌, ◌-◌}
use Rattle.cover_line.specs.Views.{multipliers_of}
use Rattle.cert_read.specs.CertLine.{take_pair, take_many}
use Rattle.cert_read.specs.Taking.{words_ahead}
use Rattle.cert_read.proofs.Takings.{onto}
use Rattle.cert_read.proofs.squares.Ahead.pairs.Given as goal

abbrev pub invariant-loop : goal.invariant-loop
invariant-loop l = take_many take_pair l.many (words_ahead l.fn.self) ≡ onto (multipliers_of l.pairs.items) (take_many take_pair (l.many - l.counter) (words_ahead l.self))
