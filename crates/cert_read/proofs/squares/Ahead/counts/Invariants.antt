use Rattle.std.proofs.Common.{◌≡◌, ◌-◌}
use Rattle.cert_read.specs.CertLine.{take_count, take_many}
use Rattle.cert_read.specs.Taking.{words_ahead}
use Rattle.cert_read.proofs.Takings.{onto}
use Rattle.cert_read.proofs.squares.Ahead.counts.Given as goal

abbrev pub invariant-loop : goal.invariant-loop
invariant-loop l = take_many take_count l.many (words_ahead l.fn.self) ≡ onto l.counts.items (take_many take_count (l.many - l.counter) (words_ahead l.self))
