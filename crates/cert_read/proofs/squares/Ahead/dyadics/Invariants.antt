use Rattle.std.proofs.Common.{◌≡◌, ◌-◌, map}
use Rattle.dyadic.specs.Views.{dyadic_of}
use Rattle.cert_read.specs.CertLine.{take_dyadic, take_many}
use Rattle.cert_read.specs.Taking.{words_ahead}
use Rattle.cert_read.proofs.Takings.{onto}
use Rattle.cert_read.proofs.squares.Ahead.dyadics.Given as goal

abbrev pub invariant-loop : goal.invariant-loop
invariant-loop l = take_many take_dyadic l.many (words_ahead l.fn.self) ≡ onto (map dyadic_of l.dyadics.items) (take_many take_dyadic (l.many - l.counter) (words_ahead l.self))
