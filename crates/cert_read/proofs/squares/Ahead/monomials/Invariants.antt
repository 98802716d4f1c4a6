use Rattle.std.proofs.Common.{◌≡◌, ◌-◌, map}
use Rattle.cover_line.specs.Views.{axes_of}
use Rattle.cert_read.specs.CertLine.{take_monomial, take_many}
use Rattle.cert_read.specs.Taking.{words_ahead}
use Rattle.cert_read.proofs.Takings.{onto}
use Rattle.cert_read.proofs.squares.Ahead.monomials.Given as goal

abbrev pub invariant-loop : goal.invariant-loop
invariant-loop l = take_many take_monomial l.many (words_ahead l.fn.self) ≡ onto (map axes_of l.monomials.items) (take_many take_monomial (l.many - l.counter) (words_ahead l.self))
