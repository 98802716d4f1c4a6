use Rattle.std.proofs.Common.{ℕ, List, sym, subst}
use Rattle.cover_line.specs.Views.{axes_of}
use Rattle.cert_read.specs.CertLine.{Taken}
use Rattle.cert_read.specs.Taking.{IsTaken, words_ahead}
use Rattle.cert_read.proofs.Takings.{monomial_on}
use Rattle.cert_read.proofs.squares.Ahead.monomial.Goals as goal

pub returns : goal.returns
returns c =
    subst (λ (t : Taken (List ℕ)). IsTaken axes_of t c.counts.result (words_ahead c.counts.new.self))
    (sym (monomial_on (words_ahead c.args.self.now) (words_ahead c.count.new.self) c.in_ok-many.many c.in_ok-many.ensures)) c.counts.ensures
