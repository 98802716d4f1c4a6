use Rattle.dyadic.specs.Views.{dyadic_of}
use Rattle.cert_read.specs.Taking.{words_ahead}
use Rattle.cert_read.proofs.Takings.{pair_on}
use Rattle.cert_read.proofs.squares.Ahead.pair.Goals as goal

pub returns : goal.returns
returns c =
    pair_on (words_ahead c.args.self.now) (words_ahead c.count.new.self) (words_ahead c.dyadic.new.self) c.in_ok-atom.atom (dyadic_of c.in_ok-multiplier.multiplier)
    c.in_ok-atom.ensures c.in_ok-multiplier.ensures
