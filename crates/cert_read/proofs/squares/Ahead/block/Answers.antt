use Rattle.std.proofs.Common.{map}
use Rattle.cover_line.specs.Views.{axes_of, factor_of, numbers_of}
use Rattle.cert_read.specs.Taking.{words_ahead}
use Rattle.cert_read.proofs.Takings.{block_on}
use Rattle.cert_read.proofs.squares.Ahead.block.Goals as goal

pub returns : goal.returns
returns c =
    block_on (words_ahead c.args.self.now) (words_ahead c.factor.new.self) (words_ahead c.count.new.self) (words_ahead c.monomials.new.self) (words_ahead c.rows.new.self)
    (factor_of c.in_ok-factor.factor) c.in_ok-many.many (map axes_of c.in_ok-monomials.monomials.items) (map numbers_of c.in_ok-rows.rows.items)
    c.in_ok-factor.ensures c.in_ok-many.ensures c.in_ok-monomials.ensures c.in_ok-rows.ensures
