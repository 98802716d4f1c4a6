use Rattle.cert_read.specs.Taking.{blocks_in, pairs_in, words_ahead}
use Rattle.cert_read.specs.Words.{words_behind}
use Rattle.cert_read.proofs.Takings.{squares_on}
use Rattle.std.proofs.Common.{option_copied}
use Rattle.cert_read.proofs.squares.squares.Goals as goal

pub returns : goal.returns
returns c f =
    squares_on (words_behind (option_copied c.args.rest)) (words_ahead c.count.new.self) (words_ahead c.pairs.new.self) (words_ahead c.blocks-2.new.self)
    c.in_ok-many.many (pairs_in c.in_ok-pairs.pairs) (blocks_in c.in_ok-blocks.blocks) c.in_ok-many.ensures c.in_ok-pairs.ensures c.in_ok-blocks.ensures f
