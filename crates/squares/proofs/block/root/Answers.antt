use Rattle.std.proofs.Common.{sym, ◌∙◌, arith}
use Rattle.squares.specs.Views.{terms_of}
use Rattle.squares.proofs.Rowing.{row_done}
use Rattle.squares.proofs.block.root.Goals as goal

pub returns : goal.returns
returns c = sym (row_done c.args.monomials.now c.args.numbers.now c.loop-place.place (terms_of c.loop-place.root) (omega (arith, c.loop-place-test.false, c.min-count.ensures))) ∙ c.loop-place.invariant
