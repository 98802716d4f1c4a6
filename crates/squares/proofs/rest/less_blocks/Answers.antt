use Rattle.std.proofs.Common.{Bool, map, subst}
use Rattle.cover_line.specs.Views.{block_of}
use Rattle.ival.specs.SpaceViews.{space_of}
use Rattle.squares.specs.Sums.{AreTaken}
use Rattle.squares.specs.Views.{terms_of}
use Rattle.squares.proofs.rest.less_blocks.Goals as goal

pub returns-then-not-branch : goal.returns-then-not-branch
returns-then-not-branch c =
    subst (λ (b : Bool). AreTaken (space_of c.args.space.now) (space_of c.args.centre.now) (map block_of c.args.blocks.now) (terms_of c.args.all) c.args.budget.now c.subtract_blocks.new.budget c.subtract_blocks.new.rest b)
    c.if-not-branch.true c.in_ok-subtract_blocks.ensures

pub returns : goal.returns
returns c =
    subst (λ (b : Bool). AreTaken (space_of c.args.space.now) (space_of c.args.centre.now) (map block_of c.args.blocks.now) (terms_of c.args.all) c.args.budget.now c.subtract_blocks.new.budget c.subtract_blocks.new.rest b)
    c.if-not-branch.false c.in_ok-subtract_blocks.ensures
