use Rattle.std.proofs.Common.{Bool, true, false, refl, subst, arith}
use Rattle.ival.specs.SpaceViews.{space_of}
use Rattle.squares.specs.Sums.{IsTaken}
use Rattle.squares.specs.Views.{terms_of}
use Rattle.cover_line.specs.declared.block.Block.{Block}
use Rattle.cover_line.specs.Views.{block_of}
use Rattle.squares.proofs.Taking.{all_taken, none_taken, one_taken}
use Rattle.squares.proofs.rest.subtract_blocks.Goals as goal

pub loop-place-init : goal.loop-place-init
loop-place-init c = (0, record { steps = omega arith; rest = refl; blocks = refl })

pub returns-then-not-branch : goal.returns-then-not-branch
returns-then-not-branch c =
    let space = space_of c.args.space.now in let centre = space_of c.args.centre.now in let bs = c.args.blocks.now in let k = c.loop-place.place in let d = c.block_at-block.result.now in
    let old = c.loop-place.budget in let new = c.subtract_block.new.budget in let p = c.loop-place.rest in let r = c.subtract_block.new.rest in let before = c.loop-place.invariant in
    none_taken space centre bs k d (terms_of c.args.rest.now) c.args.budget.now old new p r before.0 c.loop-place-test.true before.1
    (subst (λ (b : Block). IsTaken space centre (block_of b) (terms_of p) old new r false) c.block_at-block.ensures
    (subst (λ (b : Bool). IsTaken space centre (block_of d) (terms_of p) old new r b) c.if-not-branch.true c.in_ok-subtract_block.ensures))

pub loop-place-preserved : goal.loop-place-preserved
loop-place-preserved c =
    let space = space_of c.args.space.now in let centre = space_of c.args.centre.now in let bs = c.args.blocks.now in let k = c.loop-place.place in let d = c.block_at-block.result.now in
    let old = c.loop-place.budget in let new = c.subtract_block.new.budget in let p = c.loop-place.rest in let r = c.subtract_block.new.rest in let before = c.loop-place.invariant in (
      _,
      one_taken space centre bs k d (terms_of c.args.rest.now) c.args.budget.now old new p r before.0 c.loop-place-test.true before.1
          (subst (λ (b : Block). IsTaken space centre (block_of b) (terms_of p) old new r true) c.block_at-block.ensures
          (subst (λ (b : Bool). IsTaken space centre (block_of d) (terms_of p) old new r b) c.if-not-branch.false c.in_ok-subtract_block.ensures)),
    )

pub returns : goal.returns
returns c =
    let before = c.loop-place.invariant in
    all_taken (space_of c.args.space.now) (space_of c.args.centre.now) c.args.blocks.now c.loop-place.place (terms_of c.args.rest.now) c.args.budget.now c.loop-place.budget c.loop-place.rest before.0 (omega (arith, c.loop-place-test.false)) before.1
