use Rattle.std.proofs.Common.{inl, inr, Option, Bool, sym, subst, ◌∙◌}
use Rattle.std.proofs.lemmas.Result.{IfOk-weaker}
use Rattle.cover_line.specs.Views.{block_of}
use Rattle.ival.specs.SpaceViews.{space_of}
use Rattle.square_model.specs.Block.{block_polynomial}
use Rattle.squares.specs.Blocks.{ComesTo}
use Rattle.squares.specs.Views.{terms_of}
use Rattle.squares.specs.declared.polynomial.Polynomial.{Polynomial}
use Rattle.squares.proofs.Summing.{block_unfit, block_none, block_taken}
use Rattle.squares.proofs.rest.subtract_block.Goals as goal

pub returns-then-not-is_block : goal.returns-then-not-is_block
returns-then-not-is_block c = inl (block_unfit (space_of c.args.space.now) (space_of c.args.centre.now) (block_of c.args.block.now) (sym c.is_block.ensures ∙ c.if-not-is_block.true))

pub returns-in-None : goal.returns-in-None
returns-in-None c =
    let space = space_of c.args.space.now in let centre = space_of c.args.centre.now in let b = block_of c.args.block.now in
    inr (block_none space centre b (terms_of c.args.rest.now) c.args.budget.now c.block_polynomial.new.budget
    (subst (λ (o : Option Polynomial). ComesTo (block_polynomial space centre b) c.args.budget.now c.block_polynomial.new.budget o) c.in-None.is c.in_ok-block_polynomial.ensures))

pub returns-in-Some : goal.returns-in-Some
returns-in-Some c =
    let space = space_of c.args.space.now in let centre = space_of c.args.centre.now in let b = block_of c.args.block.now in let mid = c.block_polynomial.new.budget in
    IfOk-weaker c.subtract_short.result _ _
    (λ (r : Bool) h. block_taken space centre b (terms_of c.args.rest.now) c.in-Some.squares c.args.budget.now mid c.subtract_short.new.budget c.subtract_short.new.rest r
    (sym c.is_block.ensures ∙ c.if-not-is_block.false)
    (subst (λ (o : Option Polynomial). ComesTo (block_polynomial space centre b) c.args.budget.now mid o) c.in-Some.is c.in_ok-block_polynomial.ensures) h)
    c.subtract_short.ensures
