use Rattle.std.proofs.Common.{Option, subst}
use Rattle.std.proofs.lemmas.Result.{IfOk-weaker}
use Rattle.squares.specs.Rest.{IsSpread}
use Rattle.squares.specs.declared.polynomial.Polynomial.{Polynomial}
use Rattle.squares.proofs.Spreading.{rest_none, rest_then}
use Rattle.squares.proofs.rest.rest_polynomial.Goals as goal

pub returns-in-None : goal.returns-in-None
returns-in-None c = let k = c.args.combination.now in let centre = c.args.centre.now in let old = c.args.budget.now in let mid = c.spread.new.budget in
    rest_none k centre c.args.blocks.now c.args.space.now old mid (subst (λ (o : Option Polynomial). IsSpread k centre old mid o) c.in-None.is c.in_ok-spread.ensures)

pub returns-in-Some : goal.returns-in-Some
returns-in-Some c = let k = c.args.combination.now in let centre = c.args.centre.now in let old = c.args.budget.now in let mid = c.spread.new.budget in
    IfOk-weaker c.less_blocks.result _ _
    (λ (r : Option Polynomial) h. rest_then k centre c.args.blocks.now c.args.space.now old mid c.less_blocks.new.budget c.in-Some.all r (subst (λ (o : Option Polynomial). IsSpread k centre old mid o) c.in-Some.is c.in_ok-spread.ensures) h)
    c.less_blocks.ensures
