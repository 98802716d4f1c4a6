use Rattle.std.proofs.Common.{Option, sym, subst, ◌∙◌}
use Rattle.squares.specs.Rest.{IsRest}
use Rattle.squares.specs.declared.polynomial.Polynomial.{Polynomial}
use Rattle.squares.proofs.Deciding.{has_rest, no_rest, too_wide}
use Rattle.squares.proofs.positive.is_positive.Goals as goal

pub returns-then-not-are_few : goal.returns-then-not-are_few
returns-then-not-are_few c = too_wide c.args.combination.now c.args.blocks.now c.args.space.now c.args.centre.now (sym c.are_few.ensures ∙ c.if-not-are_few.true)

pub returns-in-None : goal.returns-in-None
returns-in-None c =
    let k = c.args.combination.now in let bs = c.args.blocks.now in let space = c.args.space.now in let centre = c.args.centre.now in let old = c.new-budget.result in let mid = c.rest_polynomial.new.budget in
    no_rest k bs space centre old mid c.new-budget.ensures (subst (λ (o : Option Polynomial). IsRest k bs space centre old mid o) c.in-None.is c.in_ok-rest_polynomial.ensures)

pub returns-in-Some : goal.returns-in-Some
returns-in-Some c =
    let k = c.args.combination.now in let bs = c.args.blocks.now in let space = c.args.space.now in let centre = c.args.centre.now in let old = c.new-budget.result in let mid = c.rest_polynomial.new.budget in
    has_rest k bs space centre old mid c.in-Some.rest c.new-budget.ensures (sym c.are_few.ensures ∙ c.if-not-are_few.false)
    (subst (λ (o : Option Polynomial). IsRest k bs space centre old mid o) c.in-Some.is c.in_ok-rest_polynomial.ensures) c.is_above_allowed.result c.is_above_allowed.ensures
