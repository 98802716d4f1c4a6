use Rattle.std.proofs.Common.{Option, Bool, ap, subst, ◌∙◌}
use Rattle.std.proofs.lemmas.Result.{IfOk-weaker}
use Rattle.dyadic.specs.Views.{dyadic_of}
use Rattle.square_model.specs.Polynomial.{constant_polynomial}
use Rattle.square_model.specs.Steps.{counted, counted_product}
use Rattle.squares.specs.Blocks.{ComesTo}
use Rattle.squares.specs.Views.{terms_of}
use Rattle.squares.specs.declared.polynomial.Polynomial.{Polynomial}
use Rattle.squares.proofs.Summing.{multiple_none, multiple_added}
use Rattle.squares.proofs.sum.add_multiple.Goals as goal

pub returns-in-None : goal.returns-in-None
returns-in-None c =
    let f = terms_of c.in_ok-factor.factor in let t = terms_of c.args.term.now in
    multiple_none (terms_of c.args.sum.now) f t (dyadic_of c.args.multiplier) c.args.budget.now c.times.new.budget
    (c.in_ok-factor.ensures ∙ ap constant_polynomial c.only.ensures)
    (subst (λ (o : Option Polynomial). ComesTo (counted_product (counted f) (counted t)) c.args.budget.now c.times.new.budget o) c.in-None.is c.in_ok-times.ensures)

pub returns : goal.returns
returns c =
    let f = terms_of c.in_ok-factor.factor in let t = terms_of c.args.term.now in let m = c.in-Some.multiple in let mid = c.times.new.budget in
    IfOk-weaker c.add_within.result _ _
    (λ (r : Bool) h. multiple_added (terms_of c.args.sum.now) f t (dyadic_of c.args.multiplier) m c.args.budget.now mid c.add_within.new.budget c.add_within.new.sum r
    (c.in_ok-factor.ensures ∙ ap constant_polynomial c.only.ensures)
    (subst (λ (o : Option Polynomial). ComesTo (counted_product (counted f) (counted t)) c.args.budget.now mid o) c.in-Some.is c.in_ok-times.ensures) h)
    c.add_within.ensures
