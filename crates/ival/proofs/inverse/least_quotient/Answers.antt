use Rattle.std.proofs.Common.{◌∙◌, ap₂, subst, sym}
use Rattle.dyadic.specs.Rounding.{Ext, end_of}
use Rattle.dyadic.specs.End.{end_quotient, rounded_down}
use Rattle.dyadic.specs.Calls.{IsDivisor}
use Rattle.dyadic.specs.Views.{ext_of}
use Rattle.ival.proofs.Proper.{ordered}
use Rattle.ival.proofs.Quotients.{least_divisor, least_chosen}
use Rattle.ival.proofs.inverse.least_quotient.Goals as goal

pub div_down-requires : goal.div_down-requires
div_down-requires c =
    let a = ext_of c.args.divisor.low in let b = ext_of c.args.divisor.high in
    subst IsDivisor (sym c.second_of_least.ensures) (least_divisor c.args.first c.args.second a b (ordered a b c.args.divisor.proper) c.requires.second)

pub returns : goal.returns
returns c =
    let l = ext_of c.args.a.low in let h = ext_of c.args.a.high in let a = ext_of c.args.divisor.low in let b = ext_of c.args.divisor.high in
    c.div_down.ensures ∙ ap₂ (λ (e : Ext) (f : Ext). rounded_down (end_quotient (end_of e) (end_of f))) c.first_of_least.ensures c.second_of_least.ensures ∙
    least_chosen l h a b (ordered l h c.args.a.proper) (ordered a b c.args.divisor.proper) c.args.first c.args.second c.requires.first c.requires.second
