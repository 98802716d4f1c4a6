use Rattle.std.proofs.Common.{◌∙◌, ap₂, subst, sym}
use Rattle.dyadic.specs.Rounding.{Ext, end_of}
use Rattle.dyadic.specs.End.{end_quotient, rounded_up}
use Rattle.dyadic.specs.Calls.{IsDivisor}
use Rattle.dyadic.specs.Views.{ext_of}
use Rattle.ival.proofs.Proper.{ordered}
use Rattle.ival.proofs.Quotients.{greatest_divisor, greatest_chosen}
use Rattle.ival.proofs.inverse.greatest_quotient.Goals as goal

pub div_up-requires : goal.div_up-requires
div_up-requires c =
    let a = ext_of c.args.divisor.low in let b = ext_of c.args.divisor.high in
    subst IsDivisor (sym c.second_of_greatest.ensures) (greatest_divisor c.args.first c.args.second a b (ordered a b c.args.divisor.proper) c.requires.second)

pub returns : goal.returns
returns c =
    let l = ext_of c.args.a.low in let h = ext_of c.args.a.high in let a = ext_of c.args.divisor.low in let b = ext_of c.args.divisor.high in
    c.div_up.ensures ∙ ap₂ (λ (e : Ext) (f : Ext). rounded_up (end_quotient (end_of e) (end_of f))) c.first_of_greatest.ensures c.second_of_greatest.ensures ∙
    greatest_chosen l h a b (ordered l h c.args.a.proper) (ordered a b c.args.divisor.proper) c.args.first c.args.second c.requires.first c.requires.second
