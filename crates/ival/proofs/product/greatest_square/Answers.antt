use Rattle.std.proofs.Common.{◌∙◌, ap₂}
use Rattle.dyadic.specs.End.{greater_ext}
use Rattle.dyadic.specs.Views.{ext_of}
use Rattle.ival.proofs.Proper.{ordered}
use Rattle.ival.proofs.Products.{square_high_above, square_high_below, square_high_across}
use Rattle.ival.proofs.product.greatest_square.Goals as goal

pub returns-in-Above : goal.returns-in-Above
returns-in-Above c = let l = ext_of c.args.a.low in let h = ext_of c.args.a.high in c.mul_up.ensures ∙ square_high_above l h (ordered l h c.args.a.proper) (rw c.in-Above.is at c.requires)

pub returns-in-Below : goal.returns-in-Below
returns-in-Below c = let l = ext_of c.args.a.low in let h = ext_of c.args.a.high in c.mul_up-in-Below.ensures ∙ square_high_below l h (ordered l h c.args.a.proper) (rw c.in-Below.is at c.requires)

pub returns-in-Across : goal.returns-in-Across
returns-in-Across c = let l = ext_of c.args.a.low in let h = ext_of c.args.a.high in
    c.greater.ensures ∙ ap₂ greater_ext c.mul_up-in-Across.ensures c.mul_up-in-Across-2.ensures ∙ square_high_across l h (ordered l h c.args.a.proper)
