use Rattle.std.proofs.Common.{◌∙◌}
use Rattle.dyadic.specs.Views.{ext_of}
use Rattle.ival.proofs.Proper.{ordered}
use Rattle.ival.proofs.Products.{square_low_above, square_low_below}
use Rattle.ival.proofs.product.least_square.Goals as goal

pub returns-in-Above : goal.returns-in-Above
returns-in-Above c = let l = ext_of c.args.a.low in let h = ext_of c.args.a.high in c.mul_down.ensures ∙ square_low_above l h (ordered l h c.args.a.proper) (rw c.in-Above.is at c.requires)

pub returns-in-Below : goal.returns-in-Below
returns-in-Below c = let l = ext_of c.args.a.low in let h = ext_of c.args.a.high in c.mul_down-in-Below.ensures ∙ square_low_below l h (ordered l h c.args.a.proper) (rw c.in-Below.is at c.requires)
