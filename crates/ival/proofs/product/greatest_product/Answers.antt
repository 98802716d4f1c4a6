use Rattle.std.proofs.Common.{◌∙◌, ap₂}
use Rattle.dyadic.specs.Rounding.{Ext, end_of}
use Rattle.dyadic.specs.End.{end_product, rounded_up, greater_ext}
use Rattle.dyadic.specs.Views.{ext_of}
use Rattle.ival.proofs.Proper.{ordered}
use Rattle.ival.proofs.Products.{single_first, single_second, greatest_single, greatest_double}
use Rattle.ival.proofs.product.greatest_product.Goals as goal

pub returns-in-Across-Across : goal.returns-in-Across-Across
returns-in-Across-Across c =
    let a = c.args.a in let b = c.args.b in
    let l = ext_of a.low in let h = ext_of a.high in let m = ext_of b.low in let k = ext_of b.high in
    let first = rw (c.in-Across-Across.is-0, c.in-Across-Across.is-1) at c.first_of_greatest.ensures in
    let second = rw (c.in-Across-Across.is-0, c.in-Across-Across.is-1) at c.second_of_greatest.ensures in
    c.greater.ensures
    ∙ ap₂ greater_ext (c.mul_up-product.ensures ∙ ap₂ (λ (e : Ext) (f : Ext). rounded_up (end_product (end_of e) (end_of f))) first second) c.mul_up.ensures
    ∙ greatest_double l h m k (ordered l h a.proper) (ordered m k b.proper) (rw c.in-Across-Across.is-0 at c.requires.first) (rw c.in-Across-Across.is-1 at c.requires.second)

pub returns-in_default : goal.returns-in_default
returns-in_default c =
    let a = c.args.a in let b = c.args.b in
    let l = ext_of a.low in let h = ext_of a.high in let m = ext_of b.low in let k = ext_of b.high in
    c.mul_up-product.ensures ∙ ap₂ (λ (e : Ext) (f : Ext). rounded_up (end_product (end_of e) (end_of f))) c.first_of_greatest.ensures c.second_of_greatest.ensures
    ∙ greatest_single l h m k (ordered l h a.proper) (ordered m k b.proper) c.args.first c.args.second (single_second c.args.first c.args.second c.in_default.not-Across-1) c.requires.first c.requires.second

pub returns-in_default-2 : goal.returns-in_default-2
returns-in_default-2 c =
    let a = c.args.a in let b = c.args.b in
    let l = ext_of a.low in let h = ext_of a.high in let m = ext_of b.low in let k = ext_of b.high in
    c.mul_up-product.ensures ∙ ap₂ (λ (e : Ext) (f : Ext). rounded_up (end_product (end_of e) (end_of f))) c.first_of_greatest.ensures c.second_of_greatest.ensures
    ∙ greatest_single l h m k (ordered l h a.proper) (ordered m k b.proper) c.args.first c.args.second (single_first c.args.first c.args.second c.in_default.not-Across-0) c.requires.first c.requires.second
