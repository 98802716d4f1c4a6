use Rattle.std.proofs.Common.{◌∙◌, ap₂}
use Rattle.dyadic.specs.Rounding.{Ext, ext_at_most}
use Rattle.dyadic.specs.Views.{fraction_of_frac}
use Rattle.dyadic.proofs.SizePositive.{size_positive}
use Rattle.declared_box.proofs.Widths.{kept_by_rounding}
use Rattle.declared_box.proofs.kept.is_kept.Goals as goal

pub returns : goal.returns
returns c = c.at_most.ensures ∙ ap₂ (λ (u d : Ext). ext_at_most u d) c.up_frac.ensures c.down_frac.ensures ∙ kept_by_rounding (fraction_of_frac c.args.value) (size_positive c.args.value.d c.args.value.lowest.positive)
