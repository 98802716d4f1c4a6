use Rattle.std.proofs.Common.{◌≡◌, ap₂, sym, ◌∙◌}
use Rattle.cover_model.specs.Combination.{interval_difference}
use Rattle.ival.specs.Views.{interval_of}
use Rattle.ival.proofs.Equality.{same_interval}
use Rattle.cover_model.proofs.CombinationNoughts.{point_difference}
use Rattle.combine.proofs.expand.is_fixed.Goals as goal

pub returns-then-is_number : goal.returns-then-is_number
returns-then-is_number c h =
    let own = c.get-own.result in let centre = c.get.result in
    let same : interval_of own ≡ interval_of centre = same_interval own centre (sym c.eq.ensures ∙ h) in
    let number = c.is_number.ensures c.if-is_number.true in
    ap₂ interval_difference (sym c.get-own.ensures ∙ number.1) (sym c.get.ensures ∙ sym same ∙ number.1) ∙ point_difference number.0
