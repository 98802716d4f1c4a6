use Rattle.std.proofs.Common.{◌≡◌, ap₂, sym, ◌∙◌}
use Rattle.cover_model.specs.Combination.{interval_difference}
use Rattle.ival.specs.Views.{interval_of}
use Rattle.ival.proofs.Equality.{same_interval}
use Rattle.cover_model.proofs.CombinationNoughts.{point_difference}
use Rattle.plain_eval.proofs.sweep.is_still.Goals as goal

pub returns-then-is_single : goal.returns-then-is_single
returns-then-is_single c h =
    let own = c.get-interval.result in let centre = c.get.result in
    let same : interval_of own ≡ interval_of centre = same_interval own centre (sym c.eq.ensures ∙ h) in
    let number = c.is_single.ensures c.if-is_single.true in
    ap₂ interval_difference (sym c.get-interval.ensures ∙ number.1) (sym c.get.ensures ∙ sym same ∙ number.1) ∙ point_difference number.0
