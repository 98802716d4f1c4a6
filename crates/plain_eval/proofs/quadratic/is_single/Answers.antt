use Rattle.std.proofs.Common.{◌≡◌, ap, ap₂, sym, ◌∙◌}
use Rattle.dyadic.specs.Rounding.{Dyadic, finite}
use Rattle.dyadic.specs.declared.dy.Ext.{Ext}
use Rattle.dyadic.specs.Views.{dyadic_of, ext_of}
use Rattle.interval_model.specs.Interval.{between}
use Rattle.ival.specs.Views.{interval_of}
use Rattle.ival.proofs.Equality.{same_number}
use Rattle.plain_eval.proofs.quadratic.is_single.Goals as goal

pub returns-in-Fin-Fin : goal.returns-in-Fin-Fin
returns-in-Fin-Fin c h =
    let low = c.in-Fin-Fin.low in let high = c.in-Fin-Fin.high in
    let same : dyadic_of low ≡ dyadic_of high = same_number low high (sym c.eq.ensures ∙ h) in (
      dyadic_of low,
      ap interval_of c.in-Between.is ∙ ap₂ (λ (l h : Ext). between (ext_of l) (ext_of h)) c.in-Fin-Fin.is-0 c.in-Fin-Fin.is-1 ∙ ap (λ (d : Dyadic). between (finite (dyadic_of low)) (finite d)) (sym same),
    )
