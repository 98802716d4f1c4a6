use Rattle.std.proofs.Common.{◌≡◌, ◌^◌, pos, ap, ap₂, sym, ◌∙◌}
use Rattle.dyadic.specs.Rounding.{Dyadic, finite}
use Rattle.dyadic.specs.declared.dy.Ext.{Ext}
use Rattle.dyadic.specs.Views.{dyadic_of, ext_of}
use Rattle.interval_model.specs.Interval.{between}
use Rattle.ival.specs.Views.{interval_of}
use Rattle.ival.proofs.Equality.{same_number}
use Rattle.plain_eval.proofs.quadratic.is_one.Goals as goal

pub returns-then-eq : goal.returns-then-eq
returns-then-eq c h =
    let one = c.pow2-one.result in
    let e : dyadic_of one ≡ record { units = pos (2 ^ 120) } = c.pow2-one.ensures in
    let low = same_number c.in-Fin-Fin.low one (sym c.eq.ensures ∙ c.if-eq.true) ∙ e in let high = same_number c.in-Fin-Fin.high one (sym c.eq-then-eq.ensures ∙ h) ∙ e in
    ap interval_of c.in-Between.is ∙ ap₂ (λ (l h : Ext). between (ext_of l) (ext_of h)) c.in-Fin-Fin.is-0 c.in-Fin-Fin.is-1 ∙ ap₂ (λ (a b : Dyadic). between (finite a) (finite b)) low high
