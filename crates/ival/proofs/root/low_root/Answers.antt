use Rattle.std.proofs.Common.{◌≡◌, ◌∙◌, subst, sym}
use Rattle.dyadic.specs.declared.dy.Ext.{Ext}
use Rattle.dyadic.specs.Rounding.{below_all, root_down}
use Rattle.interval_model.specs.Interval.{root_end}
use Rattle.dyadic.specs.Views.{ext_of, units_of}
use Rattle.ival.proofs.RootsOf.{down_same}
use Rattle.ival.proofs.root.low_root.Goals as goal

pub returns-in-Fin-clause-root : goal.returns-in-Fin-clause-root
returns-in-Fin-clause-root c =
    subst (λ (e : Ext). ext_of c.sqrt_down.result ≡ root_end below_all root_down (ext_of e)) (sym c.in-Fin.is)
    (c.sqrt_down.ensures ∙ down_same (units_of c.clamped.result) (units_of c.in-Fin.number) c.clamped.ensures.size)
