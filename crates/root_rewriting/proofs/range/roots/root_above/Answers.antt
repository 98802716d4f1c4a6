use Rattle.std.proofs.Common.{◌≡◌, ◌∙◌, subst, sym}
use Rattle.dyadic.specs.Views.{ext_of, units_of}
use Rattle.dyadic.specs.declared.dy.Ext.{Ext}
use Rattle.ival.proofs.RootsOf.{up_same}
use Rattle.script_roots.specs.Ranges.{root_above}
use Rattle.root_rewriting.proofs.range.roots.root_above.Goals as goal

pub returns-in-Fin : goal.returns-in-Fin
returns-in-Fin c =
    subst (λ (e : Ext). ext_of c.sqrt_up.result ≡ root_above (ext_of e)) (sym c.in-Fin.is)
    (c.sqrt_up.ensures ∙ up_same (units_of c.clamped.result) (units_of c.in-Fin.number) c.clamped.ensures.size)
