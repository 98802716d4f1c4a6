use Rattle.std.proofs.Common.{◌≡◌, ◌∙◌, Some, ap, sym, subst, ℕ}
use Rattle.dyadic.specs.Views.{ext_of}
use Rattle.dyadic.specs.declared.dy.Ext.{Ext}
use Rattle.ival.specs.Views.{interval_of}
use Rattle.ival.specs.declared.ends.Ival.{Ival}
use Rattle.script_roots.specs.Ranges.{root_above, root_bound}
use Rattle.root_rewriting.proofs.Rooted.{end_on_grid, root_size}
use Rattle.root_rewriting.proofs.range.roots.root_bound.Goals as goal

pub whole_of-requires : goal.whole_of-requires
whole_of-requires c = (root_size (ext_of c.in-Between.ends.high) (end_on_grid c.in-Between.ends.high) c.in-Fin.root c.parts.result
    (subst (λ (e : Ext). ext_of e ≡ root_above (ext_of c.in-Between.ends.high)) c.in-Fin.is c.root_above.ensures) c.parts.ensures).few

pub returns-in-Fin : goal.returns-in-Fin
returns-in-Fin c = subst (λ (i : Ival). Some c.whole_of.result ≡ root_bound (interval_of i)) (sym c.in-Between.is)
    (ap (λ (n : ℕ). Some n) c.whole_of.ensures.value ∙ sym (root_size (ext_of c.in-Between.ends.high) (end_on_grid c.in-Between.ends.high) c.in-Fin.root c.parts.result
    (subst (λ (e : Ext). ext_of e ≡ root_above (ext_of c.in-Between.ends.high)) c.in-Fin.is c.root_above.ensures) c.parts.ensures).whole)
