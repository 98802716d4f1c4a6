use Rattle.std.proofs.Common.{◌≡◌, ◌+◌, ◌∙◌, arith, ap, sym, refl, suc, length, Some, rc_value}
use Rattle.std.specs.Prelude.{slice_get}
use Rattle.std.proofs.lemmas.Option.{slice_get_read}
use Rattle.root_rewriting.specs.Locals.{local_node}
use Rattle.root_rewriting.proofs.Nearest.{levels_at, nearest_some, nearest_none}
use Rattle.root_rewriting.proofs.unfold.locals.Locals.node_of.Goals as goal

pub returns-in-Some : goal.returns-in-Some
returns-in-Some c = let ls = c.self.inside.levels.items in let i = c.loop-i.i in let r = c.index.result.now in let x = c.args.name.now in
    let there : slice_get ls i ≡ Some r = slice_get_read ls (length ls) i r refl (omega (arith, c.loop-i-test.true, c.len-i-end.ensures, c.self.inside.levels.ok.0)) c.index.ensures in
    rw (← c.self.view_is)
    (sym (c.loop-i.invariant ∙ ap (local_node x) (levels_at rc_value ls i (suc i) r refl there) ∙ nearest_some x (rc_value r) _ c.in-Some.node (ap (local_node x) (sym c.deref.ensures) ∙ sym c.in-Some.ensures)))

pub loop-i-preserved : goal.loop-i-preserved
loop-i-preserved c = let ls = c.self.inside.levels.items in let i = c.loop-i.i in let r = c.index.result.now in let x = c.args.name.now in
    let there : slice_get ls i ≡ Some r = slice_get_read ls (length ls) i r refl (omega (arith, c.loop-i-test.true, c.len-i-end.ensures, c.self.inside.levels.ok.0)) c.index.ensures in
    c.loop-i.invariant ∙ ap (local_node x) (levels_at rc_value ls i (i + 1) r (omega arith) there) ∙ nearest_none x (rc_value r) _ (ap (local_node x) (sym c.deref.ensures) ∙ sym c.in_default.ensures)
