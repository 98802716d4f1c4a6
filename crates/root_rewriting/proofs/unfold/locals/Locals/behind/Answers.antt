use Rattle.std.proofs.Common.{◌≡◌, ◌+◌, ◌++◌, ◌∙◌, arith, ap, sym, refl, length, Some, map, drop, rc_value, append_assoc}
use Rattle.std.specs.Prelude.{slice_get}
use Rattle.std.proofs.lemmas.Option.{slice_get_read}
use Rattle.root_rewriting.specs.Locals.{all_levels}
use Rattle.root_rewriting.proofs.Nearest.{levels_at, levels_end}
use Rattle.root_rewriting.proofs.unfold.locals.Locals.behind.Goals as goal

pub loop-i-preserved : goal.loop-i-preserved
loop-i-preserved c = let ls = c.self.inside.levels.items in let i = c.loop-i.i in let r = c.index.result.now in let done = c.loop-i.levels.items in let n = c.in_ok-next.next in
    let there : slice_get ls i ≡ Some r = slice_get_read ls (length ls) i r refl (omega (arith, c.loop-i-test.true, c.len-i-end.ensures, c.self.inside.levels.ok.0)) c.index.ensures in
    let rest = all_levels (map rc_value (drop (i + 1) ls)) in
    let same : rc_value n ≡ rc_value r = c.in_ok-next.ensures.cases in
    c.loop-i.invariant ∙ ap (λ xs. all_levels (map rc_value done) ++ xs) (levels_at rc_value ls i (i + 1) r (omega arith) there) ∙ sym (append_assoc (all_levels (map rc_value done)) (rc_value r) rest)
    ∙ ap (λ xs. (all_levels (map rc_value done) ++ xs) ++ rest) (sym same) ∙ ap (λ xs. xs ++ rest) (sym (levels_end rc_value done n)) ∙ ap (λ xs. all_levels (map rc_value xs) ++ rest) (sym c.in_ok-push-2.ensures.items)
