use Rattle.std.proofs.Common.{sym}
use Rattle.std.proofs.lemmas.Bool.{not-false, not-true}
use Rattle.std.specs.Cmp.Lexicographic.{other_text, same_text}
use Rattle.cert_join.proofs.Sorting.{alike_all, alike_more, alike_not, from_none}
use Rattle.cert_join.proofs.trees.are_alike.Goals as goal

pub loop-part-preserved : goal.loop-part-preserved
loop-part-preserved c x place first e there next =
    alike_more _ c.args.cursors.now x place _ _ c.append_at.new.text.items first e there next (from_none _ _ _ _ _ c.new-line.ensures.items c.in_ok-append_at.ensures) _ _ c.loop-part-test.true
    (from_none _ _ _ _ _ c.clear.ensures.items c.in_ok-append_at-2.ensures) (same_text _ _ (sym (not-false _ (sym c.if-ne.ensures)))) (c.loop-part.invariant x place first e there next)

pub returns-then-ne : goal.returns-then-ne
returns-then-ne c x place first e there next all =
    alike_not _ c.args.cursors.now x place _ _ c.append_at.new.text.items first e there next (from_none _ _ _ _ _ c.new-line.ensures.items c.in_ok-append_at.ensures) _ _ c.loop-part-test.true
    (from_none _ _ _ _ _ c.clear.ensures.items c.in_ok-append_at-2.ensures) (other_text _ _ (sym (not-true _ (sym c.if-ne.ensures)))) all

pub returns : goal.returns
returns c x place first e there next =
    alike_all _ c.args.cursors.now x place _ _ c.append_at.new.text.items first e there next (from_none _ _ _ _ _ c.new-line.ensures.items c.in_ok-append_at.ensures) _ c.loop-part-test.false (c.loop-part.invariant x place first e there next)
