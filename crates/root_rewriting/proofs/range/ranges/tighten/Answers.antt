use Rattle.std.proofs.Common.{Some, ap, arith, sym, ◌∙◌}
use Rattle.std.proofs.lemmas.Option.{slice_get-get_or}
use Rattle.root_rewriting.proofs.Tightest.{tightest_past, tightest_set}
use Rattle.root_rewriting.proofs.range.ranges.tighten.Goals as goal

pub returns-then-end-len : goal.returns-then-end-len
returns-then-end-len c = λ es axes h. let bs = c.args.bounds.now.items in let old = c.index.result.now in
    tightest_set es axes bs c.args.end old c.tightened.result h
    (slice_get-get_or bs c.args.end.axis old (omega (arith, c.if-end-len.true, c.len.ensures)) ∙ ap (λ b. Some b) (sym c.index.ensures)) c.tightened.ensures

pub returns-else-end-len : goal.returns-else-end-len
returns-else-end-len c = λ es axes h. tightest_past es axes c.args.bounds.now.items c.args.end h (λ l. let n = h.count in absurd (omega (arith, l, n, c.if-end-len.false, c.len.ensures)))
