use Rattle.std.proofs.Common.{refl, sym, ◌∙◌, true≢false, arith}
use Rattle.cover_line.proofs.AllWords.{none_differ, one_more, all_differ}
use Rattle.cover_line.proofs.word.Word.spelled.Goals as goal

pub loop-word-init : goal.loop-word-init
loop-word-init c = none_differ c.args.bytes.now

pub loop-word-preserved : goal.loop-word-preserved
loop-word-preserved c =
    one_more c.args.bytes.now c.loop-word.word-index _ c.loop-word.invariant refl (λ e. true≢false (sym (c.is_spelled.ensures.1 e) ∙ c.if-is_spelled.false))

pub returns : goal.returns
returns c = all_differ c.args.bytes.now (λ k h. c.loop-word.invariant k (omega (arith, h, c.loop-word-test.false)))
