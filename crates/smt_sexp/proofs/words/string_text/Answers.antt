use Rattle.std.proofs.Common.{◌+◌, sym, subst, arith}
use Rattle.smt_sexp.proofs.Strings.{StringSoFar, string_plain, string_doubled, other_test}
use Rattle.smt_sexp.proofs.words.string_text.Goals as goal

pub loop-at-preserved-then-bytes-at-ne34 : goal.loop-at-preserved-then-bytes-at-ne34
loop-at-preserved-then-bytes-at-ne34 c =
    subst (λ t. StringSoFar c.args.bytes.now t (c.loop-at.at + 1)) (sym c.in_ok-push.ensures.items)
    (string_plain c.args.bytes.now c.loop-at.text.items c.loop-at.at c.loop-at.invariant c.loop-at-test.true (other_test _ _ c.if-bytes-at-ne34.true))

pub loop-at-preserved : goal.loop-at-preserved
loop-at-preserved c =
    subst (λ t. StringSoFar c.args.bytes.now t (c.loop-at.at + 2)) (sym c.in_ok-push-2.ensures.items)
    (string_doubled c.args.bytes.now c.loop-at.text.items c.loop-at.at c.loop-at.invariant c.if-at-bytes.true (omega (arith, c.if-bytes-at-ne34.false)) c.if-bytes-at-eq34.true)
