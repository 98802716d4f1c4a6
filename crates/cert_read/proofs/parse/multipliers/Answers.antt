use Rattle.std.proofs.Common.{◌∙◌, sym}
use Rattle.cert_read.proofs.Paired.{some_pairs, pairs_told}
use Rattle.cert_read.proofs.parse.multipliers.Goals as goal

pub returns-then-not-are_paired : goal.returns-then-not-are_paired
returns-then-not-are_paired c = rw c.in-Some.is (some_pairs c.in-Some.text.now ∙ sym c.are_paired.ensures ∙ c.if-not-are_paired.true)

pub returns : goal.returns
returns c = rw c.in-Some.is (pairs_told c.pairs.result c.in-Some.text.now (sym c.are_paired.ensures ∙ c.if-not-are_paired.false) c.pairs.ensures)
