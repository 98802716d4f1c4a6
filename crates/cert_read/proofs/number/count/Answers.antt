use Rattle.std.proofs.Common.{refl}
use Rattle.cert_read.proofs.Counts.{no_count, some_count, wide_count}
use Rattle.cert_read.proofs.number.count.Goals as goal

pub returns-then-not-is_plain : goal.returns-then-not-is_plain
returns-then-not-is_plain c = (refl, no_count c.args.word.now (λ p. let e = c.if-not-is_plain.ensures.1 p in cc))

pub returns-in-Some : goal.returns-in-Some
returns-in-Some c = some_count c.args.word.now c.in-Some.n (c.if-not-is_plain.ensures.0 refl) c.in-Some.ensures.0 c.in-Some.ensures.1

pub returns-in-None : goal.returns-in-None
returns-in-None c = (refl, wide_count c.args.word.now (c.if-not-is_plain.ensures.0 refl) c.in-None.ensures)
