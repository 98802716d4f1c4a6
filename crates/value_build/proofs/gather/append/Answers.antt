use Rattle.std.proofs.Common.{ℕ, ◌++◌, arith, ap, ◌∙◌, replicate}
use Rattle.value_build.proofs.gather.append.Goals as goal

pub returns : goal.returns
returns c = c.loop.invariant ∙ ap (λ (n : ℕ). c.args.factors.now.items ++ replicate n c.args.group.factor) (omega (arith, c.loop.auto.counter-end, c.loop-test.false))
