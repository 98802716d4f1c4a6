use Rattle.std.proofs.Common.{◌≤◌, ◌^◌, arith}
use Rattle.std.proofs.Math.Nat.{pow-le-pow_right}
use Rattle.root_rewriting.proofs.parts.quotient_above.Goals as goal

pub overflow_add-result : goal.overflow_add-result
overflow_add-result c =
    let high : 2 ^ c.args.bits ≤ 2 ^ 100 = pow-le-pow_right {n = 2} (omega arith) {i = c.args.bits} {j = 100} c.requires.bits in
    omega (arith, high, c.from.ensures, c.requires.few)
