use Rattle.std.proofs.Common.{◌≤◌, arith}
use Rattle.dyadic.proofs.Mantissas.{normal_short}
use Rattle.dyadic.proofs.divide.are_long.Goals as goal

pub overflow_add-result : goal.overflow_add-result
overflow_add-result c = let a = c.args.a in let x : a.shift ≤ 181 = normal_short a.mantissa a.shift a.normal in record { fits = omega (arith, x) }
