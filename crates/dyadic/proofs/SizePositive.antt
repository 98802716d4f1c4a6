-- The size of a positive number.
use Rattle.std.proofs.Common.{◌<◌, ℤ, pos, ◌<ℤ◌, arith, nat_abs}
use Rattle.std.proofs.lemmas.Int.{ints}

pub size_positive : (d : ℤ) → pos 0 <ℤ d → 0 < nat_abs d
size_positive d h = omega (arith, ints)
