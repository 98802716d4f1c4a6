-- What a byte counts as a digit.
use Rattle.std.proofs.Common.{ℕ, ◌≤◌, arith}
use Rattle.std.specs.Char.{digit_value}
use Rattle.std.proofs.lemmas.Bool.Decides.{nat_tests}

pub digit_most : (c : ℕ) → digit_value c ≤ 36
digit_most c = grind (arith, nat_tests)
