-- When a step on fractions keeps its numbers within 10^36.
use Rattle.std.specs.Prelude.{◌^◌, ◌≤◌, ℤ, ◌+ℤ◌, ◌*ℤ◌}
use Rattle.std.specs.Int.RustNames.{unsigned_abs}
use Rattle.dyadic.specs.declared.frac.Frac.{Frac}

-- z has at most the size of 10^36
pub record IsSmall (z : ℤ) : Type 0 where
  pub size : unsigned_abs z ≤ 10 ^ 36

-- each number that the sum's step makes is small
pub record IsSmallSum (a b : Frac) : Type 0 where
  pub left : IsSmall (a.n *ℤ b.d)
  pub right : IsSmall (b.n *ℤ a.d)
  pub total : IsSmall (a.n *ℤ b.d +ℤ b.n *ℤ a.d)
  pub below : IsSmall (a.d *ℤ b.d)

pub record IsSmallProduct (a b : Frac) : Type 0 where
  pub above : IsSmall (a.n *ℤ b.n)
  pub below : IsSmall (a.d *ℤ b.d)

pub record IsSmallQuotient (a b : Frac) : Type 0 where
  pub above : IsSmall (a.n *ℤ b.d)
  pub below : IsSmall (a.d *ℤ b.n)
