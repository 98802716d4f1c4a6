-- A root depends on the number's size above 0 alone.
use Rattle.std.proofs.Common.{◌≡◌, ℕ, ◌*◌, ◌^◌, ℤ, ap}
use Rattle.dyadic.specs.Rounding.{positive, size_below, size_above, whole_root, root_above, not_negative, root_down, root_up}

pub down_same : (a b : ℤ) → not_negative a ≡ not_negative b → root_down (record { units = a }) ≡ root_down (record { units = b })
down_same a b h = ap (λ (n : ℕ). positive (size_below (whole_root (n * 2 ^ 120)))) h

pub up_same : (a b : ℤ) → not_negative a ≡ not_negative b → root_up (record { units = a }) ≡ root_up (record { units = b })
up_same a b h = ap (λ (n : ℕ). positive (size_above (root_above (n * 2 ^ 120) (whole_root (n * 2 ^ 120))))) h
