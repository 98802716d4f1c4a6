-- What the calls ask, and what they answer beyond ends and numbers.
use Rattle.std.specs.Prelude.{◌≡◌, ℕ, suc, ◌+◌, ◌-◌, ◌^◌, ◌≤ℤ◌, Bool, true, false, ◌&&◌, ℤ, pos, negsuc}
use Rattle.std.specs.declared.cmp.Ordering.{Ordering}
use Rattle.std.specs.declared.cmp.Ordering.TheVariants.{Less, Equal, Greater}
use Rattle.dyadic.specs.Fraction.{Fraction, at_most, power_below, sum_of, difference_of}
use Rattle.dyadic.specs.Rounding.{Dyadic, exact, Ext, below_all, finite, above_all}

-- not two opposite infinities
abbrev pub AreAddable : Ext → Ext → Type 0
AreAddable below_all above_all = ⊥
AreAddable above_all below_all = ⊥
AreAddable e f = Unit {0}

-- not the number 0
abbrev pub IsDivisor : Ext → Type 0
IsDivisor (finite d) = d.units ≡ pos 0 → ⊥
IsDivisor e = Unit {0}

-- not below 0
abbrev pub HasRoot : Ext → Type 0
HasRoot below_all = ⊥
HasRoot (finite d) = pos 0 ≤ℤ d.units
HasRoot above_all = Unit {0}

-- a root of a number, and plus infinity that of itself
abbrev pub root_ext : (Dyadic → Ext) → Ext → Ext
root_ext root (finite d) = root d
root_ext root e = e

-- the order of two, by whether the first is at most the second and the second at most the first
abbrev pub order_of : Bool → Bool → Ordering
order_of true true = Equal
order_of true false = Less
order_of false y = Greater

-- v lies between l and h, or outside by at most 2^-bits
abbrev pub is_near : Dyadic → ℕ → Fraction → Fraction → Bool
is_near v bits l h = at_most (difference_of l (power_below bits)) (exact v) && at_most (exact v) (sum_of h (power_below bits))

-- 2 to the power of k, for k from -120 on
abbrev pub power_of_two : ℤ → Dyadic
power_of_two (pos k) = record { units = pos (2 ^ (120 + k)) }
power_of_two (negsuc k) = record { units = pos (2 ^ (120 - suc k)) }
