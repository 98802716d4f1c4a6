-- The numbers that are kept, exact and kept ends of intervals, and rounding down and up.
use Rattle.std.specs.Prelude.{◌≡◌, ℕ, zero, suc, ◌+◌, ◌-◌, ◌*◌, ◌/◌, ◌^◌, ◌≤◌, Bool, true, false, cond, ℤ, pos, negsuc, neg_ℤ, nat_abs, nat_le, IsTrue}
use Rattle.dyadic.specs.Fraction.{Fraction, whole, sum_of, quotient_of, at_most}

-- so many units of 2^-120
pub record Dyadic : Type 0 where
  pub units : ℤ

abbrev pub exact : Dyadic → Fraction
exact d = record { num = d.units; den = 2 ^ 120 }

-- 2 to the power of minus k, for k up to 120
abbrev pub two_to_minus : ℕ → Dyadic
two_to_minus k = record { units = pos (2 ^ (120 - k)) }

-- z units are w * 2^p units with w at most 2^62 and p at most 180: w * 2^e with e from -120 to 60
pub record IsRepresentable (z : ℕ) : Type 0 where
  pub whole : ℕ
  pub power : ℕ
  pub few_bits : whole ≤ 2 ^ 62
  pub in_range : power ≤ 180
  pub value : z ≡ whole * 2 ^ power

-- the numbers that are kept
abbrev pub IsOnGrid : Dyadic → Type 0
IsOnGrid d = IsRepresentable (nat_abs d.units)

-- an end that was computed exactly
pub data End : Type 0 where
  minus_infinity : End
  at : Fraction → End
  plus_infinity : End

-- an end that is kept
pub data Ext : Type 0 where
  below_all : Ext
  finite : Dyadic → Ext
  above_all : Ext

-- a finite end is a number that is kept
abbrev pub IsExtOnGrid : Ext → Type 0
IsExtOnGrid (finite r) = IsOnGrid r
IsExtOnGrid _ = Unit {0}

abbrev pub end_of : Ext → End
end_of below_all = minus_infinity
end_of (finite d) = at (exact d)
end_of above_all = plus_infinity

abbrev pub end_at_most : End → End → Bool
end_at_most minus_infinity f = true
end_at_most (at p) minus_infinity = false
end_at_most (at p) (at q) = at_most p q
end_at_most (at p) plus_infinity = true
end_at_most plus_infinity minus_infinity = false
end_at_most plus_infinity (at q) = false
end_at_most plus_infinity plus_infinity = true

abbrev pub ext_at_most : Ext → Ext → Bool
ext_at_most e f = end_at_most (end_of e) (end_of f)

-- e is the greatest kept number that is not above q, or minus infinity where there is none
abbrev pub IsDown : Fraction → Ext → Type 0
IsDown q (finite r) = IsOnGrid r × IsTrue (at_most (exact r) q) ×
    ((s : Dyadic) → IsOnGrid s → IsTrue (at_most (exact s) q) → IsTrue (at_most (exact s) (exact r)))
IsDown q below_all = (s : Dyadic) → IsOnGrid s → IsTrue (at_most (exact s) q) → ⊥
IsDown q above_all = ⊥

-- e is the least kept number that is not below q, or plus infinity where there is none
abbrev pub IsUp : Fraction → Ext → Type 0
IsUp q (finite r) = IsOnGrid r × IsTrue (at_most q (exact r)) ×
    ((s : Dyadic) → IsOnGrid s → IsTrue (at_most q (exact s)) → IsTrue (at_most (exact r) (exact s)))
IsUp q above_all = (s : Dyadic) → IsOnGrid s → IsTrue (at_most q (exact s)) → ⊥
IsUp q below_all = ⊥

-- ---- the same as functions that compute

-- the greatest k below 256 with 2^k at most n, where acc is one that ends in j zero bits; 0 where n is 0
abbrev pub log_from : ℕ → ℕ → ℕ → ℕ
log_from zero n acc = acc
log_from (suc j) n acc = let more = acc + 2 ^ j in log_from j n (cond (nat_le (2 ^ more) n) more acc)

-- the least power of 2 that leaves n at most 62 binary digits
abbrev pub step_of : ℕ → ℕ
step_of n = 2 ^ (log_from 8 n 0 - 61)

-- the greatest multiple of k that is not above n, and the least that is not below
abbrev pub multiple_below : ℕ → ℕ → ℕ
multiple_below k n = (n / k) * k

abbrev pub multiple_above : ℕ → ℕ → ℕ
multiple_above k n = ((n + (k - 1)) / k) * k

-- the quotient rounded up
abbrev pub ceiling : ℕ → ℕ → ℕ
ceiling n d = (n + (d - 1)) / d

-- n units rounded down to a size that is kept, the greatest of which is 2^242 units
abbrev pub size_below : ℕ → ℕ
size_below n = cond (nat_le (2 ^ 242) n) (2 ^ 242) (multiple_below (step_of n) n)

abbrev pub size_above : ℕ → ℕ
size_above n = multiple_above (step_of n) n

abbrev pub positive : ℕ → Ext
positive n = finite (record { units = pos n })

abbrev pub negative : ℕ → Ext
negative n = finite (record { units = neg_ℤ (pos n) })

-- up, of n units and perhaps a rest
abbrev pub above_or_infinite : ℕ → Ext
above_or_infinite n = cond (nat_le n (2 ^ 242)) (positive (size_above n)) above_all

abbrev pub below_or_infinite : ℕ → Ext
below_or_infinite n = cond (nat_le n (2 ^ 242)) (negative (size_above n)) below_all

abbrev pub down_of : ℤ → ℕ → Ext
down_of (pos n) d = positive (size_below ((n * 2 ^ 120) / d))
down_of (negsuc n) d = below_or_infinite (ceiling (suc n * 2 ^ 120) d)

abbrev pub up_of : ℤ → ℕ → Ext
up_of (pos n) d = above_or_infinite (ceiling (n * 2 ^ 120) d)
up_of (negsuc n) d = negative (size_below ((suc n * 2 ^ 120) / d))

-- q rounded down, and up
abbrev pub down : Fraction → Ext
down q = down_of q.num q.den

abbrev pub up : Fraction → Ext
up q = up_of q.num q.den

-- ---- roots

-- the greatest number whose square is at most n, where acc is one that ends in k zero bits
abbrev pub root_from : ℕ → ℕ → ℕ → ℕ
root_from zero n acc = acc
root_from (suc k) n acc = let more = acc + 2 ^ k in root_from k n (cond (nat_le (more * more) n) more acc)

-- of n below 2^384
abbrev pub whole_root : ℕ → ℕ
whole_root n = root_from 192 n 0

-- the least number whose square is at least n, where r is the greatest whose square is at most n
abbrev pub root_above : ℕ → ℕ → ℕ
root_above n r = cond (nat_le n (r * r)) r (suc r)

-- the size of a number that is not negative, and 0 of one that is
abbrev pub not_negative : ℤ → ℕ
not_negative (pos n) = n
not_negative (negsuc n) = 0

-- the square root of a number that is not negative, rounded down, and up
abbrev pub root_down : Dyadic → Ext
root_down d = positive (size_below (whole_root (not_negative d.units * 2 ^ 120)))

abbrev pub root_up : Dyadic → Ext
root_up d = positive (size_above (root_above (not_negative d.units * 2 ^ 120) (whole_root (not_negative d.units * 2 ^ 120))))

-- ---- the middle of two numbers, rounded down

abbrev pub dyadic_or : Dyadic → Ext → Dyadic
dyadic_or d (finite e) = e
dyadic_or d _ = d

abbrev pub mid : Dyadic → Dyadic → Dyadic
mid l h = dyadic_or l (down (quotient_of (sum_of (exact l) (exact h)) (whole (pos 2))))
