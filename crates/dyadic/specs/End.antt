-- Exact ends of intervals, their sums, products and quotients, and their rounding.
use Rattle.std.specs.Prelude.{zero, suc, cond, ℤ, pos, negsuc, neg_ℤ}
use Rattle.dyadic.specs.Fraction.{zero_fraction, sum_of, product_of, quotient_of}
use Rattle.dyadic.specs.Rounding.{Dyadic, End, minus_infinity, at, plus_infinity, Ext, below_all, finite, above_all, end_at_most, ext_at_most, down, up}

abbrev pub negated_dyadic : Dyadic → Dyadic
negated_dyadic d = record { units = neg_ℤ d.units }

abbrev pub negated_ext : Ext → Ext
negated_ext below_all = above_all
negated_ext (finite d) = finite (negated_dyadic d)
negated_ext above_all = below_all

-- no sum of opposite infinities is ever asked
abbrev pub end_sum : End → End → End
end_sum (at p) (at q) = at (sum_of p q)
end_sum (at p) e = e
end_sum e f = e

-- a sign: below 0, 0, above 0
pub data Sign : Type 0 where
  below nought above : Sign

abbrev pub sign_of : ℤ → Sign
sign_of (pos zero) = nought
sign_of (pos (suc n)) = above
sign_of (negsuc n) = below

abbrev pub end_sign : End → Sign
end_sign minus_infinity = below
end_sign (at q) = sign_of q.num
end_sign plus_infinity = above

-- an infinite product, by the signs of its factors: 0 times infinity is 0
abbrev pub infinite : Sign → Sign → End
infinite nought s = at zero_fraction
infinite s nought = at zero_fraction
infinite above above = plus_infinity
infinite below below = plus_infinity
infinite above below = minus_infinity
infinite below above = minus_infinity

abbrev pub end_product : End → End → End
end_product (at p) (at q) = at (product_of p q)
end_product e f = infinite (end_sign e) (end_sign f)

-- an end divided by an infinity is 0
abbrev pub end_quotient : End → End → End
end_quotient (at p) (at q) = at (quotient_of p q)
end_quotient e (at q) = infinite (end_sign e) (sign_of q.num)
end_quotient e f = at zero_fraction

abbrev pub lesser : End → End → End
lesser e f = cond (end_at_most e f) e f

abbrev pub greater : End → End → End
greater e f = cond (end_at_most e f) f e

-- ---- rounded ends

abbrev pub rounded_down : End → Ext
rounded_down (at q) = down q
rounded_down minus_infinity = below_all
rounded_down plus_infinity = above_all

abbrev pub rounded_up : End → Ext
rounded_up (at q) = up q
rounded_up minus_infinity = below_all
rounded_up plus_infinity = above_all

abbrev pub lesser_ext : Ext → Ext → Ext
lesser_ext e f = cond (ext_at_most e f) e f

abbrev pub greater_ext : Ext → Ext → Ext
greater_ext e f = cond (ext_at_most e f) f e
