-- Intervals whose ends are computed exactly and then rounded outward (Moore, Interval Analysis, 1966).
use Rattle.std.specs.Prelude.{Bool, true, false, cond, ◌&&◌, ◌||◌, IsTrue}
use Rattle.dyadic.specs.Fraction.{Fraction, zero_fraction}
use Rattle.dyadic.specs.Rounding.{Dyadic, End, at, Ext, below_all, finite, above_all, end_of, end_at_most, ext_at_most, IsExtOnGrid, root_down, root_up}
use Rattle.dyadic.specs.End.{negated_ext, end_sum, Sign, below, nought, above, end_sign, end_product, end_quotient, lesser, greater, rounded_down, rounded_up, lesser_ext, greater_ext}

pub data Interval : Type 0 where
  nothing : Interval
  between : Ext → Ext → Interval

abbrev pub everything : Interval
everything = between below_all above_all

-- v lies in the interval
abbrev pub holds_fraction : Interval → Fraction → Bool
holds_fraction nothing v = false
holds_fraction (between l h) v = end_at_most (end_of l) (at v) && end_at_most (at v) (end_of h)

-- its finite ends are numbers that are kept
abbrev pub IsKept : Interval → Type 0
IsKept nothing = Unit {0}
IsKept (between l h) = IsExtOnGrid l × IsExtOnGrid h

-- ---- rounded intervals

abbrev pub rounded : End → End → Interval
rounded l h = between (rounded_down l) (rounded_up h)

-- ---- sum, opposite, product, square

abbrev pub interval_sum : Interval → Interval → Interval
interval_sum (between l h) (between l' h') = rounded (end_sum (end_of l) (end_of l')) (end_sum (end_of h) (end_of h'))
interval_sum _ _ = nothing

abbrev pub interval_negated : Interval → Interval
interval_negated (between l h) = between (negated_ext h) (negated_ext l)
interval_negated nothing = nothing

-- from the least to the greatest of four
abbrev pub of_four : (End → End → End) → Interval → Interval → Interval
of_four f (between l h) (between l' h') = rounded
    (lesser (lesser (f (end_of l) (end_of l')) (f (end_of l) (end_of h'))) (lesser (f (end_of h) (end_of l')) (f (end_of h) (end_of h'))))
    (greater (greater (f (end_of l) (end_of l')) (f (end_of l) (end_of h'))) (greater (f (end_of h) (end_of l')) (f (end_of h) (end_of h'))))
of_four f _ _ = nothing

abbrev pub interval_product : Interval → Interval → Interval
interval_product = of_four end_product

abbrev pub interval_square : Interval → Interval
interval_square (between l h) = rounded
    (cond (end_at_most (end_of l) (at zero_fraction) && end_at_most (at zero_fraction) (end_of h)) (at zero_fraction) (lesser (end_product (end_of l) (end_of l)) (end_product (end_of h) (end_of h))))
    (greater (end_product (end_of l) (end_of l)) (end_product (end_of h) (end_of h)))
interval_square nothing = nothing

-- ---- meet, hull, order

abbrev pub met : Interval → Interval → Interval
met (between l h) (between l' h') = cond (ext_at_most (greater_ext l l') (lesser_ext h h')) (between (greater_ext l l') (lesser_ext h h')) nothing
met _ _ = nothing

abbrev pub hull : Interval → Interval → Interval
hull nothing i = i
hull i nothing = i
hull (between l h) (between l' h') = between (lesser_ext l l') (greater_ext h h')

abbrev pub is_nothing : Interval → Bool
is_nothing nothing = true
is_nothing i = false

-- the first lies within the second
abbrev pub within : Interval → Interval → Bool
within nothing i = true
within (between l h) nothing = false
within (between l h) (between l' h') = ext_at_most l' l && ext_at_most h h'

-- ---- proper intervals: the lower end is not above the upper one, and neither is the infinity of the other side

abbrev pub IsLow : Ext → Type 0
IsLow above_all = ⊥
IsLow e = Unit {0}

abbrev pub IsHigh : Ext → Type 0
IsHigh below_all = ⊥
IsHigh e = Unit {0}

abbrev pub IsProper : Interval → Type 0
IsProper nothing = Unit {0}
IsProper (between l h) = IsTrue (ext_at_most l h) × IsLow l × IsHigh h

-- ---- inverses: what the result n of an operation leaves to an operand

-- of a sum, where o is the other operand
abbrev pub inverse_sum : Interval → Interval → Interval
inverse_sum n o = interval_sum n (interval_negated o)

abbrev pub is_below : Sign → Bool
is_below below = true
is_below _ = false

abbrev pub is_above : Sign → Bool
is_above above = true
is_above _ = false

abbrev pub is_below_nought : Interval → Bool
is_below_nought nothing = false
is_below_nought (between l h) = is_below (end_sign (end_of h))

abbrev pub is_above_nought : Interval → Bool
is_above_nought nothing = false
is_above_nought (between l h) = is_above (end_sign (end_of l))

-- 0 lies outside
abbrev pub misses_nought : Interval → Bool
misses_nought i = is_below_nought i || is_above_nought i

abbrev pub up_from : End → End → Interval
up_from l a = between (rounded_down (end_quotient l a)) above_all

abbrev pub up_to : End → End → Interval
up_to h a = between below_all (rounded_up (end_quotient h a))

-- n from l to h misses 0 and lies above it where `high`; the other operand from a to b holds 0, its ends having these signs
abbrev pub around_nought : Sign → Sign → Bool → End → End → End → End → Interval
around_nought nought nought high l h a b = nothing
around_nought nought above high l h a b = cond high (up_from l b) (up_to h b)
around_nought below nought high l h a b = cond high (up_to l a) (up_from h a)
around_nought s s' high l h a b = everything

abbrev pub nought_inside : Interval → Ext → Ext → Interval
nought_inside nothing a b = nothing
nought_inside (between l h) a b = around_nought (end_sign (end_of a)) (end_sign (end_of b)) (is_above_nought (between l h)) (end_of l) (end_of h) (end_of a) (end_of b)

-- of a product
abbrev pub inverse_product : Interval → Interval → Interval
inverse_product nothing o = nothing
inverse_product (between l h) nothing = nothing
inverse_product (between l h) (between a b) =
    cond (misses_nought (between a b)) (of_four end_quotient (between l h) (between a b))
    (cond (misses_nought (between l h)) (nought_inside (between l h) a b) everything)

abbrev pub root_end : Ext → (Dyadic → Ext) → Ext → Ext
root_end infinity f (finite d) = f d
root_end infinity f e = infinity

-- of a square, where own is the operand's enclosure: what lies in it of either sign
abbrev pub inverse_square : Interval → Interval → Interval
inverse_square own nothing = nothing
inverse_square own (between l h) =
    let q = root_end below_all root_down l in let r = root_end above_all root_up h in
    hull (met own (between (negated_ext r) (negated_ext q))) (met own (between q r))
