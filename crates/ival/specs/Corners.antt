-- The rounded ends of products, quotients and squares.
use Rattle.std.specs.Prelude.{cond, ◌&&◌}
use Rattle.dyadic.specs.Fraction.{zero_fraction}
use Rattle.dyadic.specs.Rounding.{End, at, Ext, end_of, end_at_most}
use Rattle.dyadic.specs.End.{end_product, end_quotient, lesser, greater, rounded_down, rounded_up}

abbrev pub least_of : (End → End → End) → Ext → Ext → Ext → Ext → Ext
least_of f l h m k = rounded_down (lesser (lesser (f (end_of l) (end_of m)) (f (end_of l) (end_of k))) (lesser (f (end_of h) (end_of m)) (f (end_of h) (end_of k))))

abbrev pub greatest_of : (End → End → End) → Ext → Ext → Ext → Ext → Ext
greatest_of f l h m k = rounded_up (greater (greater (f (end_of l) (end_of m)) (f (end_of l) (end_of k))) (greater (f (end_of h) (end_of m)) (f (end_of h) (end_of k))))

-- of l to h and m to k
abbrev pub least_product : Ext → Ext → Ext → Ext → Ext
least_product = least_of end_product

abbrev pub greatest_product : Ext → Ext → Ext → Ext → Ext
greatest_product = greatest_of end_product

abbrev pub least_quotient : Ext → Ext → Ext → Ext → Ext
least_quotient = least_of end_quotient

abbrev pub greatest_quotient : Ext → Ext → Ext → Ext → Ext
greatest_quotient = greatest_of end_quotient

abbrev pub square_from : Ext → Ext → Ext
square_from l h = rounded_down (cond (end_at_most (end_of l) (at zero_fraction) && end_at_most (at zero_fraction) (end_of h)) (at zero_fraction) (lesser (end_product (end_of l) (end_of l)) (end_product (end_of h) (end_of h))))

abbrev pub square_to : Ext → Ext → Ext
square_to l h = rounded_up (greater (end_product (end_of l) (end_of l)) (end_product (end_of h) (end_of h)))
