-- The finite ends of the operations' intervals lie on the grid.
use Rattle.std.proofs.Common.{ℕ, ◌^◌, ◌≤◌, Bool, true, false, cond, sym, subst, arith, ℤ, pos, negsuc}
use Rattle.dyadic.specs.Fraction.{Fraction, IsFraction}
use Rattle.dyadic.specs.Rounding.{IsRepresentable, End, minus_infinity, at, plus_infinity, Ext, below_all, finite, above_all, end_of, ext_at_most, not_negative, down, up, root_down, root_up}
use Rattle.interval_model.specs.Interval.{Interval, nothing, between, everything, rounded, interval_sum, interval_negated, interval_product, interval_square, met, hull, inverse_sum, inverse_product, inverse_square, of_four, misses_nought, around_nought, nought_inside, is_above, root_end}
use Rattle.dyadic.specs.End.{Sign, below, nought, above, end_sum, end_product, end_quotient, end_sign, negated_ext, rounded_down, rounded_up, lesser_ext, greater_ext}
use Rattle.dyadic.proofs.Ints.{nat_abs-neg}
use Rattle.dyadic.proofs.Rounds.{IsExtOnGrid, down_on_grid, up_on_grid}
use Rattle.dyadic.proofs.RoundsRoots.{root_down_is, root_up_is}
use Rattle.interval_model.proofs.Ends.{Good}
use Rattle.interval_model.proofs.EndsProducts.{least_of_four, greatest_of_four, good_least, good_greatest}
use Rattle.interval_model.proofs.EndsSums.{good_ext, good_sum}
use Rattle.interval_model.proofs.Squares.{least_square, greatest_square, good_least_square, good_greatest_square}
use Rattle.interval_model.proofs.InversesEnds.{good_quotient, good_least_quotient, good_greatest_quotient}
use Rattle.interval_model.proofs.InversesSquares.{IsKept, size_on_grid}

down-kept : (e : End) → Good e → IsExtOnGrid (rounded_down e)
down-kept minus_infinity i = tt
down-kept (at q) i = down_on_grid q i
down-kept plus_infinity i = tt

up-kept : (e : End) → Good e → IsExtOnGrid (rounded_up e)
up-kept minus_infinity i = tt
up-kept (at q) i = up_on_grid q i
up-kept plus_infinity i = tt

pub rounded_kept : (l h : End) → Good l → Good h → IsKept (rounded l h)
rounded_kept l h i j = (down-kept l i, up-kept h j)

pub fraction_kept : (q : Fraction) → IsFraction q → IsKept (between (down q) (up q))
fraction_kept q i = (down_on_grid q i, up_on_grid q i)

negated-kept : (e : Ext) → IsExtOnGrid e → IsExtOnGrid (negated_ext e)
negated-kept below_all k = tt
negated-kept (finite d) k = subst IsRepresentable (sym (nat_abs-neg d.units)) k
negated-kept above_all k = tt

lesser-kept : (e f : Ext) → IsExtOnGrid e → IsExtOnGrid f → IsExtOnGrid (lesser_ext e f)
lesser-kept e f i j = go (ext_at_most e f)
  where
    go : (t : Bool) → IsExtOnGrid (cond t e f)
    go true = i
    go false = j

greater-kept : (e f : Ext) → IsExtOnGrid e → IsExtOnGrid f → IsExtOnGrid (greater_ext e f)
greater-kept e f i j = go (ext_at_most e f)
  where
    go : (t : Bool) → IsExtOnGrid (cond t f e)
    go true = j
    go false = i

pub sum_kept : (i j : Interval) → IsKept (interval_sum i j)
sum_kept (between l h) (between l' h') = rounded_kept (end_sum (end_of l) (end_of l')) (end_sum (end_of h) (end_of h'))
    (good_sum (end_of l) (end_of l') (good_ext l) (good_ext l')) (good_sum (end_of h) (end_of h') (good_ext h) (good_ext h'))
sum_kept nothing j = tt
sum_kept (between l h) nothing = tt

pub negated_kept : (i : Interval) → IsKept i → IsKept (interval_negated i)
negated_kept nothing k = tt
negated_kept (between l h) k = (negated-kept h k.1, negated-kept l k.0)

pub product_kept : (i j : Interval) → IsKept (interval_product i j)
product_kept (between l h) (between l' h') = rounded_kept (least_of_four end_product (end_of l) (end_of h) (end_of l') (end_of h')) (greatest_of_four end_product (end_of l) (end_of h) (end_of l') (end_of h'))
    (good_least (end_of l) (end_of h) (end_of l') (end_of h') (good_ext l) (good_ext h) (good_ext l') (good_ext h')) (good_greatest (end_of l) (end_of h) (end_of l') (end_of h') (good_ext l) (good_ext h) (good_ext l') (good_ext h'))
product_kept nothing j = tt
product_kept (between l h) nothing = tt

pub square_kept : (i : Interval) → IsKept (interval_square i)
square_kept nothing = tt
square_kept (between l h) = rounded_kept (least_square (end_of l) (end_of h)) (greatest_square (end_of l) (end_of h))
    (good_least_square (end_of l) (end_of h) (good_ext l) (good_ext h)) (good_greatest_square (end_of l) (end_of h) (good_ext l) (good_ext h))

pub met_kept : (i j : Interval) → IsKept i → IsKept j → IsKept (met i j)
met_kept nothing j k m = tt
met_kept (between l h) nothing k m = tt
met_kept (between l h) (between l' h') k m = go (ext_at_most (greater_ext l l') (lesser_ext h h'))
  where
    go : (t : Bool) → IsKept (cond t (between (greater_ext l l') (lesser_ext h h')) nothing)
    go true = (greater-kept l l' k.0 m.0, lesser-kept h h' k.1 m.1)
    go false = tt

pub hull_kept : (i j : Interval) → IsKept i → IsKept j → IsKept (hull i j)
hull_kept nothing j k m = m
hull_kept (between l h) nothing k m = k
hull_kept (between l h) (between l' h') k m = (lesser-kept l l' k.0 m.0, greater-kept h h' k.1 m.1)

pub everything_kept : IsKept everything
everything_kept = (tt, tt)

pub inverse_sum_kept : (n o : Interval) → IsKept (inverse_sum n o)
inverse_sum_kept n o = sum_kept n (interval_negated o)

around-kept : (t u : Sign) (high : Bool) (l h a b : Ext) → IsKept (around_nought t u high (end_of l) (end_of h) (end_of a) (end_of b))
around-kept nought nought high l h a b = tt
around-kept nought above true l h a b = (down-kept (end_quotient (end_of l) (end_of b)) (good_quotient (end_of l) (end_of b) (good_ext l) (good_ext b)), tt)
around-kept nought above false l h a b = (tt, up-kept (end_quotient (end_of h) (end_of b)) (good_quotient (end_of h) (end_of b) (good_ext h) (good_ext b)))
around-kept nought below high l h a b = everything_kept
around-kept below nought true l h a b = (tt, up-kept (end_quotient (end_of l) (end_of a)) (good_quotient (end_of l) (end_of a) (good_ext l) (good_ext a)))
around-kept below nought false l h a b = (down-kept (end_quotient (end_of h) (end_of a)) (good_quotient (end_of h) (end_of a) (good_ext h) (good_ext a)), tt)
around-kept below below high l h a b = everything_kept
around-kept below above high l h a b = everything_kept
around-kept above u high l h a b = everything_kept

quotients-kept : (l h a b : Ext) → IsKept (of_four end_quotient (between l h) (between a b))
quotients-kept l h a b = rounded_kept (least_of_four end_quotient (end_of l) (end_of h) (end_of a) (end_of b)) (greatest_of_four end_quotient (end_of l) (end_of h) (end_of a) (end_of b))
    (good_least_quotient (end_of l) (end_of h) (end_of a) (end_of b) minus_infinity (good_ext l) (good_ext h) (good_ext a) (good_ext b))
    (good_greatest_quotient (end_of l) (end_of h) (end_of a) (end_of b) minus_infinity (good_ext l) (good_ext h) (good_ext a) (good_ext b))

pub inverse_product_kept : (n o : Interval) → IsKept (inverse_product n o)
inverse_product_kept nothing o = tt
inverse_product_kept (between l h) nothing = tt
inverse_product_kept (between l h) (between a b) = go (misses_nought (between a b)) (misses_nought (between l h))
  where
    go : (t u : Bool) → IsKept (cond t (of_four end_quotient (between l h) (between a b)) (cond u (nought_inside (between l h) a b) everything))
    go true u = quotients-kept l h a b
    go false true = around-kept (end_sign (end_of a)) (end_sign (end_of b)) (is_above (end_sign (end_of l))) l h a b
    go false false = everything_kept

root-down-kept : (e : Ext) → IsExtOnGrid e → IsExtOnGrid (root_end below_all root_down e)
root-down-kept below_all k = tt
root-down-kept (finite d) k = at-units d.units (size_on_grid d k)
  where
    found : (m : ℕ) → m ≤ 2 ^ 242 → IsExtOnGrid (root_down (record { units = pos m }))
    found m s = let r = root_down_is m s in subst IsExtOnGrid (sym r.1) r.2.on_grid

    at-units : (z : ℤ) → not_negative z ≤ 2 ^ 242 → IsExtOnGrid (root_down (record { units = z }))
    at-units (pos m) s = found m s
    at-units (negsuc m) s = found 0 (omega arith)
root-down-kept above_all k = tt

root-up-kept : (e : Ext) → IsExtOnGrid e → IsExtOnGrid (root_end above_all root_up e)
root-up-kept below_all k = tt
root-up-kept (finite d) k = at-units d.units (size_on_grid d k)
  where
    found : (m : ℕ) → m ≤ 2 ^ 242 → IsExtOnGrid (root_up (record { units = pos m }))
    found m s = let r = root_up_is m s in subst IsExtOnGrid (sym r.1) r.2.on_grid

    at-units : (z : ℤ) → not_negative z ≤ 2 ^ 242 → IsExtOnGrid (root_up (record { units = z }))
    at-units (pos m) s = found m s
    at-units (negsuc m) s = found 0 (omega arith)
root-up-kept above_all k = tt

pub inverse_square_kept : (own n : Interval) → IsKept own → IsKept n → IsKept (inverse_square own n)
inverse_square_kept own nothing k m = tt
inverse_square_kept own (between l h) k m =
    let q = root_end below_all root_down l in let r = root_end above_all root_up h in
    let i = root-down-kept l m.0 in let j = root-up-kept h m.1 in
    hull_kept (met own (between (negated_ext r) (negated_ext q))) (met own (between q r)) (met_kept own (between (negated_ext r) (negated_ext q)) k (negated-kept r j, negated-kept q i)) (met_kept own (between q r) k (i, j))
