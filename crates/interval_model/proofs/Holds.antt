-- The interval of each operation holds the exact results over its arguments.
use Rattle.std.proofs.Common.{◌≡◌, ◌⊎◌, inl, inr, Bool, true, false, cond, ◌&&◌, IsTrue, refl, ap₂, sym, subst, true≢false}
use Rattle.dyadic.specs.Fraction.{Fraction, IsFraction, sum_of, product_of, negated}
use Rattle.dyadic.specs.Rounding.{End, minus_infinity, at, plus_infinity, Ext, end_of, end_at_most, ext_at_most, down, up}
use Rattle.interval_model.specs.Interval.{Interval, nothing, between, everything, rounded, interval_sum, interval_product, interval_square, interval_negated, met, hull, within, holds_fraction}
use Rattle.dyadic.specs.End.{end_sum, end_product, rounded_down, rounded_up, lesser_ext, greater_ext}
use Rattle.dyadic.proofs.Equal.{both_true, both_pass, ◌≈◌, at_most_same, at_least_same}
use Rattle.interval_model.proofs.Ends.{◌⊑◌, Good, end_trans, other_way}
use Rattle.interval_model.proofs.EndsProducts.{least_of_four, greatest_of_four, good_least, good_greatest, four_below, four_above}
use Rattle.interval_model.proofs.EndsSums.{good_ext, good_sum, negated_below, negated_above, sum_below, sum_above}
use Rattle.dyadic.proofs.Rounds.{down_side, up_side}
use Rattle.interval_model.proofs.Squares.{least_square, greatest_square, good_least_square, good_greatest_square, square_above, square_below}

-- v lies in the interval
abbrev pub Holds : Interval → Fraction → Type 0
Holds i v = IsTrue (holds_fraction i v)

pub everything_holds : (v : Fraction) → Holds everything v
everything_holds v = refl

-- a value that equals one of an interval lies in it
at-same : (e : End) (p p' : Fraction) → IsFraction p → IsFraction p' → p ≈ p' → ◌⊑◌ e (at p) → ◌⊑◌ e (at p')
at-same minus_infinity p p' f f' s h = refl
at-same (at q) p p' f f' s h = subst IsTrue (at_least_same q f f' s) h
at-same plus_infinity p p' f f' s h = absurd (true≢false (sym h))

same-at : (e : End) (p p' : Fraction) → IsFraction p → IsFraction p' → p ≈ p' → ◌⊑◌ (at p) e → ◌⊑◌ (at p') e
same-at minus_infinity p p' f f' s h = absurd (true≢false (sym h))
same-at (at q) p p' f f' s h = subst IsTrue (at_most_same q f f' s) h
same-at plus_infinity p p' f f' s h = refl

pub same_holds : (i : Interval) (p p' : Fraction) → IsFraction p → IsFraction p' → p ≈ p' → Holds i p → Holds i p'
same_holds nothing p p' f f' s h = h
same_holds (between l h) p p' f f' s k =
    let a = both_true (end_at_most (end_of l) (at p)) (end_at_most (at p) (end_of h)) k in
    both_pass (end_at_most (end_of l) (at p')) (end_at_most (at p') (end_of h)) (at-same (end_of l) p p' f f' s a.0) (same-at (end_of h) p p' f f' s a.1)

-- ---- meet, hull, order

greater-ext-below : (e f : Ext) (v : Fraction) → ◌⊑◌ (end_of e) (at v) → ◌⊑◌ (end_of f) (at v) → ◌⊑◌ (end_of (greater_ext e f)) (at v)
greater-ext-below e f v h k = go (ext_at_most e f)
  where
    go : (t : Bool) → ◌⊑◌ (end_of (cond t f e)) (at v)
    go true = k
    go false = h

lesser-ext-above : (e f : Ext) (v : Fraction) → ◌⊑◌ (at v) (end_of e) → ◌⊑◌ (at v) (end_of f) → ◌⊑◌ (at v) (end_of (lesser_ext e f))
lesser-ext-above e f v h k = go (ext_at_most e f)
  where
    go : (t : Bool) → ◌⊑◌ (at v) (end_of (cond t e f))
    go true = h
    go false = k

between-holds : (l h : Ext) (v : Fraction) → IsFraction v → ◌⊑◌ (end_of l) (at v) → ◌⊑◌ (at v) (end_of h) → Holds (cond (ext_at_most l h) (between l h) nothing) v
between-holds l h v f a b = rw (end_trans (end_of l) (at v) (end_of h) f a b) (both_pass (end_at_most (end_of l) (at v)) (end_at_most (at v) (end_of h)) a b)

pub met_holds : (i j : Interval) (v : Fraction) → IsFraction v → Holds i v → Holds j v → Holds (met i j) v
met_holds (between l h) (between l' h') v f a b =
    let p = both_true (end_at_most (end_of l) (at v)) (end_at_most (at v) (end_of h)) a in
    let q = both_true (end_at_most (end_of l') (at v)) (end_at_most (at v) (end_of h')) b in
    between-holds (greater_ext l l') (lesser_ext h h') v f (greater-ext-below l l' v p.0 q.0) (lesser-ext-above h h' v p.1 q.1)
met_holds nothing j v f a b = absurd (true≢false (sym a))
met_holds (between l h) nothing v f a b = absurd (true≢false (sym b))

-- the lesser of two kept ends is below what one of them is below
pub lesser_ext_below : (e f : Ext) (g : End) → ◌⊑◌ (end_of e) g ⊎ ◌⊑◌ (end_of f) g → ◌⊑◌ (end_of (lesser_ext e f)) g
lesser_ext_below e f g k = go (ext_at_most e f) refl k
  where
    go : (t : Bool) → ext_at_most e f ≡ t → ◌⊑◌ (end_of e) g ⊎ ◌⊑◌ (end_of f) g → ◌⊑◌ (end_of (cond t e f)) g
    go true h (inl a) = a
    go true h (inr a) = end_trans (end_of e) (end_of f) g (good_ext f) h a
    go false h (inl a) = end_trans (end_of f) (end_of e) g (good_ext e) (other_way (end_of e) (end_of f) h) a
    go false h (inr a) = a

pub greater_ext_above : (e f : Ext) (g : End) → ◌⊑◌ g (end_of e) ⊎ ◌⊑◌ g (end_of f) → ◌⊑◌ g (end_of (greater_ext e f))
greater_ext_above e f g k = go (ext_at_most e f) refl k
  where
    go : (t : Bool) → ext_at_most e f ≡ t → ◌⊑◌ g (end_of e) ⊎ ◌⊑◌ g (end_of f) → ◌⊑◌ g (end_of (cond t f e))
    go true h (inl a) = end_trans g (end_of e) (end_of f) (good_ext e) a h
    go true h (inr a) = a
    go false h (inl a) = a
    go false h (inr a) = end_trans g (end_of f) (end_of e) (good_ext f) a (other_way (end_of e) (end_of f) h)

pub hull_holds : (i j : Interval) (v : Fraction) → Holds i v ⊎ Holds j v → Holds (hull i j) v
hull_holds nothing j v (inl a) = absurd (true≢false (sym a))
hull_holds nothing j v (inr a) = a
hull_holds (between l h) nothing v (inl a) = a
hull_holds (between l h) nothing v (inr a) = absurd (true≢false (sym a))
hull_holds (between l h) (between l' h') v (inl a) =
    let p = both_true (end_at_most (end_of l) (at v)) (end_at_most (at v) (end_of h)) a in
    both_pass (end_at_most (end_of (lesser_ext l l')) (at v)) (end_at_most (at v) (end_of (greater_ext h h'))) (lesser_ext_below l l' (at v) (inl p.0)) (greater_ext_above h h' (at v) (inl p.1))
hull_holds (between l h) (between l' h') v (inr a) =
    let p = both_true (end_at_most (end_of l') (at v)) (end_at_most (at v) (end_of h')) a in
    both_pass (end_at_most (end_of (lesser_ext l l')) (at v)) (end_at_most (at v) (end_of (greater_ext h h'))) (lesser_ext_below l l' (at v) (inr p.0)) (greater_ext_above h h' (at v) (inr p.1))

-- an interval holds what one within it holds
pub within_holds : (i j : Interval) (v : Fraction) → IsTrue (within i j) → Holds i v → Holds j v
within_holds nothing j v w a = absurd (true≢false (sym a))
within_holds (between l h) nothing v w a = absurd (true≢false (sym w))
within_holds (between l h) (between l' h') v w a =
    let p = both_true (end_at_most (end_of l) (at v)) (end_at_most (at v) (end_of h)) a in
    let q = both_true (ext_at_most l' l) (ext_at_most h h') w in
    both_pass (end_at_most (end_of l') (at v)) (end_at_most (at v) (end_of h'))
    (end_trans (end_of l') (end_of l) (at v) (good_ext l) q.0 p.0) (end_trans (at v) (end_of h) (end_of h') (good_ext h) p.1 q.1)

-- ---- sum, opposite, product, square

pub round_below : (e : End) (v : Fraction) → Good e → ◌⊑◌ e (at v) → ◌⊑◌ (end_of (rounded_down e)) (at v)
round_below (at q) v i h = end_trans (end_of (down q)) (at q) (at v) i (down_side q i) h
round_below minus_infinity v i h = refl
round_below plus_infinity v i h = h

pub round_above : (e : End) (v : Fraction) → Good e → ◌⊑◌ (at v) e → ◌⊑◌ (at v) (end_of (rounded_up e))
round_above (at q) v i h = end_trans (at v) (at q) (end_of (up q)) i h (up_side q i)
round_above plus_infinity v i h = refl
round_above minus_infinity v i h = h

pub rounded_holds : (l h : End) (v : Fraction) → Good l → Good h → ◌⊑◌ l (at v) → ◌⊑◌ (at v) h → Holds (rounded l h) v
rounded_holds l h v i j a b = ap₂ (λ x y. x && y) (round_below l v i a) (round_above h v j b)

pub sum_holds : (i j : Interval) (x y : Fraction) → Holds i x → Holds j y → Holds (interval_sum i j) (sum_of x y)
sum_holds (between l h) (between l' h') x y a b =
    let p = both_true (end_at_most (end_of l) (at x)) (end_at_most (at x) (end_of h)) a in let q = both_true (end_at_most (end_of l') (at y)) (end_at_most (at y) (end_of h')) b in
    rounded_holds (end_sum (end_of l) (end_of l')) (end_sum (end_of h) (end_of h')) (sum_of x y) (good_sum (end_of l) (end_of l') (good_ext l) (good_ext l')) (good_sum (end_of h) (end_of h') (good_ext h) (good_ext h'))
    (sum_below (end_of l) (end_of l') x y p.0 q.0) (sum_above (end_of h) (end_of h') x y p.1 q.1)
sum_holds nothing j x y a b = absurd (true≢false (sym a))
sum_holds (between l h) nothing x y a b = absurd (true≢false (sym b))

pub negated_holds : (i : Interval) (x : Fraction) → Holds i x → Holds (interval_negated i) (negated x)
negated_holds (between l h) x a = let p = both_true (end_at_most (end_of l) (at x)) (end_at_most (at x) (end_of h)) a in
    ap₂ (λ y z. y && z) (negated_above h x p.1) (negated_below l x p.0)
negated_holds nothing x a = absurd (true≢false (sym a))

pub product_holds : (i j : Interval) (x y : Fraction) → IsFraction x → IsFraction y → Holds i x → Holds j y → Holds (interval_product i j) (product_of x y)
product_holds (between l h) (between l' h') x y f g a b =
    let p = both_true (end_at_most (end_of l) (at x)) (end_at_most (at x) (end_of h)) a in let q = both_true (end_at_most (end_of l') (at y)) (end_at_most (at y) (end_of h')) b in
    let gl = good_ext l in let gh = good_ext h in let gl' = good_ext l' in let gh' = good_ext h' in
    rounded_holds (least_of_four end_product (end_of l) (end_of h) (end_of l') (end_of h')) (greatest_of_four end_product (end_of l) (end_of h) (end_of l') (end_of h')) (product_of x y)
    (good_least (end_of l) (end_of h) (end_of l') (end_of h') gl gh gl' gh') (good_greatest (end_of l) (end_of h) (end_of l') (end_of h') gl gh gl' gh')
    (four_below (end_of l) (end_of h) (end_of l') (end_of h') (at x) (at y) gl gh gl' gh' f g p.0 p.1 q.0 q.1)
    (four_above (end_of l) (end_of h) (end_of l') (end_of h') (at x) (at y) gl gh gl' gh' f g p.0 p.1 q.0 q.1)
product_holds nothing j x y f g a b = absurd (true≢false (sym a))
product_holds (between l h) nothing x y f g a b = absurd (true≢false (sym b))

pub square_holds : (i : Interval) (x : Fraction) → IsFraction x → Holds i x → Holds (interval_square i) (product_of x x)
square_holds (between l h) x f a =
    let p = both_true (end_at_most (end_of l) (at x)) (end_at_most (at x) (end_of h)) a in
    rounded_holds (least_square (end_of l) (end_of h)) (greatest_square (end_of l) (end_of h)) (product_of x x)
    (good_least_square (end_of l) (end_of h) (good_ext l) (good_ext h)) (good_greatest_square (end_of l) (end_of h) (good_ext l) (good_ext h))
    (square_below (end_of l) (end_of h) (at x) (good_ext l) (good_ext h) f p.0 p.1)
    (square_above (end_of l) (end_of h) (at x) (good_ext l) (good_ext h) f p.0 p.1)
square_holds nothing x f a = absurd (true≢false (sym a))

pub rounded_fraction_holds : (q : Fraction) → IsFraction q → Holds (between (down q) (up q)) q
rounded_fraction_holds q f = both_pass (end_at_most (end_of (down q)) (at q)) (end_at_most (at q) (end_of (up q))) (down_side q f) (up_side q f)
