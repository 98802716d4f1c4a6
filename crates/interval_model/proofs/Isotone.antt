-- Smaller arguments give an interval that lies within.
use Rattle.std.proofs.Common.{◌≡◌, inl, inr, Bool, true, false, cond, ◌&&◌, IsTrue, refl, sym, true≢false, lit<}
use Rattle.dyadic.specs.Fraction.{Fraction, IsFraction, sum_of, product_of, negated, zero_fraction}
use Rattle.dyadic.specs.Rounding.{exact, End, minus_infinity, at, plus_infinity, Ext, below_all, finite, above_all, end_of, end_at_most, ext_at_most, down, up}
use Rattle.interval_model.specs.Interval.{Interval, nothing, between, everything, rounded, interval_sum, interval_negated, interval_product, interval_square, met, hull, within}
use Rattle.dyadic.specs.End.{end_sum, end_product, lesser, greater, negated_ext, rounded_down, rounded_up, lesser_ext, greater_ext}
pub use Rattle.interval_model.specs.Interval.{IsLow, IsHigh, IsProper}
use Rattle.dyadic.proofs.Rounds.{down_isotone, up_isotone}
use Rattle.dyadic.proofs.Equal.{both_true, both_pass}
use Rattle.interval_model.proofs.Ends.{◌⊑◌, Good, end_trans, zero_is_good, product_is_good}
use Rattle.interval_model.proofs.EndsProducts.{end_refl, below_top, least_of_four, greatest_of_four, good_least, good_greatest, four_below, four_above}
use Rattle.interval_model.proofs.EndsSums.{good_ext, good_sum, sum_mono, negated_mono, exact_negated, sum_is_good, negated_is_good}
use Rattle.interval_model.proofs.Squares.{least_square, greatest_square, good_least_square, good_greatest_square, square_above, square_below}
use Rattle.interval_model.proofs.Holds.{Holds, lesser_ext_below, greater_ext_above, sum_holds, negated_holds, product_holds, square_holds}

-- ---- proper intervals

low-of : (e : Ext) (v : Fraction) → ◌⊑◌ (end_of e) (at v) → IsLow e
low-of below_all v h = tt
low-of (finite d) v h = tt
low-of above_all v h = absurd (true≢false (sym h))

high-of : (e : Ext) (v : Fraction) → ◌⊑◌ (at v) (end_of e) → IsHigh e
high-of below_all v h = absurd (true≢false (sym h))
high-of (finite d) v h = tt
high-of above_all v h = tt

-- an interval that holds a fraction is proper
pub proper_from : (i : Interval) (v : Fraction) → IsFraction v → Holds i v → IsProper i
proper_from nothing v f h = tt
proper_from (between l h) v f k =
    let p = both_true (end_at_most (end_of l) (at v)) (end_at_most (at v) (end_of h)) k in
    (end_trans (end_of l) (at v) (end_of h) f p.0 p.1, low-of l v p.0, high-of h v p.1)

-- and one that is proper holds a fraction
pub record Member (i : Interval) : Type 0 where
  pub member : Fraction
  pub is_fraction : IsFraction member
  pub inside : Holds i member

pub member_of : (l h : Ext) → IsProper (between l h) → Member (between l h)
member_of (finite d) h p = record { member = exact d; is_fraction = lit< tt; inside = both_pass (end_at_most (at (exact d)) (at (exact d))) (end_at_most (at (exact d)) (end_of h)) (end_refl (at (exact d))) p.0 }
member_of below_all (finite d) p = record { member = exact d; is_fraction = lit< tt; inside = end_refl (at (exact d)) }
member_of below_all above_all p = record { member = zero_fraction; is_fraction = zero_is_good; inside = refl }
member_of below_all below_all p = absurd p.2
member_of above_all h p = absurd p.1

pub sum_proper : (i j : Interval) → IsProper i → IsProper j → IsProper (interval_sum i j)
sum_proper nothing j p q = tt
sum_proper (between l h) nothing p q = tt
sum_proper (between l h) (between l' h') p q =
    let m = member_of l h p in let n = member_of l' h' q in
    proper_from (interval_sum (between l h) (between l' h')) (sum_of m.member n.member) (sum_is_good m.member n.member m.is_fraction n.is_fraction) (sum_holds (between l h) (between l' h') m.member n.member m.inside n.inside)

pub negated_proper : (i : Interval) → IsProper i → IsProper (interval_negated i)
negated_proper nothing p = tt
negated_proper (between l h) p = let m = member_of l h p in proper_from (interval_negated (between l h)) (negated m.member) (negated_is_good m.member m.is_fraction) (negated_holds (between l h) m.member m.inside)

pub product_proper : (i j : Interval) → IsProper i → IsProper j → IsProper (interval_product i j)
product_proper nothing j p q = tt
product_proper (between l h) nothing p q = tt
product_proper (between l h) (between l' h') p q =
    let m = member_of l h p in let n = member_of l' h' q in
    proper_from (interval_product (between l h) (between l' h')) (product_of m.member n.member) (product_is_good m.member n.member m.is_fraction n.is_fraction)
    (product_holds (between l h) (between l' h') m.member n.member m.is_fraction n.is_fraction m.inside n.inside)

pub square_proper : (i : Interval) → IsProper i → IsProper (interval_square i)
square_proper nothing p = tt
square_proper (between l h) p = let m = member_of l h p in
    proper_from (interval_square (between l h)) (product_of m.member m.member) (product_is_good m.member m.member m.is_fraction m.is_fraction) (square_holds (between l h) m.member m.is_fraction m.inside)

greater-low : (e f : Ext) → IsLow e → IsLow f → IsLow (greater_ext e f)
greater-low e f i j = go (ext_at_most e f)
  where
    go : (t : Bool) → IsLow (cond t f e)
    go true = j
    go false = i

lesser-high : (e f : Ext) → IsHigh e → IsHigh f → IsHigh (lesser_ext e f)
lesser-high e f i j = go (ext_at_most e f)
  where
    go : (t : Bool) → IsHigh (cond t e f)
    go true = i
    go false = j

pub met_proper : (i j : Interval) → IsProper i → IsProper j → IsProper (met i j)
met_proper nothing j p q = tt
met_proper (between l h) nothing p q = tt
met_proper (between l h) (between l' h') p q = go (ext_at_most (greater_ext l l') (lesser_ext h h')) refl
  where
    go : (t : Bool) → ext_at_most (greater_ext l l') (lesser_ext h h') ≡ t → IsProper (cond t (between (greater_ext l l') (lesser_ext h h')) nothing)
    go true e = (e, greater-low l l' p.1 q.1, lesser-high h h' p.2 q.2)
    go false e = tt

-- ---- within

pub within_refl : (i : Interval) → IsTrue (within i i)
within_refl nothing = refl
within_refl (between l h) = both_pass (ext_at_most l l) (ext_at_most h h) (end_refl (end_of l)) (end_refl (end_of h))

pub within_trans : (i j k : Interval) → IsTrue (within i j) → IsTrue (within j k) → IsTrue (within i k)
within_trans nothing j k a b = refl
within_trans (between l h) nothing k a b = absurd (true≢false (sym a))
within_trans (between l h) (between l' h') nothing a b = absurd (true≢false (sym b))
within_trans (between l h) (between l' h') (between l'' h'') a b =
    let p = both_true (ext_at_most l' l) (ext_at_most h h') a in let q = both_true (ext_at_most l'' l') (ext_at_most h' h'') b in
    both_pass (ext_at_most l'' l) (ext_at_most h h'') (end_trans (end_of l'') (end_of l') (end_of l) (good_ext l') q.0 p.0) (end_trans (end_of h) (end_of h') (end_of h'') (good_ext h') p.1 q.1)

pub within_everything : (i : Interval) → IsTrue (within i everything)
within_everything nothing = refl
within_everything (between l h) = below_top (end_of h)

-- what is at most each of two is at most the lesser
under-lesser : (e f : Ext) (g : End) → ◌⊑◌ g (end_of e) → ◌⊑◌ g (end_of f) → ◌⊑◌ g (end_of (lesser_ext e f))
under-lesser e f g h k = go (ext_at_most e f)
  where
    go : (t : Bool) → ◌⊑◌ g (end_of (cond t e f))
    go true = h
    go false = k

over-greater : (e f : Ext) (g : End) → ◌⊑◌ (end_of e) g → ◌⊑◌ (end_of f) g → ◌⊑◌ (end_of (greater_ext e f)) g
over-greater e f g h k = go (ext_at_most e f)
  where
    go : (t : Bool) → ◌⊑◌ (end_of (cond t f e)) g
    go true = k
    go false = h

pub met_within_first : (i j : Interval) → IsTrue (within (met i j) i)
met_within_first nothing j = refl
met_within_first (between l h) nothing = refl
met_within_first (between l h) (between l' h') = go (ext_at_most (greater_ext l l') (lesser_ext h h'))
  where
    go : (t : Bool) → IsTrue (within (cond t (between (greater_ext l l') (lesser_ext h h')) nothing) (between l h))
    go true = both_pass (ext_at_most l (greater_ext l l')) (ext_at_most (lesser_ext h h') h) (greater_ext_above l l' (end_of l) (inl (end_refl (end_of l)))) (lesser_ext_below h h' (end_of h) (inl (end_refl (end_of h))))
    go false = refl

pub met_within_second : (i j : Interval) → IsTrue (within (met i j) j)
met_within_second nothing j = refl
met_within_second (between l h) nothing = refl
met_within_second (between l h) (between l' h') = go (ext_at_most (greater_ext l l') (lesser_ext h h'))
  where
    go : (t : Bool) → IsTrue (within (cond t (between (greater_ext l l') (lesser_ext h h')) nothing) (between l' h'))
    go true = both_pass (ext_at_most l' (greater_ext l l')) (ext_at_most (lesser_ext h h') h') (greater_ext_above l l' (end_of l') (inr (end_refl (end_of l')))) (lesser_ext_below h h' (end_of h') (inr (end_refl (end_of h'))))
    go false = refl

-- what is proper and within both is within the meet
pub within_met : (k i j : Interval) → IsProper k → IsTrue (within k i) → IsTrue (within k j) → IsTrue (within k (met i j))
within_met nothing i j p a b = refl
within_met (between l h) nothing j p a b = absurd (true≢false (sym a))
within_met (between l h) (between l' h') nothing p a b = absurd (true≢false (sym b))
within_met (between l h) (between l' h') (between l'' h'') p a b =
    let q = both_true (ext_at_most l' l) (ext_at_most h h') a in let r = both_true (ext_at_most l'' l) (ext_at_most h h'') b in
    let low = over-greater l' l'' (end_of l) q.0 r.0 in let high = under-lesser h' h'' (end_of h) q.1 r.1 in
    rw (end_trans (end_of (greater_ext l' l'')) (end_of l) (end_of (lesser_ext h' h'')) (good_ext l) low (end_trans (end_of l) (end_of h) (end_of (lesser_ext h' h'')) (good_ext h) p.0 high))
    (both_pass (ext_at_most (greater_ext l' l'') l) (ext_at_most h (lesser_ext h' h'')) low high)

-- the meet's ends are in order, whatever the arguments
met-order : (l h l' h' : Ext) (i j : Interval) → IsTrue (within (between l h) i) → IsTrue (within (between l' h') j) → IsTrue (within (met (between l h) (between l' h')) (met i j))
met-order l h l' h' nothing j a b = absurd (true≢false (sym a))
met-order l h l' h' (between m k) nothing a b = absurd (true≢false (sym b))
met-order l h l' h' (between m k) (between m' k') a b = go (ext_at_most (greater_ext l l') (lesser_ext h h')) refl
  where
    q : IsTrue (ext_at_most m l) × IsTrue (ext_at_most h k)
    q = both_true (ext_at_most m l) (ext_at_most h k) a

    r : IsTrue (ext_at_most m' l') × IsTrue (ext_at_most h' k')
    r = both_true (ext_at_most m' l') (ext_at_most h' k') b

    low : ◌⊑◌ (end_of (greater_ext m m')) (end_of (greater_ext l l'))
    low = over-greater m m' (end_of (greater_ext l l')) (greater_ext_above l l' (end_of m) (inl q.0)) (greater_ext_above l l' (end_of m') (inr r.0))

    high : ◌⊑◌ (end_of (lesser_ext h h')) (end_of (lesser_ext k k'))
    high = under-lesser k k' (end_of (lesser_ext h h')) (lesser_ext_below h h' (end_of k) (inl q.1)) (lesser_ext_below h h' (end_of k') (inr r.1))

    go : (t : Bool) → ext_at_most (greater_ext l l') (lesser_ext h h') ≡ t → IsTrue (within (cond t (between (greater_ext l l') (lesser_ext h h')) nothing) (met (between m k) (between m' k')))
    go false e = refl
    go true e =
        rw (end_trans (end_of (greater_ext m m')) (end_of (greater_ext l l')) (end_of (lesser_ext k k')) (good_ext (greater_ext l l')) low (end_trans (end_of (greater_ext l l')) (end_of (lesser_ext h h')) (end_of (lesser_ext k k')) (good_ext (lesser_ext h h')) e high))
        (both_pass (ext_at_most (greater_ext m m') (greater_ext l l')) (ext_at_most (lesser_ext h h') (lesser_ext k k')) low high)

pub met_isotone : (i j i' j' : Interval) → IsTrue (within i i') → IsTrue (within j j') → IsTrue (within (met i j) (met i' j'))
met_isotone nothing j i' j' a b = refl
met_isotone (between l h) nothing i' j' a b = refl
met_isotone (between l h) (between l' h') i' j' a b = met-order l h l' h' i' j' a b

pub hull_around_first : (i j : Interval) → IsTrue (within i (hull i j))
hull_around_first nothing j = refl
hull_around_first (between l h) nothing = within_refl (between l h)
hull_around_first (between l h) (between l' h') = both_pass (ext_at_most (lesser_ext l l') l) (ext_at_most h (greater_ext h h')) (lesser_ext_below l l' (end_of l) (inl (end_refl (end_of l)))) (greater_ext_above h h' (end_of h) (inl (end_refl (end_of h))))

pub hull_around_second : (i j : Interval) → IsTrue (within j (hull i j))
hull_around_second nothing j = within_refl j
hull_around_second (between l h) nothing = refl
hull_around_second (between l h) (between l' h') = both_pass (ext_at_most (lesser_ext l l') l') (ext_at_most h' (greater_ext h h')) (lesser_ext_below l l' (end_of l') (inr (end_refl (end_of l')))) (greater_ext_above h h' (end_of h') (inr (end_refl (end_of h'))))

pub hull_within : (i j k : Interval) → IsTrue (within i k) → IsTrue (within j k) → IsTrue (within (hull i j) k)
hull_within nothing j k a b = b
hull_within (between l h) nothing k a b = a
hull_within (between l h) (between l' h') nothing a b = absurd (true≢false (sym a))
hull_within (between l h) (between l' h') (between m k) a b =
    let q = both_true (ext_at_most m l) (ext_at_most h k) a in let r = both_true (ext_at_most m l') (ext_at_most h' k) b in
    both_pass (ext_at_most m (lesser_ext l l')) (ext_at_most (greater_ext h h') k) (under-lesser l l' (end_of m) q.0 r.0) (over-greater h h' (end_of k) q.1 r.1)

pub hull_isotone : (i j i' j' : Interval) → IsTrue (within i i') → IsTrue (within j j') → IsTrue (within (hull i j) (hull i' j'))
hull_isotone i j i' j' a b = hull_within i j (hull i' j') (within_trans i i' (hull i' j') a (hull_around_first i' j')) (within_trans j j' (hull i' j') b (hull_around_second i' j'))

-- ---- rounding keeps the order

pub rounded_down_rises : (e f : End) → Good e → Good f → ◌⊑◌ e f → IsTrue (ext_at_most (rounded_down e) (rounded_down f))
rounded_down_rises minus_infinity f i j h = refl
rounded_down_rises (at p) (at q) i j h = down_isotone p q i j h
rounded_down_rises (at p) plus_infinity i j h = below_top (end_of (down p))
rounded_down_rises (at p) minus_infinity i j h = absurd (true≢false (sym h))
rounded_down_rises plus_infinity plus_infinity i j h = refl
rounded_down_rises plus_infinity (at q) i j h = absurd (true≢false (sym h))
rounded_down_rises plus_infinity minus_infinity i j h = absurd (true≢false (sym h))

pub rounded_up_rises : (e f : End) → Good e → Good f → ◌⊑◌ e f → IsTrue (ext_at_most (rounded_up e) (rounded_up f))
rounded_up_rises minus_infinity f i j h = refl
rounded_up_rises (at p) (at q) i j h = up_isotone p q i j h
rounded_up_rises (at p) plus_infinity i j h = below_top (end_of (up p))
rounded_up_rises (at p) minus_infinity i j h = absurd (true≢false (sym h))
rounded_up_rises plus_infinity plus_infinity i j h = refl
rounded_up_rises plus_infinity (at q) i j h = absurd (true≢false (sym h))
rounded_up_rises plus_infinity minus_infinity i j h = absurd (true≢false (sym h))

pub rounded_within : (l h l' h' : End) → Good l → Good h → Good l' → Good h' → ◌⊑◌ l' l → ◌⊑◌ h h' → IsTrue (within (rounded l h) (rounded l' h'))
rounded_within l h l' h' i j i' j' a b = both_pass (ext_at_most (rounded_down l') (rounded_down l)) (ext_at_most (rounded_up h) (rounded_up h')) (rounded_down_rises l' l i' i a) (rounded_up_rises h h' j j' b)

-- ---- sum, opposite

end-sum-rises : (e f e' f' : End) → ◌⊑◌ e e' → ◌⊑◌ f f' → ◌⊑◌ (end_sum e f) (end_sum e' f')
end-sum-rises minus_infinity f e' f' a b = refl
end-sum-rises (at p) minus_infinity e' f' a b = refl
end-sum-rises (at p) f plus_infinity f' a b = below_top (end_sum (at p) f)
end-sum-rises (at p) f minus_infinity f' a b = absurd (true≢false (sym a))
end-sum-rises (at p) (at q) (at p') (at q') a b = sum_mono p q p' q' a b
end-sum-rises (at p) (at q) (at p') plus_infinity a b = refl
end-sum-rises (at p) (at q) (at p') minus_infinity a b = absurd (true≢false (sym b))
end-sum-rises (at p) plus_infinity (at p') plus_infinity a b = refl
end-sum-rises (at p) plus_infinity (at p') (at q') a b = absurd (true≢false (sym b))
end-sum-rises (at p) plus_infinity (at p') minus_infinity a b = absurd (true≢false (sym b))
end-sum-rises plus_infinity f plus_infinity f' a b = refl
end-sum-rises plus_infinity f (at q) f' a b = absurd (true≢false (sym a))
end-sum-rises plus_infinity f minus_infinity f' a b = absurd (true≢false (sym a))

pub sum_isotone : (i j i' j' : Interval) → IsTrue (within i i') → IsTrue (within j j') → IsTrue (within (interval_sum i j) (interval_sum i' j'))
sum_isotone nothing j i' j' a b = refl
sum_isotone (between l h) nothing i' j' a b = refl
sum_isotone (between l h) (between l' h') nothing j' a b = absurd (true≢false (sym a))
sum_isotone (between l h) (between l' h') (between m k) nothing a b = absurd (true≢false (sym b))
sum_isotone (between l h) (between l' h') (between m k) (between m' k') a b =
    let q = both_true (ext_at_most m l) (ext_at_most h k) a in let r = both_true (ext_at_most m' l') (ext_at_most h' k') b in
    rounded_within (end_sum (end_of l) (end_of l')) (end_sum (end_of h) (end_of h')) (end_sum (end_of m) (end_of m')) (end_sum (end_of k) (end_of k'))
    (good_sum (end_of l) (end_of l') (good_ext l) (good_ext l')) (good_sum (end_of h) (end_of h') (good_ext h) (good_ext h')) (good_sum (end_of m) (end_of m') (good_ext m) (good_ext m')) (good_sum (end_of k) (end_of k') (good_ext k) (good_ext k'))
    (end-sum-rises (end_of m) (end_of m') (end_of l) (end_of l') q.0 r.0) (end-sum-rises (end_of h) (end_of h') (end_of k) (end_of k') q.1 r.1)

pub negated_ext_falls : (e f : Ext) → IsTrue (ext_at_most e f) → IsTrue (ext_at_most (negated_ext f) (negated_ext e))
negated_ext_falls below_all f h = below_top (end_of (negated_ext f))
negated_ext_falls (finite d) (finite d') h = rw (← exact_negated d, ← exact_negated d') (negated_mono (exact d) (exact d') h)
negated_ext_falls (finite d) above_all h = refl
negated_ext_falls (finite d) below_all h = absurd (true≢false (sym h))
negated_ext_falls above_all above_all h = refl
negated_ext_falls above_all (finite d) h = absurd (true≢false (sym h))
negated_ext_falls above_all below_all h = absurd (true≢false (sym h))

pub negated_isotone : (i i' : Interval) → IsTrue (within i i') → IsTrue (within (interval_negated i) (interval_negated i'))
negated_isotone nothing i' a = refl
negated_isotone (between l h) nothing a = absurd (true≢false (sym a))
negated_isotone (between l h) (between m k) a =
    let q = both_true (ext_at_most m l) (ext_at_most h k) a in
    both_pass (ext_at_most (negated_ext k) (negated_ext h)) (ext_at_most (negated_ext l) (negated_ext m)) (negated_ext_falls h k q.1) (negated_ext_falls m l q.0)

-- ---- product

pub below_lesser : (e f g : End) → ◌⊑◌ g e → ◌⊑◌ g f → ◌⊑◌ g (lesser e f)
below_lesser e f g h k = go (end_at_most e f)
  where
    go : (t : Bool) → ◌⊑◌ g (cond t e f)
    go true = h
    go false = k

pub above_greater : (e f g : End) → ◌⊑◌ e g → ◌⊑◌ f g → ◌⊑◌ (greater e f) g
above_greater e f g h k = go (end_at_most e f)
  where
    go : (t : Bool) → ◌⊑◌ (cond t f e) g
    go true = k
    go false = h

-- l to h within m to k, and l' to h' within m' to k'
module _ (l h l' h' m k m' k' : End) (gl : Good l) (gh : Good h) (gl' : Good l') (gh' : Good h') (gm : Good m) (gk : Good k) (gm' : Good m') (gk' : Good k')
    (a : ◌⊑◌ m l) (b : ◌⊑◌ l h) (c : ◌⊑◌ h k) (a' : ◌⊑◌ m' l') (b' : ◌⊑◌ l' h') (c' : ◌⊑◌ h' k') where
  least : (e f : End) → Good e → Good f → ◌⊑◌ m e → ◌⊑◌ e k → ◌⊑◌ m' f → ◌⊑◌ f k' → ◌⊑◌ (least_of_four end_product m k m' k') (end_product e f)
  least e f i j p q r s = four_below m k m' k' e f gm gk gm' gk' i j p q r s

  greatest : (e f : End) → Good e → Good f → ◌⊑◌ m e → ◌⊑◌ e k → ◌⊑◌ m' f → ◌⊑◌ f k' → ◌⊑◌ (end_product e f) (greatest_of_four end_product m k m' k')
  greatest e f i j p q r s = four_above m k m' k' e f gm gk gm' gk' i j p q r s

  lk : ◌⊑◌ l k
  lk = end_trans l h k gh b c

  mh : ◌⊑◌ m h
  mh = end_trans m l h gl a b

  lk' : ◌⊑◌ l' k'
  lk' = end_trans l' h' k' gh' b' c'

  mh' : ◌⊑◌ m' h'
  mh' = end_trans m' l' h' gl' a' b'

  pub least_falls : ◌⊑◌ (least_of_four end_product m k m' k') (least_of_four end_product l h l' h')
  least_falls = below_lesser (lesser (end_product l l') (end_product l h')) (lesser (end_product h l') (end_product h h')) (least_of_four end_product m k m' k')
      (below_lesser (end_product l l') (end_product l h') (least_of_four end_product m k m' k') (least l l' gl gl' a lk a' lk') (least l h' gl gh' a lk mh' c'))
      (below_lesser (end_product h l') (end_product h h') (least_of_four end_product m k m' k') (least h l' gh gl' mh c a' lk') (least h h' gh gh' mh c mh' c'))

  pub greatest_rises : ◌⊑◌ (greatest_of_four end_product l h l' h') (greatest_of_four end_product m k m' k')
  greatest_rises = above_greater (greater (end_product l l') (end_product l h')) (greater (end_product h l') (end_product h h')) (greatest_of_four end_product m k m' k')
      (above_greater (end_product l l') (end_product l h') (greatest_of_four end_product m k m' k') (greatest l l' gl gl' a lk a' lk') (greatest l h' gl gh' a lk mh' c'))
      (above_greater (end_product h l') (end_product h h') (greatest_of_four end_product m k m' k') (greatest h l' gh gl' mh c a' lk') (greatest h h' gh gh' mh c mh' c'))

pub product_isotone : (i j i' j' : Interval) → IsProper i → IsProper j → IsTrue (within i i') → IsTrue (within j j') → IsTrue (within (interval_product i j) (interval_product i' j'))
product_isotone nothing j i' j' p p' a b = refl
product_isotone (between l h) nothing i' j' p p' a b = refl
product_isotone (between l h) (between l' h') nothing j' p p' a b = absurd (true≢false (sym a))
product_isotone (between l h) (between l' h') (between m k) nothing p p' a b = absurd (true≢false (sym b))
product_isotone (between l h) (between l' h') (between m k) (between m' k') p p' a b =
    let q = both_true (ext_at_most m l) (ext_at_most h k) a in let r = both_true (ext_at_most m' l') (ext_at_most h' k') b in
    let gl = good_ext l in let gh = good_ext h in let gm = good_ext m in let gk = good_ext k in
    let gl' = good_ext l' in let gh' = good_ext h' in let gm' = good_ext m' in let gk' = good_ext k' in
    rounded_within (least_of_four end_product (end_of l) (end_of h) (end_of l') (end_of h')) (greatest_of_four end_product (end_of l) (end_of h) (end_of l') (end_of h'))
    (least_of_four end_product (end_of m) (end_of k) (end_of m') (end_of k')) (greatest_of_four end_product (end_of m) (end_of k) (end_of m') (end_of k'))
    (good_least (end_of l) (end_of h) (end_of l') (end_of h') gl gh gl' gh') (good_greatest (end_of l) (end_of h) (end_of l') (end_of h') gl gh gl' gh')
    (good_least (end_of m) (end_of k) (end_of m') (end_of k') gm gk gm' gk') (good_greatest (end_of m) (end_of k) (end_of m') (end_of k') gm gk gm' gk')
    (least_falls (end_of l) (end_of h) (end_of l') (end_of h') (end_of m) (end_of k) (end_of m') (end_of k') gl gh gl' gh' gm gk gm' gk' q.0 p.0 q.1 r.0 p'.0 r.1)
    (greatest_rises (end_of l) (end_of h) (end_of l') (end_of h') (end_of m) (end_of k) (end_of m') (end_of k') gl gh gl' gh' gm gk gm' gk' q.0 p.0 q.1 r.0 p'.0 r.1)

-- ---- square

-- l to h within m to k
module _ (l h m k : End) (gl : Good l) (gh : Good h) (gm : Good m) (gk : Good k) (a : ◌⊑◌ m l) (b : ◌⊑◌ l h) (c : ◌⊑◌ h k) where
  between-square : (e : End) → Good e → ◌⊑◌ l e → ◌⊑◌ e h → ◌⊑◌ (least_square m k) (end_product e e)
  between-square e i p q = square_below m k e gm gk i (end_trans m l e gl a p) (end_trans e h k gh q c)

  -- where 0 lies between l and h it lies between m and k
  zero-between : (t : Bool) → (end_at_most l (at zero_fraction) && end_at_most (at zero_fraction) h) ≡ t → ◌⊑◌ (least_square m k) (cond t (at zero_fraction) (lesser (end_product l l) (end_product h h)))
  zero-between false e = below_lesser (end_product l l) (end_product h h) (least_square m k) (between-square l gl (end_refl l) b) (between-square h gh b (end_refl h))
  zero-between true e =
      let z = both_true (end_at_most l (at zero_fraction)) (end_at_most (at zero_fraction) h) e in
      rw (both_pass (end_at_most m (at zero_fraction)) (end_at_most (at zero_fraction) k) (end_trans m l (at zero_fraction) gl a z.0) (end_trans (at zero_fraction) h k gh z.1 c)) (end_refl (at zero_fraction))

  pub least_square_falls : ◌⊑◌ (least_square m k) (least_square l h)
  least_square_falls = zero-between (end_at_most l (at zero_fraction) && end_at_most (at zero_fraction) h) refl

  pub greatest_square_rises : ◌⊑◌ (greatest_square l h) (greatest_square m k)
  greatest_square_rises = above_greater (end_product l l) (end_product h h) (greatest_square m k) (square_above m k l gm gk gl a (end_trans l h k gh b c)) (square_above m k h gm gk gh (end_trans m l h gl a b) c)

pub square_isotone : (i i' : Interval) → IsProper i → IsTrue (within i i') → IsTrue (within (interval_square i) (interval_square i'))
square_isotone nothing i' p a = refl
square_isotone (between l h) nothing p a = absurd (true≢false (sym a))
square_isotone (between l h) (between m k) p a =
    let q = both_true (ext_at_most m l) (ext_at_most h k) a in
    let gl = good_ext l in let gh = good_ext h in let gm = good_ext m in let gk = good_ext k in
    rounded_within (least_square (end_of l) (end_of h)) (greatest_square (end_of l) (end_of h)) (least_square (end_of m) (end_of k)) (greatest_square (end_of m) (end_of k))
    (good_least_square (end_of l) (end_of h) gl gh) (good_greatest_square (end_of l) (end_of h) gl gh) (good_least_square (end_of m) (end_of k) gm gk) (good_greatest_square (end_of m) (end_of k) gm gk)
    (least_square_falls (end_of l) (end_of h) (end_of m) (end_of k) gl gh gm gk q.0 p.0 q.1) (greatest_square_rises (end_of l) (end_of h) (end_of m) (end_of k) gl gh gm gk q.0 p.0 q.1)
