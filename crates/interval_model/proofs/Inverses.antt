-- What the result of an operation leaves to an operand holds that operand.
use Rattle.std.proofs.Common.{◌≡◌, ◌⊎◌, inl, inr, ℕ, suc, zero, ◌*◌, Bool, true, false, cond, ◌||◌, IsTrue, refl, sym, ◌∙◌, subst, arith, true≢false, ℤ, pos, negsuc, ◌+ℤ◌, ◌*ℤ◌, neg_ℤ, mul_comm}
use Rattle.std.proofs.Math.IntN.{+ℤ_comm}
use Rattle.dyadic.specs.Fraction.{Fraction, IsFraction, sum_of, product_of, negated, zero_fraction}
use Rattle.dyadic.specs.Rounding.{End, at, Ext, end_of, end_at_most}
use Rattle.interval_model.specs.Interval.{Interval, nothing, between, everything, interval_negated, inverse_sum, inverse_product, of_four, misses_nought, around_nought, nought_inside, up_from, up_to, is_above, is_below}
use Rattle.dyadic.specs.End.{Sign, below, nought, above, sign_of, end_sign, end_product, end_quotient, rounded_down}
use Rattle.dyadic.proofs.Ring.{atom, natural, plus, minus, times, same}
use Rattle.dyadic.proofs.Equal.{◌≈◌, both_true, both_pass}
use Rattle.interval_model.proofs.Ends.{◌⊑◌, Good, value, end_trans, zero_below, zero_above, good_product, zero_is_good, product_is_good}
use Rattle.interval_model.proofs.EndsProducts.{scale_up, scale_down, scale_up_second, scale_down_second, four_below, four_above, least_of_four, greatest_of_four}
use Rattle.interval_model.proofs.InversesEnds.{one_over, inverse_of, inverse_end, good_inverse, good_quotient, quotient_low, quotient_high, IsAbove, IsBelow, above_rises, below_falls, above_is_high, below_is_low, inverse_high, inverse_low, inverse_falls_above, inverse_falls_below, good_least_quotient, good_greatest_quotient, quotients_below, quotients_above, inverse_between_low, inverse_between_high}
use Rattle.interval_model.proofs.EndsSums.{good_ext, sum_is_good, negated_is_good}
use Rattle.interval_model.proofs.Holds.{Holds, same_holds, rounded_holds, round_below, round_above, sum_holds, negated_holds}

-- ---- sums

sum-back : (a c : ℤ) (b d : ℕ) → ((((a *ℤ pos d) +ℤ (c *ℤ pos b)) *ℤ pos d) +ℤ (neg_ℤ c *ℤ pos (b * d))) *ℤ pos b ≡ a *ℤ pos ((b * d) * d)
sum-back a c b d = same (times (plus (times (plus (times (atom a) (natural d)) (times (atom c) (natural b))) (natural d)) (times (minus (atom c)) (natural (b * d)))) (natural b))
    (times (atom a) (natural ((b * d) * d))) (omega arith)

-- (x + y) - y is x
pub sum_less : (x y : Fraction) → sum_of (sum_of x y) (negated y) ≈ x
unfolding sum_of negated
sum_less x y = record { same = sum-back x.num y.num x.den y.den }

pub sum_comm : (x y : Fraction) → sum_of x y ≡ sum_of y x
unfolding sum_of
sum_comm x y = λ i. record { num = +ℤ_comm (x.num *ℤ pos y.den) (y.num *ℤ pos x.den) i; den = mul_comm x.den y.den i }

-- x where x + y lies in n and y in o
pub inverse_sum_holds : (n o : Interval) (x y : Fraction) → IsFraction x → IsFraction y → Holds n (sum_of x y) → Holds o y → Holds (inverse_sum n o) x
inverse_sum_holds n o x y f g b a =
    same_holds (inverse_sum n o) (sum_of (sum_of x y) (negated y)) x (sum_is_good (sum_of x y) (negated y) (sum_is_good x y f g) (negated_is_good y g)) f (sum_less x y)
    (sum_holds n (interval_negated o) (sum_of x y) (negated y) b (negated_holds o y a))

-- ---- products

either : (x y : Bool) → IsTrue (x || y) → IsTrue x ⊎ IsTrue y
either true y h = inl refl
either false y h = inr h

back-above : (a c : ℤ) (b d n : ℕ) → ((a *ℤ pos (suc n)) *ℤ pos d) *ℤ pos b ≡ a *ℤ pos ((b * d) * suc n)
back-above a c b d n = same (times (times (times (atom a) (natural (suc n))) (natural d)) (natural b)) (times (atom a) (natural ((b * d) * suc n))) (omega arith)

back-below : (a : ℤ) (b d n : ℕ) → ((a *ℤ negsuc n) *ℤ neg_ℤ (pos d)) *ℤ pos b ≡ a *ℤ pos ((b * d) * suc n)
back-below a b d n = same (times (times (times (atom a) (minus (natural (suc n)))) (minus (natural d))) (natural b)) (times (atom a) (natural ((b * d) * suc n))) (omega arith)

-- (x * y) / y is x
product-back-at : (x : Fraction) (z : ℤ) (d : ℕ) → IsTrue (is_above (sign_of z)) ⊎ IsTrue (is_below (sign_of z)) → product_of (product_of x (value z d)) (one_over z d) ≈ x
unfolding product_of
product-back-at x (pos zero) d (inl h) = absurd (true≢false (sym h))
product-back-at x (pos zero) d (inr h) = absurd (true≢false (sym h))
product-back-at x (pos (suc n)) d h = record { same = back-above x.num (pos 0) x.den d n }
product-back-at x (negsuc n) d h = record { same = back-below x.num x.den d n }

pub product_back : (x y : Fraction) → IsAbove (at y) ⊎ IsBelow (at y) → product_of (product_of x y) (inverse_of y) ≈ x
product_back x y h = product-back-at x y.num y.den h

-- what misses 0 holds no product with 0
above-zero : (e : End) → Good e → IsAbove e → ◌⊑◌ e (at zero_fraction) → ⊥
above-zero e i a h = true≢false (sym (above_rises e (at zero_fraction) i zero_is_good h a))

below-zero : (e : End) → Good e → IsBelow e → ◌⊑◌ (at zero_fraction) e → ⊥
below-zero e i a h = true≢false (sym (below_falls (at zero_fraction) e zero_is_good i h a))

factor-at : (l h : End) (x : Fraction) (w : ℤ) (d : ℕ) → Good l → Good h → IsFraction (product_of x (value w d)) → IsBelow h ⊎ IsAbove l → ◌⊑◌ l (at (product_of x (value w d))) → ◌⊑◌ (at (product_of x (value w d))) h →
    IsTrue (is_above (sign_of w)) ⊎ IsTrue (is_below (sign_of w))
factor-at l h x (pos (suc n)) d i j k m a b = inl refl
factor-at l h x (negsuc n) d i j k m a b = inr refl
factor-at l h x (pos zero) d i j k (inl m) a b = absurd (below-zero h j m (end_trans (at zero_fraction) (at (product_of x (value (pos 0) d))) h k (zero_below x d) b))
factor-at l h x (pos zero) d i j k (inr m) a b = absurd (above-zero l i m (end_trans l (at (product_of x (value (pos 0) d))) (at zero_fraction) k a (zero_above x d)))

-- a factor of a product that lies where 0 does not is not 0
factor : (l h : End) (x y : Fraction) → Good l → Good h → IsFraction (product_of x y) → IsBelow h ⊎ IsAbove l → ◌⊑◌ l (at (product_of x y)) → ◌⊑◌ (at (product_of x y)) h → IsAbove (at y) ⊎ IsBelow (at y)
factor l h x y i j k m a b = factor-at l h x y.num y.den i j k m a b

-- what lies between ends that miss 0 is not 0
between-sign : (l h f : End) → Good l → Good h → Good f → IsBelow h ⊎ IsAbove l → ◌⊑◌ l f → ◌⊑◌ f h → IsAbove f ⊎ IsBelow f
between-sign l h f i j k (inl m) a b = inr (below_falls f h k j b m)
between-sign l h f i j k (inr m) a b = inl (above_rises l f i k a m)

-- z is x * y, and lies between l and h; y lies between a and b
module _ (l h a b : Ext) (x y : Fraction) (f : IsFraction x) (g : IsFraction y)
    (p : ◌⊑◌ (end_of l) (at (product_of x y))) (q : ◌⊑◌ (at (product_of x y)) (end_of h)) (r : ◌⊑◌ (end_of a) (at y)) (s : ◌⊑◌ (at y) (end_of b)) where
  z-good : IsFraction (product_of x y)
  z-good = product_is_good x y f g

  -- x as the product of z with one over y
  abbrev back : Fraction
  back = product_of (product_of x y) (inverse_of y)

  back-good : IsFraction back
  back-good = product_is_good (product_of x y) (inverse_of y) z-good (good_inverse (at y))

  from-back : (i : Interval) → IsAbove (at y) ⊎ IsBelow (at y) → Holds i back → Holds i x
  from-back i m k = same_holds i back x back-good f (product_back x y m) k

  quotients-hold : IsBelow (end_of b) ⊎ IsAbove (end_of a) → Holds (of_four end_quotient (between l h) (between a b)) x
  quotients-hold m =
      let gl = good_ext l in let gh = good_ext h in let ga = good_ext a in let gb = good_ext b in
      let ia = good_inverse (end_of a) in let ib = good_inverse (end_of b) in let iy = good_inverse (at y) in
      let low = inverse_between_low (end_of a) (end_of b) (at y) ga gb g m r s in
      let high = inverse_between_high (end_of a) (end_of b) (at y) ga gb g m r s in
      from-back (of_four end_quotient (between l h) (between a b)) (between-sign (end_of a) (end_of b) (at y) ga gb g m r s)
      (rounded_holds (least_of_four end_quotient (end_of l) (end_of h) (end_of a) (end_of b)) (greatest_of_four end_quotient (end_of l) (end_of h) (end_of a) (end_of b)) back
      (good_least_quotient (end_of l) (end_of h) (end_of a) (end_of b) (at back) gl gh ga gb)
      (good_greatest_quotient (end_of l) (end_of h) (end_of a) (end_of b) (at back) gl gh ga gb)
      (quotients_below (end_of l) (end_of h) (end_of a) (end_of b) (at back) gl gh ga gb
      (four_below (end_of l) (end_of h) (inverse_end (end_of b)) (inverse_end (end_of a)) (at (product_of x y)) (at (inverse_of y)) gl gh ib ia z-good iy p q low high))
      (quotients_above (end_of l) (end_of h) (end_of a) (end_of b) (at back) gl gh ga gb
      (four_above (end_of l) (end_of h) (inverse_end (end_of b)) (inverse_end (end_of a)) (at (product_of x y)) (at (inverse_of y)) gl gh ib ia z-good iy p q low high)))

  -- from a quotient up, and up to one
  from-quotient : (e c : Ext) → IsAbove (at y) ⊎ IsBelow (at y) → ◌⊑◌ (end_product (end_of e) (inverse_end (end_of c))) (at back) → Holds (up_from (end_of e) (end_of c)) x
  from-quotient e c m k = from-back (up_from (end_of e) (end_of c)) m
      (both_pass (end_at_most (end_of (rounded_down (end_quotient (end_of e) (end_of c)))) (at back)) true
      (round_below (end_quotient (end_of e) (end_of c)) back (good_quotient (end_of e) (end_of c) (good_ext e) (good_ext c))
      (quotient_low (end_of e) (end_of c) (at back) (good_ext e) (good_ext c) k)) refl)

  to-quotient : (e c : Ext) → IsAbove (at y) ⊎ IsBelow (at y) → ◌⊑◌ (at back) (end_product (end_of e) (inverse_end (end_of c))) → Holds (up_to (end_of e) (end_of c)) x
  to-quotient e c m k = from-back (up_to (end_of e) (end_of c)) m
      (round_above (end_quotient (end_of e) (end_of c)) back (good_quotient (end_of e) (end_of c) (good_ext e) (good_ext c))
      (quotient_high (end_of e) (end_of c) (at back) (good_ext e) (good_ext c) k))

  above-above : IsAbove (at y) → IsAbove (end_of l) → ◌⊑◌ (end_product (end_of l) (inverse_end (end_of b))) (at back)
  above-above m n = end_trans (end_product (end_of l) (inverse_end (end_of b))) (end_product (end_of l) (at (inverse_of y))) (at back) (good_product (end_of l) (at (inverse_of y)) (good_ext l) (good_inverse (at y)))
      (scale_up_second (inverse_end (end_of b)) (at (inverse_of y)) (end_of l) (good_inverse (end_of b)) (good_inverse (at y)) (above_is_high (end_of l) n) (inverse_falls_above (at y) (end_of b) g (good_ext b) m s))
      (scale_up (end_of l) (at (product_of x y)) (at (inverse_of y)) (good_ext l) z-good (inverse_high (at y) g m) p)

  above-below : IsAbove (at y) → IsBelow (end_of h) → ◌⊑◌ (at back) (end_product (end_of h) (inverse_end (end_of b)))
  above-below m n = end_trans (at back) (end_product (end_of h) (at (inverse_of y))) (end_product (end_of h) (inverse_end (end_of b))) (good_product (end_of h) (at (inverse_of y)) (good_ext h) (good_inverse (at y)))
      (scale_up (at (product_of x y)) (end_of h) (at (inverse_of y)) z-good (good_ext h) (inverse_high (at y) g m) q)
      (scale_down_second (inverse_end (end_of b)) (at (inverse_of y)) (end_of h) (good_inverse (end_of b)) (good_inverse (at y)) (below_is_low (end_of h) n) (inverse_falls_above (at y) (end_of b) g (good_ext b) m s))

  below-above : IsBelow (at y) → IsAbove (end_of l) → ◌⊑◌ (at back) (end_product (end_of l) (inverse_end (end_of a)))
  below-above m n = end_trans (at back) (end_product (end_of l) (at (inverse_of y))) (end_product (end_of l) (inverse_end (end_of a))) (good_product (end_of l) (at (inverse_of y)) (good_ext l) (good_inverse (at y)))
      (scale_down (end_of l) (at (product_of x y)) (at (inverse_of y)) (good_ext l) z-good (inverse_low (at y) g m) p)
      (scale_up_second (at (inverse_of y)) (inverse_end (end_of a)) (end_of l) (good_inverse (at y)) (good_inverse (end_of a)) (above_is_high (end_of l) n) (inverse_falls_below (end_of a) (at y) (good_ext a) g m r))

  below-below : IsBelow (at y) → IsBelow (end_of h) → ◌⊑◌ (end_product (end_of h) (inverse_end (end_of a))) (at back)
  below-below m n = end_trans (end_product (end_of h) (inverse_end (end_of a))) (end_product (end_of h) (at (inverse_of y))) (at back) (good_product (end_of h) (at (inverse_of y)) (good_ext h) (good_inverse (at y)))
      (scale_down_second (at (inverse_of y)) (inverse_end (end_of a)) (end_of h) (good_inverse (at y)) (good_inverse (end_of a)) (below_is_low (end_of h) n) (inverse_falls_below (end_of a) (at y) (good_ext a) g m r))
      (scale_down (at (product_of x y)) (end_of h) (at (inverse_of y)) z-good (good_ext h) (inverse_low (at y) g m) q)

  b-above : IsAbove (at y) → IsAbove (end_of b)
  b-above m = above_rises (at y) (end_of b) g (good_ext b) s m

  a-below : IsBelow (at y) → IsBelow (end_of a)
  a-below m = below_falls (end_of a) (at y) (good_ext a) g r m

  at-sign : {t u : Sign} → t ≡ u → IsTrue (is_above t) → IsTrue (is_above u)
  at-sign e k = subst (λ (w : Sign). IsTrue (is_above w)) e k

  at-sign-below : {t u : Sign} → t ≡ u → IsTrue (is_below t) → IsTrue (is_below u)
  at-sign-below e k = subst (λ (w : Sign). IsTrue (is_below w)) e k

  -- by the signs of a, b and l, where n misses 0
  around : (t u : Sign) (high : Bool) → end_sign (end_of a) ≡ t → end_sign (end_of b) ≡ u → is_above (end_sign (end_of l)) ≡ high → IsBelow (end_of h) ⊎ IsAbove (end_of l) → IsAbove (at y) ⊎ IsBelow (at y) →
      Holds (around_nought t u high (end_of l) (end_of h) (end_of a) (end_of b)) x
  around nought nought high c d e m (inl k) = absurd (true≢false (sym (at-sign d (b-above k))))
  around nought nought high c d e m (inr k) = absurd (true≢false (sym (at-sign-below c (a-below k))))
  around nought above high c d e m (inr k) = absurd (true≢false (sym (at-sign-below c (a-below k))))
  around nought above true c d e m (inl k) = from-quotient l b (inl k) (above-above k e)
  around nought above false c d e (inl m) (inl k) = to-quotient h b (inl k) (above-below k m)
  around nought above false c d e (inr m) (inl k) = absurd (true≢false (sym m ∙ e))
  around nought below high c d e m k = refl
  around below nought high c d e m (inl k) = absurd (true≢false (sym (at-sign d (b-above k))))
  around below nought true c d e m (inr k) = to-quotient l a (inr k) (below-above k e)
  around below nought false c d e (inl m) (inr k) = from-quotient h a (inr k) (below-below k m)
  around below nought false c d e (inr m) (inr k) = absurd (true≢false (sym m ∙ e))
  around below below high c d e m k = refl
  around below above high c d e m k = refl
  around above u high c d e m k = refl

  by-tests : (t u : Bool) → misses_nought (between a b) ≡ t → misses_nought (between l h) ≡ u →
      Holds (cond t (of_four end_quotient (between l h) (between a b)) (cond u (nought_inside (between l h) a b) everything)) x
  by-tests true u c d = quotients-hold (either (is_below (end_sign (end_of b))) (is_above (end_sign (end_of a))) c)
  by-tests false true c d = let m = either (is_below (end_sign (end_of h))) (is_above (end_sign (end_of l))) d in
      around (end_sign (end_of a)) (end_sign (end_of b)) (is_above (end_sign (end_of l))) refl refl refl m (factor (end_of l) (end_of h) x y (good_ext l) (good_ext h) z-good m p q)
  by-tests false false c d = refl

-- x where x * y lies in n and y in o
pub inverse_product_holds : (n o : Interval) (x y : Fraction) → IsFraction x → IsFraction y → Holds n (product_of x y) → Holds o y → Holds (inverse_product n o) x
inverse_product_holds (between l h) (between a b) x y f g m k =
    let r = both_true (end_at_most (end_of a) (at y)) (end_at_most (at y) (end_of b)) k in
    let p = both_true (end_at_most (end_of l) (at (product_of x y))) (end_at_most (at (product_of x y)) (end_of h)) m in
    by-tests l h a b x y f g p.0 p.1 r.0 r.1 (misses_nought (between a b)) (misses_nought (between l h)) refl refl
inverse_product_holds nothing o x y f g m k = absurd (true≢false (sym m))
inverse_product_holds (between l h) nothing x y f g m k = absurd (true≢false (sym k))
