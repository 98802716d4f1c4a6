-- What smaller arguments leave to an operand lies within what greater ones leave.
use Rattle.std.proofs.Common.{◌≡◌, ◌⊎◌, inl, inr, Bool, true, false, cond, ◌||◌, IsTrue, refl, sym, ◌∙◌, subst, true≢false}
use Rattle.dyadic.specs.Rounding.{End, minus_infinity, Ext, below_all, above_all, end_of, ext_at_most}
use Rattle.interval_model.specs.Interval.{Interval, nothing, between, everything, is_above, is_below, interval_negated, within, inverse_sum, inverse_product, of_four, misses_nought, around_nought, nought_inside, up_from, up_to}
use Rattle.dyadic.specs.End.{Sign, below, nought, above, end_sign, end_product, end_quotient, rounded_down, rounded_up}
use Rattle.dyadic.proofs.Equal.{both_true, both_pass}
use Rattle.interval_model.proofs.Ends.{◌⊑◌, Good, end_trans, good_product}
use Rattle.interval_model.proofs.EndsProducts.{end_refl, below_top, least_of_four, greatest_of_four, four_below, four_above, scale_up, scale_down, scale_up_second, scale_down_second}
use Rattle.interval_model.proofs.EndsSums.{good_ext}
use Rattle.interval_model.proofs.InversesEnds.{inverse_end, good_inverse, good_quotient, quotient_low, quotient_high, IsAbove, IsBelow, above_rises, below_falls, above_is_high, below_is_low, inverse_high, inverse_low, inverse_falls_above, inverse_falls_below, good_least_quotient, good_greatest_quotient, quotients_below, quotients_above, inverse_between_low, inverse_between_high}
use Rattle.interval_model.proofs.Isotone.{IsProper, within_everything, sum_isotone, negated_isotone, rounded_within, rounded_down_rises, rounded_up_rises, below_lesser, above_greater}

pub inverse_sum_isotone : (n o n' o' : Interval) → IsTrue (within n n') → IsTrue (within o o') → IsTrue (within (inverse_sum n o) (inverse_sum n' o'))
inverse_sum_isotone n o n' o' a b = sum_isotone n (interval_negated o) n' (interval_negated o') a (negated_isotone o o' b)

-- ---- products

either : (x y : Bool) → IsTrue (x || y) → IsTrue x ⊎ IsTrue y
either true y h = inl refl
either false y h = inr h

or-left : (x y : Bool) → IsTrue x → x || y ≡ true
or-left true y h = refl
or-left false y h = absurd (true≢false (sym h))

or-right : (x y : Bool) → IsTrue y → x || y ≡ true
or-right true y h = refl
or-right false y h = h

neither : (x y : Bool) → x || y ≡ false → (x ≡ false) × (y ≡ false)
neither true y h = absurd (true≢false h)
neither false y h = (refl, h)

-- what is true is not false
clash : {X : Type 0} {x : Bool} → IsTrue x → x ≡ false → X
clash h e = absurd (true≢false (sym h ∙ e))

-- the order of quotients with divisors of one sign
module _ (e f m k : End) (i : Good e) (j : Good f) (gm : Good m) (gk : Good k) where
  -- m is above 0 and at most e; f is above 0 and at most k
  pub quotient_above_above : IsAbove m → ◌⊑◌ m e → IsAbove f → ◌⊑◌ f k → ◌⊑◌ (end_quotient m k) (end_quotient e f)
  quotient_above_above a b c d = quotient_low m k (end_quotient e f) gm gk
      (quotient_high e f (end_product m (inverse_end k)) i j
      (end_trans (end_product m (inverse_end k)) (end_product m (inverse_end f)) (end_product e (inverse_end f)) (good_product m (inverse_end f) gm (good_inverse f))
      (scale_up_second (inverse_end k) (inverse_end f) m (good_inverse k) (good_inverse f) (above_is_high m a) (inverse_falls_above f k j gk c d))
      (scale_up m e (inverse_end f) gm i (inverse_high f j c) b)))

  -- e is at most m, which is below 0; f is above 0 and at most k
  pub quotient_below_above : IsBelow m → ◌⊑◌ e m → IsAbove f → ◌⊑◌ f k → ◌⊑◌ (end_quotient e f) (end_quotient m k)
  quotient_below_above a b c d = quotient_high m k (end_quotient e f) gm gk
      (quotient_low e f (end_product m (inverse_end k)) i j
      (end_trans (end_product e (inverse_end f)) (end_product m (inverse_end f)) (end_product m (inverse_end k)) (good_product m (inverse_end f) gm (good_inverse f))
      (scale_up e m (inverse_end f) i gm (inverse_high f j c) b)
      (scale_down_second (inverse_end k) (inverse_end f) m (good_inverse k) (good_inverse f) (below_is_low m a) (inverse_falls_above f k j gk c d))))

  -- m is above 0 and at most e; f is below 0 and at least k
  pub quotient_above_below : IsAbove m → ◌⊑◌ m e → IsBelow f → ◌⊑◌ k f → ◌⊑◌ (end_quotient e f) (end_quotient m k)
  quotient_above_below a b c d = quotient_high m k (end_quotient e f) gm gk
      (quotient_low e f (end_product m (inverse_end k)) i j
      (end_trans (end_product e (inverse_end f)) (end_product m (inverse_end f)) (end_product m (inverse_end k)) (good_product m (inverse_end f) gm (good_inverse f))
      (scale_down m e (inverse_end f) gm i (inverse_low f j c) b)
      (scale_up_second (inverse_end f) (inverse_end k) m (good_inverse f) (good_inverse k) (above_is_high m a) (inverse_falls_below k f gk j c d))))

  -- e is at most m, which is below 0; f is below 0 and at least k
  pub quotient_below_below : IsBelow m → ◌⊑◌ e m → IsBelow f → ◌⊑◌ k f → ◌⊑◌ (end_quotient m k) (end_quotient e f)
  quotient_below_below a b c d = quotient_low m k (end_quotient e f) gm gk
      (quotient_high e f (end_product m (inverse_end k)) i j
      (end_trans (end_product m (inverse_end k)) (end_product m (inverse_end f)) (end_product e (inverse_end f)) (good_product m (inverse_end f) gm (good_inverse f))
      (scale_down_second (inverse_end f) (inverse_end k) m (good_inverse f) (good_inverse k) (below_is_low m a) (inverse_falls_below k f gk j c d))
      (scale_down e m (inverse_end f) i gm (inverse_low f j c) b)))

-- n from l to h within m to k, o from a to b within c to d, each with its ends in order
module _ (l h m k a b c d : Ext) (p : ◌⊑◌ (end_of m) (end_of l)) (q : ◌⊑◌ (end_of l) (end_of h)) (r : ◌⊑◌ (end_of h) (end_of k))
    (p' : ◌⊑◌ (end_of c) (end_of a)) (q' : ◌⊑◌ (end_of a) (end_of b)) (r' : ◌⊑◌ (end_of b) (end_of d)) where
  ml : ◌⊑◌ (end_of m) (end_of h)
  ml = end_trans (end_of m) (end_of l) (end_of h) (good_ext l) p q

  lk : ◌⊑◌ (end_of l) (end_of k)
  lk = end_trans (end_of l) (end_of h) (end_of k) (good_ext h) q r

  cb : ◌⊑◌ (end_of c) (end_of b)
  cb = end_trans (end_of c) (end_of a) (end_of b) (good_ext a) p' q'

  ad : ◌⊑◌ (end_of a) (end_of d)
  ad = end_trans (end_of a) (end_of b) (end_of d) (good_ext b) q' r'

  -- each quotient of the smaller lies between those of the greater
  quotient-between-low : IsBelow (end_of d) ⊎ IsAbove (end_of c) → (e f : Ext) → ◌⊑◌ (end_of m) (end_of e) → ◌⊑◌ (end_of e) (end_of k) → ◌⊑◌ (end_of c) (end_of f) → ◌⊑◌ (end_of f) (end_of d) →
      ◌⊑◌ (least_of_four end_quotient (end_of m) (end_of k) (end_of c) (end_of d)) (end_quotient (end_of e) (end_of f))
  quotient-between-low s e f t u v w = quotients_below (end_of m) (end_of k) (end_of c) (end_of d) (end_quotient (end_of e) (end_of f)) (good_ext m) (good_ext k) (good_ext c) (good_ext d)
      (quotient_high (end_of e) (end_of f) (least_of_four end_product (end_of m) (end_of k) (inverse_end (end_of d)) (inverse_end (end_of c))) (good_ext e) (good_ext f)
      (four_below (end_of m) (end_of k) (inverse_end (end_of d)) (inverse_end (end_of c)) (end_of e) (inverse_end (end_of f)) (good_ext m) (good_ext k) (good_inverse (end_of d)) (good_inverse (end_of c)) (good_ext e) (good_inverse (end_of f)) t u
      (inverse_between_low (end_of c) (end_of d) (end_of f) (good_ext c) (good_ext d) (good_ext f) s v w) (inverse_between_high (end_of c) (end_of d) (end_of f) (good_ext c) (good_ext d) (good_ext f) s v w)))

  quotient-between-high : IsBelow (end_of d) ⊎ IsAbove (end_of c) → (e f : Ext) → ◌⊑◌ (end_of m) (end_of e) → ◌⊑◌ (end_of e) (end_of k) → ◌⊑◌ (end_of c) (end_of f) → ◌⊑◌ (end_of f) (end_of d) →
      ◌⊑◌ (end_quotient (end_of e) (end_of f)) (greatest_of_four end_quotient (end_of m) (end_of k) (end_of c) (end_of d))
  quotient-between-high s e f t u v w = quotients_above (end_of m) (end_of k) (end_of c) (end_of d) (end_quotient (end_of e) (end_of f)) (good_ext m) (good_ext k) (good_ext c) (good_ext d)
      (quotient_low (end_of e) (end_of f) (greatest_of_four end_product (end_of m) (end_of k) (inverse_end (end_of d)) (inverse_end (end_of c))) (good_ext e) (good_ext f)
      (four_above (end_of m) (end_of k) (inverse_end (end_of d)) (inverse_end (end_of c)) (end_of e) (inverse_end (end_of f)) (good_ext m) (good_ext k) (good_inverse (end_of d)) (good_inverse (end_of c)) (good_ext e) (good_inverse (end_of f)) t u
      (inverse_between_low (end_of c) (end_of d) (end_of f) (good_ext c) (good_ext d) (good_ext f) s v w) (inverse_between_high (end_of c) (end_of d) (end_of f) (good_ext c) (good_ext d) (good_ext f) s v w)))

  -- what is at most each of the four quotients is at most their least, and what is at least each at least their greatest
  under-four : (g : End) → ((e f : Ext) → ◌⊑◌ (end_of l) (end_of e) → ◌⊑◌ (end_of e) (end_of h) → ◌⊑◌ (end_of a) (end_of f) → ◌⊑◌ (end_of f) (end_of b) → ◌⊑◌ g (end_quotient (end_of e) (end_of f))) →
      ◌⊑◌ g (least_of_four end_quotient (end_of l) (end_of h) (end_of a) (end_of b))
  under-four g x =
      let la = x l a (end_refl (end_of l)) q (end_refl (end_of a)) q' in let lb = x l b (end_refl (end_of l)) q q' (end_refl (end_of b)) in
      let ha = x h a q (end_refl (end_of h)) (end_refl (end_of a)) q' in let hb = x h b q (end_refl (end_of h)) q' (end_refl (end_of b)) in
      below_lesser _ _ g (below_lesser (end_quotient (end_of l) (end_of a)) (end_quotient (end_of l) (end_of b)) g la lb) (below_lesser (end_quotient (end_of h) (end_of a)) (end_quotient (end_of h) (end_of b)) g ha hb)

  over-four : (g : End) → ((e f : Ext) → ◌⊑◌ (end_of l) (end_of e) → ◌⊑◌ (end_of e) (end_of h) → ◌⊑◌ (end_of a) (end_of f) → ◌⊑◌ (end_of f) (end_of b) → ◌⊑◌ (end_quotient (end_of e) (end_of f)) g) →
      ◌⊑◌ (greatest_of_four end_quotient (end_of l) (end_of h) (end_of a) (end_of b)) g
  over-four g x =
      let la = x l a (end_refl (end_of l)) q (end_refl (end_of a)) q' in let lb = x l b (end_refl (end_of l)) q q' (end_refl (end_of b)) in
      let ha = x h a q (end_refl (end_of h)) (end_refl (end_of a)) q' in let hb = x h b q (end_refl (end_of h)) q' (end_refl (end_of b)) in
      above_greater _ _ g (above_greater (end_quotient (end_of l) (end_of a)) (end_quotient (end_of l) (end_of b)) g la lb) (above_greater (end_quotient (end_of h) (end_of a)) (end_quotient (end_of h) (end_of b)) g ha hb)

  abbrev quotients : Interval
  quotients = of_four end_quotient (between l h) (between a b)

  least-good : Good (least_of_four end_quotient (end_of l) (end_of h) (end_of a) (end_of b))
  least-good = good_least_quotient (end_of l) (end_of h) (end_of a) (end_of b) minus_infinity (good_ext l) (good_ext h) (good_ext a) (good_ext b)

  greatest-good : Good (greatest_of_four end_quotient (end_of l) (end_of h) (end_of a) (end_of b))
  greatest-good = good_greatest_quotient (end_of l) (end_of h) (end_of a) (end_of b) minus_infinity (good_ext l) (good_ext h) (good_ext a) (good_ext b)

  into-e : (e : Ext) → ◌⊑◌ (end_of l) (end_of e) → ◌⊑◌ (end_of m) (end_of e)
  into-e e t = end_trans (end_of m) (end_of l) (end_of e) (good_ext l) p t

  out-e : (e : Ext) → ◌⊑◌ (end_of e) (end_of h) → ◌⊑◌ (end_of e) (end_of k)
  out-e e t = end_trans (end_of e) (end_of h) (end_of k) (good_ext h) t r

  into-f : (f : Ext) → ◌⊑◌ (end_of a) (end_of f) → ◌⊑◌ (end_of c) (end_of f)
  into-f f t = end_trans (end_of c) (end_of a) (end_of f) (good_ext a) p' t

  out-f : (f : Ext) → ◌⊑◌ (end_of f) (end_of b) → ◌⊑◌ (end_of f) (end_of d)
  out-f f t = end_trans (end_of f) (end_of b) (end_of d) (good_ext b) t r'

  quotients-within : IsBelow (end_of d) ⊎ IsAbove (end_of c) → IsTrue (within quotients (of_four end_quotient (between m k) (between c d)))
  quotients-within s = rounded_within (least_of_four end_quotient (end_of l) (end_of h) (end_of a) (end_of b)) (greatest_of_four end_quotient (end_of l) (end_of h) (end_of a) (end_of b))
      (least_of_four end_quotient (end_of m) (end_of k) (end_of c) (end_of d)) (greatest_of_four end_quotient (end_of m) (end_of k) (end_of c) (end_of d)) least-good greatest-good
      (good_least_quotient (end_of m) (end_of k) (end_of c) (end_of d) minus_infinity (good_ext m) (good_ext k) (good_ext c) (good_ext d))
      (good_greatest_quotient (end_of m) (end_of k) (end_of c) (end_of d) minus_infinity (good_ext m) (good_ext k) (good_ext c) (good_ext d))
      (under-four (least_of_four end_quotient (end_of m) (end_of k) (end_of c) (end_of d)) (λ e f t u v w. quotient-between-low s e f (into-e e t) (out-e e u) (into-f f v) (out-f f w)))
      (over-four (greatest_of_four end_quotient (end_of m) (end_of k) (end_of c) (end_of d)) (λ e f t u v w. quotient-between-high s e f (into-e e t) (out-e e u) (into-f f v) (out-f f w)))

  -- a set of quotients within what begins or ends at one
  quotients-up : (g : End) → Good g → ((e f : Ext) → ◌⊑◌ (end_of l) (end_of e) → ◌⊑◌ (end_of e) (end_of h) → ◌⊑◌ (end_of a) (end_of f) → ◌⊑◌ (end_of f) (end_of b) → ◌⊑◌ g (end_quotient (end_of e) (end_of f))) →
      IsTrue (within quotients (between (rounded_down g) above_all))
  quotients-up g i x = both_pass (ext_at_most (rounded_down g) (rounded_down (least_of_four end_quotient (end_of l) (end_of h) (end_of a) (end_of b)))) (ext_at_most (rounded_up (greatest_of_four end_quotient (end_of l) (end_of h) (end_of a) (end_of b))) above_all)
      (rounded_down_rises g (least_of_four end_quotient (end_of l) (end_of h) (end_of a) (end_of b)) i least-good (under-four g x))
      (below_top (end_of (rounded_up (greatest_of_four end_quotient (end_of l) (end_of h) (end_of a) (end_of b)))))

  quotients-to : (g : End) → Good g → ((e f : Ext) → ◌⊑◌ (end_of l) (end_of e) → ◌⊑◌ (end_of e) (end_of h) → ◌⊑◌ (end_of a) (end_of f) → ◌⊑◌ (end_of f) (end_of b) → ◌⊑◌ (end_quotient (end_of e) (end_of f)) g) →
      IsTrue (within quotients (between below_all (rounded_up g)))
  quotients-to g i x = rounded_up_rises (greatest_of_four end_quotient (end_of l) (end_of h) (end_of a) (end_of b)) g greatest-good i (over-four g x)

  up-within : (e f e' f' : Ext) → ◌⊑◌ (end_quotient (end_of e') (end_of f')) (end_quotient (end_of e) (end_of f)) → IsTrue (within (up_from (end_of e) (end_of f)) (up_from (end_of e') (end_of f')))
  up-within e f e' f' x = both_pass (ext_at_most (rounded_down (end_quotient (end_of e') (end_of f'))) (rounded_down (end_quotient (end_of e) (end_of f)))) true
      (rounded_down_rises (end_quotient (end_of e') (end_of f')) (end_quotient (end_of e) (end_of f)) (good_quotient (end_of e') (end_of f') (good_ext e') (good_ext f')) (good_quotient (end_of e) (end_of f) (good_ext e) (good_ext f)) x) refl

  to-within : (e f e' f' : Ext) → ◌⊑◌ (end_quotient (end_of e) (end_of f)) (end_quotient (end_of e') (end_of f')) → IsTrue (within (up_to (end_of e) (end_of f)) (up_to (end_of e') (end_of f')))
  to-within e f e' f' x = rounded_up_rises (end_quotient (end_of e) (end_of f)) (end_quotient (end_of e') (end_of f')) (good_quotient (end_of e) (end_of f) (good_ext e) (good_ext f)) (good_quotient (end_of e') (end_of f') (good_ext e') (good_ext f')) x

  at-above : (e : Ext) {t : Sign} → end_sign (end_of e) ≡ t → IsAbove (end_of e) → IsTrue (is_above t)
  at-above e x y = subst (λ (w : Sign). IsTrue (is_above w)) x y

  at-below : (e : Ext) {t : Sign} → end_sign (end_of e) ≡ t → IsBelow (end_of e) → IsTrue (is_below t)
  at-below e x y = subst (λ (w : Sign). IsTrue (is_below w)) x y

  from-above : (e : Ext) {t : Sign} → end_sign (end_of e) ≡ t → IsTrue (is_above t) → IsAbove (end_of e)
  from-above e x y = subst (λ (w : Sign). IsTrue (is_above w)) (sym x) y

  from-below : (e : Ext) {t : Sign} → end_sign (end_of e) ≡ t → IsTrue (is_below t) → IsBelow (end_of e)
  from-below e x y = subst (λ (w : Sign). IsTrue (is_below w)) (sym x) y

  no-below-a : end_sign (end_of c) ≡ nought → IsBelow (end_of a) → ⊥
  no-below-a x y = true≢false (sym (at-below c x (below_falls (end_of c) (end_of a) (good_ext c) (good_ext a) p' y)))

  no-below-b : end_sign (end_of c) ≡ nought → IsBelow (end_of b) → ⊥
  no-below-b x y = no-below-a x (below_falls (end_of a) (end_of b) (good_ext a) (good_ext b) q' y)

  no-above-b : end_sign (end_of d) ≡ nought → IsAbove (end_of b) → ⊥
  no-above-b x y = true≢false (sym (at-above d x (above_rises (end_of b) (end_of d) (good_ext b) (good_ext d) r' y)))

  no-above-a : end_sign (end_of d) ≡ nought → IsAbove (end_of a) → ⊥
  no-above-a x y = no-above-b x (above_rises (end_of a) (end_of b) (good_ext a) (good_ext b) q' y)

  f-above : (f : Ext) → ◌⊑◌ (end_of a) (end_of f) → IsAbove (end_of a) → IsAbove (end_of f)
  f-above f v y = above_rises (end_of a) (end_of f) (good_ext a) (good_ext f) v y

  f-below : (f : Ext) → ◌⊑◌ (end_of f) (end_of b) → IsBelow (end_of b) → IsBelow (end_of f)
  f-below f v y = below_falls (end_of f) (end_of b) (good_ext f) (good_ext b) v y

  l-above : IsAbove (end_of m) → IsAbove (end_of l)
  l-above y = above_rises (end_of m) (end_of l) (good_ext m) (good_ext l) p y

  h-below : IsBelow (end_of k) → IsBelow (end_of h)
  h-below y = below_falls (end_of h) (end_of k) (good_ext h) (good_ext k) r y

  -- where n lies above 0 or below
  abbrev one-side : Type 0
  one-side = IsBelow (end_of k) ⊎ IsAbove (end_of m)

  -- an interval that is above 0 is not below
  not-both : IsBelow (end_of h) → IsAbove (end_of l) → ⊥
  not-both x y = true≢false (sym (signs (end_sign (end_of h)) x (above_rises (end_of l) (end_of h) (good_ext l) (good_ext h) q y)))
    where
      signs : (s : Sign) → IsTrue (is_below s) → IsTrue (is_above s) → IsTrue false
      signs below u v = v
      signs nought u v = v
      signs above u v = u

  abbrev smaller : Bool → Bool → Bool → Interval
  smaller t u hi = cond t quotients (cond u (around_nought (end_sign (end_of a)) (end_sign (end_of b)) hi (end_of l) (end_of h) (end_of a) (end_of b)) everything)

  -- a to b within 0 to d
  inside-right-above : IsAbove (end_of m) → end_sign (end_of c) ≡ nought → (s t : Sign) (hi : Bool) → end_sign (end_of a) ≡ s → end_sign (end_of b) ≡ t → is_above (end_sign (end_of l)) ≡ hi → is_above s ≡ false →
      IsTrue (within (around_nought s t hi (end_of l) (end_of h) (end_of a) (end_of b)) (up_from (end_of m) (end_of d)))
  inside-right-above x z nought nought hi e f g w = refl
  inside-right-above x z nought above true e f g w = up-within l b m d (quotient_above_above (end_of l) (end_of b) (end_of m) (end_of d) (good_ext l) (good_ext b) (good_ext m) (good_ext d) x p (from-above b f refl) r')
  inside-right-above x z nought above false e f g w = clash (l-above x) g
  inside-right-above x z nought below hi e f g w = absurd (no-below-b z (from-below b f refl))
  inside-right-above x z below t hi e f g w = absurd (no-below-a z (from-below a e refl))
  inside-right-above x z above t hi e f g w = absurd (true≢false w)

  inside-right-below : IsBelow (end_of k) → end_sign (end_of c) ≡ nought → (s t : Sign) (hi : Bool) → end_sign (end_of a) ≡ s → end_sign (end_of b) ≡ t → is_above (end_sign (end_of l)) ≡ hi → is_above s ≡ false →
      IsTrue (within (around_nought s t hi (end_of l) (end_of h) (end_of a) (end_of b)) (up_to (end_of k) (end_of d)))
  inside-right-below x z nought nought hi e f g w = refl
  inside-right-below x z nought above true e f g w = absurd (not-both (h-below x) g)
  inside-right-below x z nought above false e f g w = to-within h b k d (quotient_below_above (end_of h) (end_of b) (end_of k) (end_of d) (good_ext h) (good_ext b) (good_ext k) (good_ext d) x r (from-above b f refl) r')
  inside-right-below x z nought below hi e f g w = absurd (no-below-b z (from-below b f refl))
  inside-right-below x z below t hi e f g w = absurd (no-below-a z (from-below a e refl))
  inside-right-below x z above t hi e f g w = absurd (true≢false w)

  -- a to b within c to 0
  inside-left-above : IsAbove (end_of m) → end_sign (end_of d) ≡ nought → (s t : Sign) (hi : Bool) → end_sign (end_of a) ≡ s → end_sign (end_of b) ≡ t → is_above (end_sign (end_of l)) ≡ hi → is_below t ≡ false →
      IsTrue (within (around_nought s t hi (end_of l) (end_of h) (end_of a) (end_of b)) (up_to (end_of m) (end_of c)))
  inside-left-above x z nought nought hi e f g w = refl
  inside-left-above x z nought above hi e f g w = absurd (no-above-b z (from-above b f refl))
  inside-left-above x z s below hi e f g w = absurd (true≢false w)
  inside-left-above x z below nought true e f g w = to-within l a m c (quotient_above_below (end_of l) (end_of a) (end_of m) (end_of c) (good_ext l) (good_ext a) (good_ext m) (good_ext c) x p (from-below a e refl) p')
  inside-left-above x z below nought false e f g w = clash (l-above x) g
  inside-left-above x z below above hi e f g w = absurd (no-above-b z (from-above b f refl))
  inside-left-above x z above t hi e f g w = absurd (no-above-a z (from-above a e refl))

  inside-left-below : IsBelow (end_of k) → end_sign (end_of d) ≡ nought → (s t : Sign) (hi : Bool) → end_sign (end_of a) ≡ s → end_sign (end_of b) ≡ t → is_above (end_sign (end_of l)) ≡ hi → is_below t ≡ false →
      IsTrue (within (around_nought s t hi (end_of l) (end_of h) (end_of a) (end_of b)) (up_from (end_of k) (end_of c)))
  inside-left-below x z nought nought hi e f g w = refl
  inside-left-below x z nought above hi e f g w = absurd (no-above-b z (from-above b f refl))
  inside-left-below x z s below hi e f g w = absurd (true≢false w)
  inside-left-below x z below nought true e f g w = absurd (not-both (h-below x) g)
  inside-left-below x z below nought false e f g w = up-within h a k c (quotient_below_below (end_of h) (end_of a) (end_of k) (end_of c) (good_ext h) (good_ext a) (good_ext k) (good_ext c) x r (from-below a e refl) p')
  inside-left-below x z below above hi e f g w = absurd (no-above-b z (from-above b f refl))
  inside-left-below x z above t hi e f g w = absurd (no-above-a z (from-above a e refl))

  inside-zero : end_sign (end_of c) ≡ nought → end_sign (end_of d) ≡ nought → (s t : Sign) (hi : Bool) → end_sign (end_of a) ≡ s → end_sign (end_of b) ≡ t → (i : Interval) →
      IsTrue (within (around_nought s t hi (end_of l) (end_of h) (end_of a) (end_of b)) i)
  inside-zero x z nought nought hi e f i = refl
  inside-zero x z nought above hi e f i = absurd (no-above-b z (from-above b f refl))
  inside-zero x z nought below hi e f i = absurd (no-below-b x (from-below b f refl))
  inside-zero x z below t hi e f i = absurd (no-below-a x (from-below a e refl))
  inside-zero x z above t hi e f i = absurd (no-above-a z (from-above a e refl))

  o-above : end_sign (end_of c) ≡ nought → misses_nought (between a b) ≡ true → IsAbove (end_of a)
  o-above x e = elim (either (is_below (end_sign (end_of b))) (is_above (end_sign (end_of a))) e) [ inl y ↦ absurd (no-below-b x y) | inr y ↦ y ]

  o-below : end_sign (end_of d) ≡ nought → misses_nought (between a b) ≡ true → IsBelow (end_of b)
  o-below x e = elim (either (is_below (end_sign (end_of b))) (is_above (end_sign (end_of a))) e) [ inl y ↦ y | inr y ↦ absurd (no-above-a x y) ]

  abbrev hi-l : Bool
  hi-l = is_above (end_sign (end_of l))

  around-within : (s t : Sign) (hi : Bool) → end_sign (end_of c) ≡ s → end_sign (end_of d) ≡ t → is_above (end_sign (end_of m)) ≡ hi → one-side → (u : Bool) → misses_nought (between a b) ≡ u →
      IsTrue (within (smaller u true hi-l) (around_nought s t hi (end_of m) (end_of k) (end_of c) (end_of d)))
  around-within nought nought hi e f g y true w = absurd (no-above-a f (o-above e w))
  around-within nought nought hi e f g y false w = inside-zero e f (end_sign (end_of a)) (end_sign (end_of b)) hi-l refl refl nothing
  around-within nought above true e f g y true w = quotients-up (end_quotient (end_of m) (end_of d)) (good_quotient (end_of m) (end_of d) (good_ext m) (good_ext d))
      (λ e' f' t' u' v' w'. quotient_above_above (end_of e') (end_of f') (end_of m) (end_of d) (good_ext e') (good_ext f') (good_ext m) (good_ext d) g (into-e e' t') (f-above f' v' (o-above e w)) (out-f f' w'))
  around-within nought above true e f g y false w = inside-right-above g e (end_sign (end_of a)) (end_sign (end_of b)) hi-l refl refl refl (neither (is_below (end_sign (end_of b))) (is_above (end_sign (end_of a))) w).1
  around-within nought above false e f g (inr y) u w = clash y g
  around-within nought above false e f g (inl y) true w = quotients-to (end_quotient (end_of k) (end_of d)) (good_quotient (end_of k) (end_of d) (good_ext k) (good_ext d))
      (λ e' f' t' u' v' w'. quotient_below_above (end_of e') (end_of f') (end_of k) (end_of d) (good_ext e') (good_ext f') (good_ext k) (good_ext d) y (out-e e' u') (f-above f' v' (o-above e w)) (out-f f' w'))
  around-within nought above false e f g (inl y) false w = inside-right-below y e (end_sign (end_of a)) (end_sign (end_of b)) hi-l refl refl refl (neither (is_below (end_sign (end_of b))) (is_above (end_sign (end_of a))) w).1
  around-within nought below hi e f g y u w = within_everything (smaller u true hi-l)
  around-within below nought true e f g y true w = quotients-to (end_quotient (end_of m) (end_of c)) (good_quotient (end_of m) (end_of c) (good_ext m) (good_ext c))
      (λ e' f' t' u' v' w'. quotient_above_below (end_of e') (end_of f') (end_of m) (end_of c) (good_ext e') (good_ext f') (good_ext m) (good_ext c) g (into-e e' t') (f-below f' w' (o-below f w)) (into-f f' v'))
  around-within below nought true e f g y false w = inside-left-above g f (end_sign (end_of a)) (end_sign (end_of b)) hi-l refl refl refl (neither (is_below (end_sign (end_of b))) (is_above (end_sign (end_of a))) w).0
  around-within below nought false e f g (inr y) u w = clash y g
  around-within below nought false e f g (inl y) true w = quotients-up (end_quotient (end_of k) (end_of c)) (good_quotient (end_of k) (end_of c) (good_ext k) (good_ext c))
      (λ e' f' t' u' v' w'. quotient_below_below (end_of e') (end_of f') (end_of k) (end_of c) (good_ext e') (good_ext f') (good_ext k) (good_ext c) y (out-e e' u') (f-below f' w' (o-below f w)) (into-f f' v'))
  around-within below nought false e f g (inl y) false w = inside-left-below y f (end_sign (end_of a)) (end_sign (end_of b)) hi-l refl refl refl (neither (is_below (end_sign (end_of b))) (is_above (end_sign (end_of a))) w).0
  around-within below below hi e f g y u w = within_everything (smaller u true hi-l)
  around-within below above hi e f g y u w = within_everything (smaller u true hi-l)
  around-within above t hi e f g y u w = within_everything (smaller u true hi-l)

  -- the smaller misses 0 where the greater does
  o-misses : misses_nought (between c d) ≡ true → misses_nought (between a b) ≡ true
  o-misses e = elim (either (is_below (end_sign (end_of d))) (is_above (end_sign (end_of c))) e) [
    | inl y ↦ or-left (is_below (end_sign (end_of b))) (is_above (end_sign (end_of a))) (below_falls (end_of b) (end_of d) (good_ext b) (good_ext d) r' y)
    | inr y ↦ or-right (is_below (end_sign (end_of b))) (is_above (end_sign (end_of a))) (above_rises (end_of c) (end_of a) (good_ext c) (good_ext a) p' y)
  ]

  n-misses : misses_nought (between m k) ≡ true → misses_nought (between l h) ≡ true
  n-misses e = elim (either (is_below (end_sign (end_of k))) (is_above (end_sign (end_of m))) e) [
    | inl y ↦ or-left (is_below (end_sign (end_of h))) (is_above (end_sign (end_of l))) (h-below y)
    | inr y ↦ or-right (is_below (end_sign (end_of h))) (is_above (end_sign (end_of l))) (l-above y)
  ]

  product-tests : (t u t' u' : Bool) → misses_nought (between a b) ≡ t → misses_nought (between l h) ≡ u → misses_nought (between c d) ≡ t' → misses_nought (between m k) ≡ u' →
      IsTrue (within (smaller t u hi-l) (cond t' (of_four end_quotient (between m k) (between c d)) (cond u' (nought_inside (between m k) c d) everything)))
  product-tests true u true u' e f e' f' = quotients-within (either (is_below (end_sign (end_of d))) (is_above (end_sign (end_of c))) e')
  product-tests false u true u' e f e' f' = clash (o-misses e') e
  product-tests t u false false e f e' f' = within_everything (smaller t u hi-l)
  product-tests t true false true e f e' f' = around-within (end_sign (end_of c)) (end_sign (end_of d)) (is_above (end_sign (end_of m))) refl refl refl (either (is_below (end_sign (end_of k))) (is_above (end_sign (end_of m))) f') t e
  product-tests t false false true e f e' f' = clash (n-misses f') f

pub inverse_product_isotone : (n o n' o' : Interval) → IsProper n → IsProper o → IsTrue (within n n') → IsTrue (within o o') → IsTrue (within (inverse_product n o) (inverse_product n' o'))
inverse_product_isotone nothing o n' o' p p' x y = refl
inverse_product_isotone (between l h) nothing n' o' p p' x y = refl
inverse_product_isotone (between l h) (between a b) nothing o' p p' x y = absurd (true≢false (sym x))
inverse_product_isotone (between l h) (between a b) (between m k) nothing p p' x y = absurd (true≢false (sym y))
inverse_product_isotone (between l h) (between a b) (between m k) (between c d) p p' x y =
    let q = both_true (ext_at_most m l) (ext_at_most h k) x in let r = both_true (ext_at_most c a) (ext_at_most b d) y in
    product-tests l h m k a b c d q.0 p.0 q.1 r.0 p'.0 r.1 (misses_nought (between a b)) (misses_nought (between l h)) (misses_nought (between c d)) (misses_nought (between m k)) refl refl refl refl
