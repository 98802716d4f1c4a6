-- The ends that the code divides give the least and the greatest quotients.
use Rattle.std.proofs.Common.{◌≡◌, ◌⊎◌, inl, inr, ℕ, suc, zero, ◌*◌, IsTrue, Bool, true, false, cond, ◌||◌, refl, sym, ◌∙◌, ap, subst, arith, true≢false, ℤ, pos, negsuc, ◌*ℤ◌, neg_ℤ}
use Rattle.ival.specs.declared.side.Side.{Side}
use Rattle.ival.specs.declared.side.Side.TheVariants.{Above, Below, Across}
use Rattle.dyadic.specs.Fraction.{Fraction, IsFraction, product_of}
use Rattle.dyadic.specs.Rounding.{Ext, below_all, finite, above_all, End, at, end_of, end_at_most, ext_at_most}
use Rattle.interval_model.specs.Interval.{Interval, between, is_above, is_below, of_four, misses_nought, IsProper, nought_inside, everything}
use Rattle.dyadic.specs.End.{Sign, nought, sign_of, end_sign, end_product, end_quotient, rounded_down, rounded_up}
use Rattle.dyadic.specs.Calls.{IsDivisor}
use Rattle.dyadic.proofs.Ring.{atom, natural, minus, times, same}
use Rattle.dyadic.proofs.Equal.{◌≈◌, ≈_sym, both_true}
use Rattle.interval_model.proofs.Ends.{◌⊑◌, Good, value, end_trans, good_product, product_is_good}
use Rattle.interval_model.proofs.EndsProducts.{end_refl, least_of_four, greatest_of_four, good_least, good_greatest, four_below, four_above}
use Rattle.interval_model.proofs.EndsSums.{good_ext}
use Rattle.interval_model.proofs.InversesEnds.{inverse_of, one_over, inverse_end, good_inverse, good_quotient, end_quotient_is, quotient_low, quotient_high, above_rises, below_falls, inverse_high, inverse_low, inverse_falls_above, inverse_falls_below, good_least_quotient, good_greatest_quotient, quotients_below, quotients_above}
use Rattle.interval_model.proofs.Inverses.{inverse_product_holds}
use Rattle.interval_model.proofs.Holds.{Holds, same_holds}
use Rattle.interval_model.proofs.Isotone.{member_of, proper_from, below_lesser, above_greater}
use Rattle.ival.specs.Sides.{LiesOn, MissesOn, first_of_least, second_of_least, first_of_greatest, second_of_greatest}
use Rattle.ival.specs.Corners.{least_quotient, greatest_quotient}
use Rattle.ival.proofs.Corners.{IsAlike, least_corner, greatest_corner, least_at, greatest_at}
use Rattle.ival.proofs.Rounded.{down_alike, up_alike}

-- ---- divisors

at-divisor : (e : Ext) (s : Sign) → end_sign (end_of e) ≡ s → (s ≡ nought → ⊥) → IsDivisor e
at-divisor below_all s h n = tt
at-divisor (finite d) s h n = λ z. n (sym h ∙ ap sign_of z)
at-divisor above_all s h n = tt

above-nought : (s : Sign) → IsTrue (is_above s) → s ≡ nought → ⊥
above-nought s h e = true≢false (sym (subst (λ t. IsTrue (is_above t)) e h))

below-nought : (s : Sign) → IsTrue (is_below s) → s ≡ nought → ⊥
below-nought s h e = true≢false (sym (subst (λ t. IsTrue (is_below t)) e h))

pub above_divisor : (e : Ext) → IsTrue (is_above (end_sign (end_of e))) → IsDivisor e
above_divisor e h = at-divisor e (end_sign (end_of e)) refl (above-nought (end_sign (end_of e)) h)

pub below_divisor : (e : Ext) → IsTrue (is_below (end_sign (end_of e))) → IsDivisor e
below_divisor e h = at-divisor e (end_sign (end_of e)) refl (below-nought (end_sign (end_of e)) h)

-- both ends of what misses 0 are divisors
pub divisors : (t : Side) (a b : Ext) → IsTrue (ext_at_most a b) → MissesOn t a b → IsDivisor a × IsDivisor b
divisors Above a b o m = (above_divisor a m, above_divisor b (above_rises (end_of a) (end_of b) (good_ext a) (good_ext b) o m))
divisors Below a b o m = (below_divisor a (below_falls (end_of a) (end_of b) (good_ext a) (good_ext b) o m), below_divisor b m)
divisors Across a b o m = absurd m

pub least_divisor : (s t : Side) (a b : Ext) → IsTrue (ext_at_most a b) → MissesOn t a b → IsDivisor (second_of_least s t b a)
least_divisor Above t a b o m = (divisors t a b o m).1
least_divisor Below t a b o m = (divisors t a b o m).0
least_divisor Across Above a b o m = (divisors Above a b o m).0
least_divisor Across Below a b o m = (divisors Below a b o m).1
least_divisor Across Across a b o m = absurd m

pub greatest_divisor : (s t : Side) (a b : Ext) → IsTrue (ext_at_most a b) → MissesOn t a b → IsDivisor (second_of_greatest s t b a)
greatest_divisor Above t a b o m = (divisors t a b o m).0
greatest_divisor Below t a b o m = (divisors t a b o m).1
greatest_divisor Across Above a b o m = (divisors Above a b o m).0
greatest_divisor Across Below a b o m = (divisors Below a b o m).1
greatest_divisor Across Across a b o m = absurd m

-- ---- the least and the greatest

module _ (l h a b : Ext) (o : IsTrue (ext_at_most l h)) (o' : IsTrue (ext_at_most a b)) where
  gl : Good (end_of l)
  gl = good_ext l

  gh : Good (end_of h)
  gh = good_ext h

  ga : Good (end_of a)
  ga = good_ext a

  gb : Good (end_of b)
  gb = good_ext b

  abbrev ia : End
  ia = inverse_end (end_of a)

  abbrev ib : End
  ib = inverse_end (end_of b)

  g-ia : Good ia
  g-ia = good_inverse (end_of a)

  g-ib : Good ib
  g-ib = good_inverse (end_of b)

  inverse-order : (t : Side) → MissesOn t a b → ◌⊑◌ ib ia
  inverse-order Above m = inverse_falls_above (end_of a) (end_of b) ga gb m o'
  inverse-order Below m = inverse_falls_below (end_of a) (end_of b) ga gb m o'
  inverse-order Across m = absurd m

  lies : (t : Side) → MissesOn t a b → LiesOn t ib ia
  lies Above m = inverse_high (end_of b) gb (above_rises (end_of a) (end_of b) ga gb o' m)
  lies Below m = inverse_low (end_of a) ga (below_falls (end_of a) (end_of b) ga gb o' m)
  lies Across m = absurd m

  abbrev least-p : End
  least-p = least_of_four end_product (end_of l) (end_of h) ib ia

  abbrev greatest-p : End
  greatest-p = greatest_of_four end_product (end_of l) (end_of h) ib ia

  abbrev least-q : End
  least-q = least_of_four end_quotient (end_of l) (end_of h) (end_of a) (end_of b)

  abbrev greatest-q : End
  greatest-q = greatest_of_four end_quotient (end_of l) (end_of h) (end_of a) (end_of b)

  into : (t : Side) → MissesOn t a b → (e f : Ext) → ◌⊑◌ (end_of l) (end_of e) → ◌⊑◌ (end_of e) (end_of h) → ◌⊑◌ ib (inverse_end (end_of f)) → ◌⊑◌ (inverse_end (end_of f)) ia → ◌⊑◌ least-p (end_quotient (end_of e) (end_of f))
  into t m e f p q r s = quotient_high (end_of e) (end_of f) least-p (good_ext e) (good_ext f)
      (four_below (end_of l) (end_of h) ib ia (end_of e) (inverse_end (end_of f)) gl gh g-ib g-ia (good_ext e) (good_inverse (end_of f)) p q r s)

  out-of : (t : Side) → MissesOn t a b → (e f : Ext) → ◌⊑◌ (end_of l) (end_of e) → ◌⊑◌ (end_of e) (end_of h) → ◌⊑◌ ib (inverse_end (end_of f)) → ◌⊑◌ (inverse_end (end_of f)) ia → ◌⊑◌ (end_quotient (end_of e) (end_of f)) greatest-p
  out-of t m e f p q r s = quotient_low (end_of e) (end_of f) greatest-p (good_ext e) (good_ext f)
      (four_above (end_of l) (end_of h) ib ia (end_of e) (inverse_end (end_of f)) gl gh g-ib g-ia (good_ext e) (good_inverse (end_of f)) p q r s)

  least-alike : (t : Side) → MissesOn t a b → IsAlike least-p least-q
  least-alike t m =
      let i = inverse-order t m in let rl = end_refl (end_of l) in let rh = end_refl (end_of h) in let ra = end_refl ia in let rb = end_refl ib in (
        below_lesser _ _ least-p
            (below_lesser (end_quotient (end_of l) (end_of a)) (end_quotient (end_of l) (end_of b)) least-p (into t m l a rl o i ra) (into t m l b rl o rb i))
            (below_lesser (end_quotient (end_of h) (end_of a)) (end_quotient (end_of h) (end_of b)) least-p (into t m h a o rh i ra) (into t m h b o rh rb i)),
        quotients_below (end_of l) (end_of h) (end_of a) (end_of b) least-p gl gh ga gb (end_refl least-p),
      )

  greatest-alike : (t : Side) → MissesOn t a b → IsAlike greatest-p greatest-q
  greatest-alike t m =
      let i = inverse-order t m in let rl = end_refl (end_of l) in let rh = end_refl (end_of h) in let ra = end_refl ia in let rb = end_refl ib in (
        quotients_above (end_of l) (end_of h) (end_of a) (end_of b) greatest-p gl gh ga gb (end_refl greatest-p),
        above_greater _ _ greatest-p
            (above_greater (end_quotient (end_of l) (end_of a)) (end_quotient (end_of l) (end_of b)) greatest-p (out-of t m l a rl o i ra) (out-of t m l b rl o rb i))
            (above_greater (end_quotient (end_of h) (end_of a)) (end_quotient (end_of h) (end_of b)) greatest-p (out-of t m h a o rh i ra) (out-of t m h b o rh rb i)),
      )

  alike-trans : (e f g : End) → Good f → IsAlike e f → IsAlike f g → IsAlike e g
  alike-trans e f g i x y = (end_trans e f g i x.0 y.0, end_trans g f e i y.1 x.1)

  -- the quotient of the chosen ends is like the chosen product
  chosen : (e f : Ext) → IsAlike (end_quotient (end_of e) (end_of f)) (end_product (end_of e) (inverse_end (end_of f)))
  chosen e f = let k = end_quotient_is (end_of e) (end_of f) (good_ext e) (good_ext f) in (k.low, k.high)

  low-with : (t : Side) → MissesOn t a b → (e f : Ext) → IsAlike (end_product (end_of e) (inverse_end (end_of f))) least-p → rounded_down (end_quotient (end_of e) (end_of f)) ≡ least_quotient l h a b
  low-with t m e f x = down_alike (end_quotient (end_of e) (end_of f)) least-q (good_quotient (end_of e) (end_of f) (good_ext e) (good_ext f)) (good_least_quotient (end_of l) (end_of h) (end_of a) (end_of b) least-p gl gh ga gb)
      (alike-trans (end_quotient (end_of e) (end_of f)) least-p least-q (good_least (end_of l) (end_of h) ib ia gl gh g-ib g-ia)
      (alike-trans (end_quotient (end_of e) (end_of f)) (end_product (end_of e) (inverse_end (end_of f))) least-p (good_product (end_of e) (inverse_end (end_of f)) (good_ext e) (good_inverse (end_of f))) (chosen e f) x)
      (least-alike t m))

  high-with : (t : Side) → MissesOn t a b → (e f : Ext) → IsAlike (end_product (end_of e) (inverse_end (end_of f))) greatest-p → rounded_up (end_quotient (end_of e) (end_of f)) ≡ greatest_quotient l h a b
  high-with t m e f x = up_alike (end_quotient (end_of e) (end_of f)) greatest-q (good_quotient (end_of e) (end_of f) (good_ext e) (good_ext f)) (good_greatest_quotient (end_of l) (end_of h) (end_of a) (end_of b) greatest-p gl gh ga gb)
      (alike-trans (end_quotient (end_of e) (end_of f)) greatest-p greatest-q (good_greatest (end_of l) (end_of h) ib ia gl gh g-ib g-ia)
      (alike-trans (end_quotient (end_of e) (end_of f)) (end_product (end_of e) (inverse_end (end_of f))) greatest-p (good_product (end_of e) (inverse_end (end_of f)) (good_ext e) (good_inverse (end_of f))) (chosen e f) x)
      (greatest-alike t m))

  corner : (s t : Side) → LiesOn s (end_of l) (end_of h) → MissesOn t a b → IsAlike (least_corner s t (end_of l) (end_of h) ib ia) least-p
  corner s t x m = least_at (end_of l) (end_of h) ib ia gl gh g-ib g-ia o (inverse-order t m) s t x (lies t m)

  corner-high : (s t : Side) → LiesOn s (end_of l) (end_of h) → MissesOn t a b → IsAlike (greatest_corner s t (end_of l) (end_of h) ib ia) greatest-p
  corner-high s t x m = greatest_at (end_of l) (end_of h) ib ia gl gh g-ib g-ia o (inverse-order t m) s t x (lies t m)

  pub least_chosen : (s t : Side) → LiesOn s (end_of l) (end_of h) → MissesOn t a b →
      rounded_down (end_quotient (end_of (first_of_least s t l h)) (end_of (second_of_least s t b a))) ≡ least_quotient l h a b
  least_chosen Above Above x m = low-with Above m l b (corner Above Above x m)
  least_chosen Above Below x m = low-with Below m h b (corner Above Below x m)
  least_chosen Below Above x m = low-with Above m l a (corner Below Above x m)
  least_chosen Below Below x m = low-with Below m h a (corner Below Below x m)
  least_chosen Across Above x m = low-with Above m l a (corner Across Above x m)
  least_chosen Across Below x m = low-with Below m h b (corner Across Below x m)
  least_chosen s Across x m = absurd m

  pub greatest_chosen : (s t : Side) → LiesOn s (end_of l) (end_of h) → MissesOn t a b →
      rounded_up (end_quotient (end_of (first_of_greatest s t l h)) (end_of (second_of_greatest s t b a))) ≡ greatest_quotient l h a b
  greatest_chosen Above Above x m = high-with Above m h a (corner-high Above Above x m)
  greatest_chosen Above Below x m = high-with Below m l a (corner-high Above Below x m)
  greatest_chosen Below Above x m = high-with Above m h b (corner-high Below Above x m)
  greatest_chosen Below Below x m = high-with Below m l b (corner-high Below Below x m)
  greatest_chosen Across Above x m = high-with Above m h a (corner-high Across Above x m)
  greatest_chosen Across Below x m = high-with Below m l b (corner-high Across Below x m)
  greatest_chosen s Across x m = absurd m

-- ---- the quotients of a proper interval by one without 0 are proper

times-over-at : (a : ℤ) (b d n : ℕ) → ((a *ℤ pos d) *ℤ pos (suc n)) *ℤ pos b ≡ a *ℤ pos ((b * suc n) * d)
times-over-at a b d n = same (times (times (times (atom a) (natural d)) (natural (suc n))) (natural b)) (times (atom a) (natural ((b * suc n) * d))) (omega arith)

times-over-below : (a : ℤ) (b d n : ℕ) → ((a *ℤ neg_ℤ (pos d)) *ℤ negsuc n) *ℤ pos b ≡ a *ℤ pos ((b * suc n) * d)
times-over-below a b d n = same (times (times (times (atom a) (minus (natural d))) (minus (natural (suc n)))) (natural b)) (times (atom a) (natural ((b * suc n) * d))) (omega arith)

over-times-at : (v : Fraction) (z : ℤ) (d : ℕ) → IsTrue (is_above (sign_of z)) ⊎ IsTrue (is_below (sign_of z)) → product_of (product_of v (one_over z d)) (value z d) ≈ v
unfolding product_of
over-times-at v (pos zero) d (inl h) = absurd (true≢false (sym h))
over-times-at v (pos zero) d (inr h) = absurd (true≢false (sym h))
over-times-at v (pos (suc n)) d h = record { same = times-over-at v.num v.den d n }
over-times-at v (negsuc n) d h = record { same = times-over-below v.num v.den d n }

member-sign : (a b : Ext) (w : Fraction) → IsFraction w → IsTrue (misses_nought (between a b)) → ◌⊑◌ (end_of a) (at w) → ◌⊑◌ (at w) (end_of b) → IsTrue (is_above (sign_of w.num)) ⊎ IsTrue (is_below (sign_of w.num))
member-sign a b w f m x y = elim (either (is_below (end_sign (end_of b))) (is_above (end_sign (end_of a))) m) [
  | inl k ↦ inr (below_falls (at w) (end_of b) f (good_ext b) y k)
  | inr k ↦ inl (above_rises (end_of a) (at w) (good_ext a) f x k)
]
  where
    either : (t u : Bool) → IsTrue (t || u) → IsTrue t ⊎ IsTrue u
    either true u h = inl refl
    either false u h = inr h

cond-true : (t : Bool) (i j : Interval) (v : Fraction) → IsTrue t → Holds (cond t i j) v → Holds i v
cond-true true i j v h k = k
cond-true false i j v h k = absurd (true≢false (sym h))

pub quotients_proper : (l h a b : Ext) → IsProper (between l h) → IsProper (between a b) → IsTrue (misses_nought (between a b)) → IsProper (of_four end_quotient (between l h) (between a b))
quotients_proper l h a b p q m =
    let v = member_of l h p in let w = member_of a b q in
    let s = both_true (end_at_most (end_of a) (at w.member)) (end_at_most (at w.member) (end_of b)) w.inside in
    let x = product_of v.member (inverse_of w.member) in
    let good : IsFraction x = product_is_good v.member (inverse_of w.member) v.is_fraction (good_inverse (at w.member)) in
    let back = over-times-at v.member w.member.num w.member.den (member-sign a b w.member w.is_fraction m s.0 s.1) in
    let held = inverse_product_holds (between l h) (between a b) x w.member good w.is_fraction
    (same_holds (between l h) v.member (product_of x w.member) v.is_fraction (product_is_good x w.member good w.is_fraction) (≈_sym back) v.inside) w.inside in
    proper_from (of_four end_quotient (between l h) (between a b)) x good
    (cond-true (misses_nought (between a b)) (of_four end_quotient (between l h) (between a b)) (cond (misses_nought (between l h)) (nought_inside (between l h) a b) everything) x m held)
