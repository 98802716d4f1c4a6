-- The steps on fractions: when they fit, and what they give.
use Rattle.std.proofs.Common.{◌≡◌, ℕ, zero, suc, ◌*◌, ◌^◌, ◌<◌, ◌≤◌, arith, refl, sym, ap, ◌∙◌, subst, ⊎_elim, true, false, not, ℤ, pos, negsuc, neg_ℤ, ◌+ℤ◌, ◌*ℤ◌, nat_abs, mul-pos, zero-lt-suc}
use Rattle.std.proofs.Math.IntN.{pos-*ℤ-pos}
use Rattle.std.specs.Int.RustNames.{unsigned_abs, int_lt}
use Rattle.std.proofs.lemmas.Int.{ints, unsigned_abs-mul}
use Rattle.std.proofs.lemmas.Bool.{cases_lt, le-leb, lt-leb, and_from, and_left, and_right}
use mathlib.Core.Bool.{beq}
use Rattle.dyadic.specs.declared.frac.Frac.{Frac}
use Rattle.dyadic.specs.Fraction.{Fraction, sum_of, product_of, quotient_of, over}
use Rattle.dyadic.specs.Lowest.{fits, sum_fits, product_fits, quotient_fits}
use Rattle.dyadic.specs.SmallSteps.{IsSmall, IsSmallSum, IsSmallProduct, IsSmallQuotient}
use Rattle.dyadic.specs.Signed.{signed_of}
use Rattle.dyadic.specs.Views.{fraction_of_frac}
use Rattle.dyadic.proofs.SizePositive.{size_positive}
use Rattle.dyadic.proofs.FracSteps.{whole_size}
use Rattle.dyadic.proofs.Reduced.{sign_and_size, size_of_signed, not_below_zero}
use Rattle.dyadic.proofs.Bridge.{unlike_false, unlike_true}
use Rattle.dyadic.proofs.Ints.{*ℤ-neg}

fits_yes : (n : ℕ) (z : ℤ) → n ≡ unsigned_abs z → IsSmall z → fits n ≡ true
fits_yes n z e s = le-leb n (10 ^ 36) (omega (arith, e, s.size))

fits_no : (n : ℕ) (z : ℤ) → n ≡ unsigned_abs z → ¬ IsSmall z → fits n ≡ false
fits_no n z e other = lt-leb n (10 ^ 36) (⊎_elim (λ l. l) (λ (h : n ≤ 10 ^ 36). absurd (other (record { size = omega (arith, e, h) }))) (cases_lt (10 ^ 36) n))

below_zero : (k : ℕ) → 0 < k → int_lt (neg_ℤ (pos k)) (pos 0) ≡ true
below_zero zero h = absurd (omega arith)
below_zero (suc k) h = refl

module _ (a b : Frac) where
  left_is : unsigned_abs (a.n *ℤ pos (unsigned_abs b.d)) ≡ unsigned_abs (a.n *ℤ b.d)
  left_is = ap (λ z. unsigned_abs (a.n *ℤ z)) (whole_size b.d b.lowest.positive)

  right_is : unsigned_abs (b.n *ℤ pos (unsigned_abs a.d)) ≡ unsigned_abs (b.n *ℤ a.d)
  right_is = ap (λ z. unsigned_abs (b.n *ℤ z)) (whole_size a.d a.lowest.positive)

  total_is : a.n *ℤ pos (unsigned_abs b.d) +ℤ b.n *ℤ pos (unsigned_abs a.d) ≡ a.n *ℤ b.d +ℤ b.n *ℤ a.d
  total_is = ap (λ z. a.n *ℤ z +ℤ b.n *ℤ pos (unsigned_abs a.d)) (whole_size b.d b.lowest.positive) ∙ ap (λ z. a.n *ℤ b.d +ℤ b.n *ℤ z) (whole_size a.d a.lowest.positive)

  below_is : unsigned_abs a.d * unsigned_abs b.d ≡ unsigned_abs (a.d *ℤ b.d)
  below_is = sym (unsigned_abs-mul a.d b.d)

  -- sums
  pub sum_fits_yes : IsSmallSum a b → sum_fits (fraction_of_frac a) (fraction_of_frac b) ≡ true
  sum_fits_yes s = and_from _ _ (and_from _ _ (and_from _ _ (fits_yes _ (a.n *ℤ b.d) left_is s.left) (fits_yes _ (b.n *ℤ a.d) right_is s.right)) (fits_yes _ (a.n *ℤ b.d +ℤ b.n *ℤ a.d) (ap unsigned_abs total_is) s.total)) (fits_yes _ (a.d *ℤ b.d) below_is s.below)

  pub sum_fits_left : ¬ IsSmall (a.n *ℤ b.d) → sum_fits (fraction_of_frac a) (fraction_of_frac b) ≡ false
  sum_fits_left other = and_left _ _ (and_left _ _ (and_left _ _ (fits_no _ (a.n *ℤ b.d) left_is other)))

  pub sum_fits_right : ¬ IsSmall (b.n *ℤ a.d) → sum_fits (fraction_of_frac a) (fraction_of_frac b) ≡ false
  sum_fits_right other = and_left _ _ (and_left _ _ (and_right _ _ (fits_no _ (b.n *ℤ a.d) right_is other)))

  pub sum_fits_total : ¬ IsSmall (a.n *ℤ b.d +ℤ b.n *ℤ a.d) → sum_fits (fraction_of_frac a) (fraction_of_frac b) ≡ false
  sum_fits_total other = and_left _ _ (and_right _ _ (fits_no _ (a.n *ℤ b.d +ℤ b.n *ℤ a.d) (ap unsigned_abs total_is) other))

  pub sum_fits_below : ¬ IsSmall (a.d *ℤ b.d) → sum_fits (fraction_of_frac a) (fraction_of_frac b) ≡ false
  sum_fits_below other = and_right _ _ (fits_no _ (a.d *ℤ b.d) below_is other)

  pub sum_is : (x y : ℤ) → x ≡ a.n *ℤ b.d +ℤ b.n *ℤ a.d → y ≡ a.d *ℤ b.d → (let q : Fraction = record { num = x; den = unsigned_abs y } in q) ≡ sum_of (fraction_of_frac a) (fraction_of_frac b)
  unfolding sum_of
  sum_is x y e f = ap (λ z. record { num = z; den = unsigned_abs y }) (e ∙ sym total_is) ∙ ap (λ d. record { num = a.n *ℤ pos (unsigned_abs b.d) +ℤ b.n *ℤ pos (unsigned_abs a.d); den = d }) (ap unsigned_abs f ∙ sym below_is)

  -- products
  pub product_fits_yes : IsSmallProduct a b → product_fits (fraction_of_frac a) (fraction_of_frac b) ≡ true
  product_fits_yes s = and_from _ _ (fits_yes _ (a.n *ℤ b.n) refl s.above) (fits_yes _ (a.d *ℤ b.d) below_is s.below)

  pub product_fits_above : ¬ IsSmall (a.n *ℤ b.n) → product_fits (fraction_of_frac a) (fraction_of_frac b) ≡ false
  product_fits_above other = and_left _ _ (fits_no _ (a.n *ℤ b.n) refl other)

  pub product_fits_below : ¬ IsSmall (a.d *ℤ b.d) → product_fits (fraction_of_frac a) (fraction_of_frac b) ≡ false
  product_fits_below other = and_right _ _ (fits_no _ (a.d *ℤ b.d) below_is other)

  pub product_is : (x y : ℤ) → x ≡ a.n *ℤ b.n → y ≡ a.d *ℤ b.d → (let q : Fraction = record { num = x; den = unsigned_abs y } in q) ≡ product_of (fraction_of_frac a) (fraction_of_frac b)
  unfolding product_of
  product_is x y e f = ap (λ z. record { num = z; den = unsigned_abs y }) e ∙ ap (λ d. record { num = a.n *ℤ b.n; den = d }) (ap unsigned_abs f ∙ sym below_is)

  -- quotients
  divisor_is : unsigned_abs a.d * nat_abs b.n ≡ unsigned_abs (a.d *ℤ b.n)
  divisor_is = sym (unsigned_abs-mul a.d b.n)

  pub quotient_fits_yes : IsSmallQuotient a b → quotient_fits (fraction_of_frac a) (fraction_of_frac b) ≡ true
  quotient_fits_yes s = and_from _ _ (fits_yes _ (a.n *ℤ b.d) left_is s.above) (fits_yes _ (a.d *ℤ b.n) divisor_is s.below)

  pub quotient_fits_above : ¬ IsSmall (a.n *ℤ b.d) → quotient_fits (fraction_of_frac a) (fraction_of_frac b) ≡ false
  quotient_fits_above other = and_left _ _ (fits_no _ (a.n *ℤ b.d) left_is other)

  pub quotient_fits_below : ¬ IsSmall (a.d *ℤ b.n) → quotient_fits (fraction_of_frac a) (fraction_of_frac b) ≡ false
  quotient_fits_below other = and_right _ _ (fits_no _ (a.d *ℤ b.n) divisor_is other)

  pub divisor_positive : (b.n ≡ pos 0 → ⊥) → 0 < unsigned_abs (a.d *ℤ b.n)
  divisor_positive some = subst (λ n. 0 < n) divisor_is (mul-pos (size_positive a.d a.lowest.positive) (by b.n some))
    where
      by : (z : ℤ) → (z ≡ pos 0 → ⊥) → 0 < nat_abs z
      by (pos zero) h = absurd (h refl)
      by (pos (suc n)) h = omega (arith, ints)
      by (negsuc n) h = omega (arith, ints)

  quotient_by : (z : ℤ) → (z ≡ pos 0 → ⊥) → (x y : ℤ) → x ≡ a.n *ℤ b.d → y ≡ a.d *ℤ z →
      (let q : Fraction = record { num = signed_of (not (beq (int_lt x (pos 0)) (int_lt y (pos 0)))) (unsigned_abs x); den = unsigned_abs y } in q) ≡ over (fraction_of_frac a) z (unsigned_abs b.d)
  quotient_by (pos zero) some x y e f = absurd (some refl)
  quotient_by (pos (suc m)) some x y e f =
      let k = unsigned_abs a.d * suc m in
      let y_is : y ≡ pos k = f ∙ ap (λ z. z *ℤ pos (suc m)) (sym (whole_size a.d a.lowest.positive)) ∙ pos-*ℤ-pos (unsigned_abs a.d) (suc m) in
      let sign : not (beq (int_lt x (pos 0)) (int_lt y (pos 0))) ≡ int_lt x (pos 0) = ap (λ w. not (beq (int_lt x (pos 0)) (int_lt w (pos 0)))) y_is ∙ ap (λ t. not (beq (int_lt x (pos 0)) t)) (not_below_zero k) ∙ unlike_false (int_lt x (pos 0)) in
      let above : x ≡ a.n *ℤ pos (unsigned_abs b.d) = e ∙ ap (λ z. a.n *ℤ z) (sym (whole_size b.d b.lowest.positive)) in
      ap (λ t. record { num = signed_of t (unsigned_abs x); den = unsigned_abs y }) sign ∙ ap (λ z. record { num = z; den = unsigned_abs y }) (sign_and_size x ∙ above) ∙ ap (λ w. record { num = a.n *ℤ pos (unsigned_abs b.d); den = unsigned_abs w }) y_is
  quotient_by (negsuc m) some x y e f =
      let k = unsigned_abs a.d * suc m in
      let positive : 0 < k = mul-pos (size_positive a.d a.lowest.positive) (zero-lt-suc m) in
      let y_is : y ≡ neg_ℤ (pos k) = f ∙ ap (λ z. z *ℤ negsuc m) (sym (whole_size a.d a.lowest.positive)) ∙ *ℤ-neg (pos (unsigned_abs a.d)) (pos (suc m)) ∙ ap neg_ℤ (pos-*ℤ-pos (unsigned_abs a.d) (suc m)) in
      let sign : not (beq (int_lt x (pos 0)) (int_lt y (pos 0))) ≡ not (beq (int_lt x (pos 0)) true) = ap (λ w. not (beq (int_lt x (pos 0)) (int_lt w (pos 0)))) y_is ∙ ap (λ t. not (beq (int_lt x (pos 0)) t)) (below_zero k positive) in
      let above : x ≡ a.n *ℤ pos (unsigned_abs b.d) = e ∙ ap (λ z. a.n *ℤ z) (sym (whole_size b.d b.lowest.positive)) in
      ap (λ t. record { num = signed_of t (unsigned_abs x); den = unsigned_abs y }) sign
      ∙ ap (λ z. record { num = z; den = unsigned_abs y }) (unlike_true (int_lt x (pos 0)) (unsigned_abs x) ∙ ap neg_ℤ (sign_and_size x ∙ above))
      ∙ ap (λ w. record { num = neg_ℤ (a.n *ℤ pos (unsigned_abs b.d)); den = unsigned_abs w }) y_is
      ∙ ap (λ d. record { num = neg_ℤ (a.n *ℤ pos (unsigned_abs b.d)); den = d }) (size_of_signed true k)

  pub quotient_is : (x y : ℤ) (n d : ℕ) → (b.n ≡ pos 0 → ⊥) → x ≡ a.n *ℤ b.d → y ≡ a.d *ℤ b.n → n ≡ unsigned_abs x → d ≡ unsigned_abs y →
      (let q : Fraction = record { num = signed_of (not (beq (int_lt x (pos 0)) (int_lt y (pos 0)))) n; den = d } in q) ≡ quotient_of (fraction_of_frac a) (fraction_of_frac b)
  unfolding quotient_of
  quotient_is x y n d some e f g h =
      ap (λ m. record { num = signed_of (not (beq (int_lt x (pos 0)) (int_lt y (pos 0)))) m; den = d }) g
      ∙ ap (λ m. record { num = signed_of (not (beq (int_lt x (pos 0)) (int_lt y (pos 0)))) (unsigned_abs x); den = m }) h
      ∙ quotient_by b.n some x y e f
