-- Where no axis can be cut, each Real axis is small.
use Rattle.std.proofs.Common.{◌≡◌, inl, inr, ℕ, suc, ◌<◌, [], ◌∷◌, length, Bool, true, false, cond, not, ◌&&◌, IsTrue, Option, Some, None, refl, sym, ap, ◌∙◌, subst, arith, true≢false, eq-eqb}
use Rattle.std.specs.Prelude.{nat_eq}
use Rattle.dyadic.specs.Fraction.{Fraction, IsFraction, at_most, difference_of, negated}
use Rattle.dyadic.specs.Rounding.{exact, two_to_minus}
use Rattle.interval_model.specs.Space.{Domain, real_domain, bool_domain, Space, can_be_halved, side, better, widest_from, widest, is_undecided, test_axis}
use Rattle.dyadic.proofs.Equal.{both_true, both_pass, through, total}
use Rattle.interval_model.proofs.EndsProducts.{at_most_refl}
use Rattle.interval_model.proofs.EndsSums.{sum_is_good, negated_is_good}
use Rattle.cover_model.specs.Honest.{is_wide, is_small_domain, is_small}
use Rattle.cover_model.proofs.Within.{exact_is_fraction}
use Rattle.poly_graph.proofs.Bools.{or_first, or_second}
use Rattle.ival.specs.BestViews.{axis_of}

side-or : Fraction → Option (ℕ × Fraction) → Fraction
side-or w None = w
side-or w (Some x) = x.1

same-side : (x y : ℕ × Fraction) → Some x ≡ Some y → Some x.1 ≡ Some y.1
unfolding side-or
same-side x y e = ap (λ (o : Option (ℕ × Fraction)). Some (side-or x.1 o)) e

-- ---- no side is above that of the widest axis

abbrev AtMost : Option (ℕ × Fraction) → Fraction → Type 0
AtMost None w = ⊥
AtMost (Some (axis, v)) w = IsTrue (at_most w v) × IsFraction v

better-cond : (t : Bool) (axis n : ℕ) (v w u : Fraction) → at_most w v ≡ t → IsFraction v → IsFraction w → IsTrue (at_most u v) → AtMost (cond t (Some (axis, v)) (Some (n, w))) u
better-cond true axis n v w u e g f h = (h, g)
better-cond false axis n v w u e g f h = elim (total w v) [
  | inl k ↦ absurd (true≢false (sym k ∙ e))
  | inr k ↦ (through u v w g h k, f)
]

better-keeps : (b : Option (ℕ × Fraction)) (n : ℕ) (o : Option Fraction) (u : Fraction) → ((w : Fraction) → o ≡ Some w → IsFraction w) → AtMost b u → AtMost (better b n o) u
better-keeps b n None u f h = h
better-keeps None n (Some w) u f h = absurd h
better-keeps (Some (axis, v)) n (Some w) u f h = better-cond (at_most w v) axis n v w u refl h.1 (f w refl) h.0

better-takes : (b : Option (ℕ × Fraction)) (n : ℕ) (w : Fraction) → IsFraction w → ((u : Fraction) → AtMost b u → AtMost b u) → (axes : (axis : ℕ) (v : Fraction) → b ≡ Some (axis, v) → IsFraction v) → AtMost (better b n (Some w)) w
better-takes None n w f g axes = (at_most_refl w, f)
better-takes (Some (axis, v)) n w f g axes = takes (at_most w v) refl
  where
    takes : (t : Bool) → at_most w v ≡ t → AtMost (cond t (Some (axis, v)) (Some (n, w))) w
    takes true e = (e, axes axis v refl)
    takes false e = (at_most_refl w, f)

side-good : (d : Domain) (w : Fraction) → side d ≡ Some w → IsFraction w
side-good (bool_domain f t) w e = cc
side-good (real_domain l h) w e = good (can_be_halved (real_domain l h)) e
  where
    good : (t : Bool) → cond t (Some (difference_of (exact h) (exact l))) None ≡ Some w → IsFraction w
    good true e = subst IsFraction (same (difference_of (exact h) (exact l)) w e) (sum_is_good (exact h) (negated (exact l)) (exact_is_fraction h) (negated_is_good (exact l) (exact_is_fraction l)))
      where
        same : (a b : Fraction) → Some a ≡ Some b → a ≡ b
        same a b q = cc
    good false e = cc

abbrev IsGood : Option (ℕ × Fraction) → Type 0
IsGood b = (axis : ℕ) (v : Fraction) → b ≡ Some (axis, v) → IsFraction v

better-good : (b : Option (ℕ × Fraction)) (n : ℕ) (o : Option Fraction) → IsGood b → ((w : Fraction) → o ≡ Some w → IsFraction w) → IsGood (better b n o)
better-good b n None g f = g
better-good None n (Some w) g f = λ axis v e. f v (same-side (n, w) (axis, v) e)
better-good (Some (best, u)) n (Some w) g f = by-cond (at_most w u)
  where
    by-cond : (t : Bool) → IsGood (cond t (Some (best, u)) (Some (n, w)))
    by-cond true = g
    by-cond false = λ axis v e. f v (same-side (n, w) (axis, v) e)

widest-keeps : (n : ℕ) (b : Option (ℕ × Fraction)) (space : Space) (u : Fraction) → AtMost b u → AtMost (widest_from n b space) u
widest-keeps n b [] u h = h
widest-keeps n b (d ∷ space) u h = widest-keeps (suc n) (better b n (side d)) space u (better-keeps b n (side d) u (side-good d) h)

-- each Real axis can't be halved or has a side of at most 2^-w
abbrev pub small_reals : ℕ → Space → Bool
small_reals w [] = true
small_reals w (real_domain l h ∷ space) = is_small_domain w (real_domain l h) && small_reals w space
small_reals w (bool_domain f t ∷ space) = small_reals w space

small-from : (w n : ℕ) (b : Option (ℕ × Fraction)) (space : Space) → IsGood b → ((u : Fraction) → AtMost (widest_from n b space) u → IsTrue (at_most u (exact (two_to_minus w)))) → small_reals w space ≡ true
small-from w n b [] g f = refl
small-from w n b (bool_domain x y ∷ space) g f = small-from w (suc n) b space g f
small-from w n b (real_domain l h ∷ space) g f =
    let o = side (real_domain l h) in
    both_pass (is_small_domain w (real_domain l h)) (small_reals w space)
    (real-small (can_be_halved (real_domain l h)) refl)
    (small-from w (suc n) (better b n o) space (better-good b n o g (side-good (real_domain l h))) f)
  where
    real-small : (t : Bool) → can_be_halved (real_domain l h) ≡ t → is_small_domain w (real_domain l h) ≡ true
    real-small false e = or_first (not (can_be_halved (real_domain l h))) (at_most (difference_of (exact h) (exact l)) (exact (two_to_minus w))) (ap not e)
    real-small true e =
        let u = difference_of (exact h) (exact l) in
        let k : side (real_domain l h) ≡ Some u = ap (λ (t : Bool). cond t (Some u) None) e in
        or_second (not (can_be_halved (real_domain l h))) (at_most u (exact (two_to_minus w)))
        (f u (widest-keeps (suc n) (better b n (side (real_domain l h))) space u
        (subst (λ (o : Option Fraction). AtMost (better b n o) u) (sym k) (better-takes b n u (side-good (real_domain l h) u k) (λ x y. y) g))))

-- the widest axis is not wide
pub small_unless_wide : (w : ℕ) (space : Space) → ((axis : ℕ) → axis_of (widest space) ≡ Some axis → is_wide w axis (widest space) ≡ false) → small_reals w space ≡ true
small_unless_wide w space f = small-from w 0 None space (λ axis v e. cc) (λ u h. by-widest (widest space) refl u h)
  where
    by-widest : (o : Option (ℕ × Fraction)) → widest space ≡ o → (u : Fraction) → AtMost o u → IsTrue (at_most u (exact (two_to_minus w)))
    by-widest None e u h = absurd h
    by-widest (Some (axis, v)) e u h =
        through u v (exact (two_to_minus w)) h.1 h.0
        (narrow (nat_eq axis axis) (at_most v (exact (two_to_minus w))) (eq-eqb axis axis refl) (sym (ap (is_wide w axis) e) ∙ f axis (ap axis_of e)))
      where
        narrow : (x y : Bool) → IsTrue x → (x && not y) ≡ false → IsTrue y
        narrow true true h k = refl
        narrow true false h k = absurd (true≢false k)
        narrow false y h k = absurd (true≢false (sym h))

-- with every Bool decided, all is small
pub small_with_bools : (w : ℕ) (space : Space) → small_reals w space ≡ true → ((i : ℕ) → i < length space → test_axis is_undecided i space ≡ false) → is_small w space ≡ true
small_with_bools w [] s f = refl
small_with_bools w (real_domain l h ∷ space) s f =
    let e = both_true (is_small_domain w (real_domain l h)) (small_reals w space) s in
    both_pass (is_small_domain w (real_domain l h)) (is_small w space) e.0 (small_with_bools w space e.1 (λ i l. f (suc i) (omega arith)))
small_with_bools w (bool_domain x y ∷ space) s f =
    both_pass (not (x && y)) (is_small w space) (ap not (f 0 (omega arith))) (small_with_bools w space s (λ i l. f (suc i) (omega arith)))
