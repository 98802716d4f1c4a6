-- Cuts of axes at their middle.
use Rattle.std.proofs.Common.{◌≡◌, ◌⊎◌, inl, inr, ℕ, zero, suc, ◌+◌, ◌<◌, ◌≤◌, [], ◌∷◌, length, get_or, Bool, true, false, cond, not, ◌&&◌, ◌||◌, IsTrue, Option, Some, None, refl, sym, ap, ap₂, ◌∙◌, subst, arith, true≢false, eq-eqb}
use Rattle.std.specs.Prelude.{nat_eq}
use Rattle.std.proofs.lemmas.List.{get_or_default}
use Rattle.std.proofs.lemmas.Bool.{eqb-true, leb-true, le-leb}
use Rattle.dyadic.specs.Fraction.{Fraction, zero_fraction, at_most, difference_of}
use Rattle.dyadic.specs.Rounding.{Dyadic, exact, two_to_minus, mid}
use Rattle.interval_model.specs.Space.{Domain, real_domain, bool_domain, Space, strictly_inside, can_be_halved, side, better, widest_from, widest, test_axis}
use Rattle.dyadic.proofs.Rounds.{exact_self}
use Rattle.dyadic.proofs.Equal.{both_true, both_pass}
use Rattle.poly_graph.proofs.Bools.{or_second}
use Rattle.cover_model.specs.State.{Loosenings}
use Rattle.cover_model.specs.Rules.{Line, has_version_5, cut}
use Rattle.cover_model.specs.Honest.{is_wide, is_wide_domain, may_be_cut, is_middle_of, is_middle_at}
use Rattle.ival.specs.BestViews.{axis_of}
use Rattle.cover_rule.specs.Refusals.{half_of, half_at, cut_of, cut_line, CutsAt, is_axis, is_widest}

record IsFound (space : Space) (i : ℕ) (v : Fraction) : Type 0 where
  can : IsTrue (test_axis can_be_halved i space)
  side_is : (d : Domain) → side (get_or space i d) ≡ Some v

axis-or : Option (ℕ × Fraction) → ℕ
axis-or None = 0
axis-or (Some x) = x.0

side-or : Option (ℕ × Fraction) → Fraction
side-or None = zero_fraction
side-or (Some x) = x.1

module _ (axis : ℕ) (v : Fraction) where
  abbrev here : Option (ℕ × Fraction)
  here = Some (axis, v)

  new-best : (n : ℕ) (w : Fraction) → (let o : Option (ℕ × Fraction) = Some (n, w) in o) ≡ here → (Some w ≡ Some v) × (axis ≡ n)
  unfolding axis-or side-or
  new-best n w e = (ap (λ (x : Option (ℕ × Fraction)). Some (side-or x)) e, sym (ap axis-or e))

  better-if : (t : Bool) (best : ℕ) (u : Fraction) (n : ℕ) (w : Fraction) → cond t (let o : Option (ℕ × Fraction) = Some (best, u) in o) (Some (n, w)) ≡ here →
      ((let o : Option (ℕ × Fraction) = Some (best, u) in o) ≡ here) ⊎ ((Some w ≡ Some v) × (axis ≡ n))
  better-if true best u n w e = inl e
  better-if false best u n w e = inr (new-best n w e)

  better-is : (b : Option (ℕ × Fraction)) (n : ℕ) (o : Option Fraction) → better b n o ≡ here → (b ≡ here) ⊎ ((o ≡ Some v) × (axis ≡ n))
  better-is b n None e = inl e
  better-is None n (Some w) e = inr (new-best n w e)
  better-is (Some (best, u)) n (Some w) e = better-if (at_most w u) best u n w e

  side-if : (t : Bool) (w : Fraction) → cond t (Some w) None ≡ Some v → IsTrue t
  side-if true w e = refl
  side-if false w e = cc

  side-can : (d : Domain) → side d ≡ Some v → IsTrue (can_be_halved d)
  side-can (real_domain l h) e = side-if (can_be_halved (real_domain l h)) (difference_of (exact h) (exact l)) e
  side-can (bool_domain f t) e = cc

  found-from : (n : ℕ) (b : Option (ℕ × Fraction)) (space : Space) → widest_from n b space ≡ here → (b ≡ here) ⊎ ((i : ℕ) × (axis ≡ n + i) × IsFound space i v)
  found-from n b [] e = inl e
  found-from n b (d ∷ space) e = elim (found-from (suc n) (better b n (side d)) space e) [
    | inl h ↦ elim (better-is b n (side d) h) [ inl k ↦ inl k | inr k ↦ inr (0, omega (arith, k.1), record { can = side-can d k.0; side_is = λ x. k.0 }) ]
    | inr k ↦ inr (suc k.0, omega (arith, k.1), record { can = k.2.can; side_is = k.2.side_is })
  ]

  found : (space : Space) → widest space ≡ here → IsFound space axis v
  found space e = elim (found-from 0 None space e) [ inl h ↦ cc | inr k ↦ let f : k.0 ≡ axis = omega (arith, k.1) in subst (λ (i : ℕ). IsFound space i v) f k.2 ]

-- ---- an axis with these ends, which can be halved

module _ (l h : Dyadic) where
  abbrev this-side : Fraction
  this-side = difference_of (exact h) (exact l)

  abbrev HasEnds : ℕ → Space → Type 0
  HasEnds axis space = (d : Domain) → get_or space axis d ≡ real_domain l h

  module _ (can : IsTrue (can_be_halved (real_domain l h))) where
    half-at : (axis : ℕ) (space : Space) → HasEnds axis space → axis < length space → half_at axis space ≡ Some (mid l h)
    half-at axis [] f k = absurd (omega (arith, k))
    half-at zero (d ∷ space) f k = ap half_of (f d) ∙ ap (λ (t : Bool). cond t (Some (mid l h)) None) can
    half-at (suc axis) (d ∷ space) f k = half-at axis space f (omega (arith, k))

    middle-at : (axis : ℕ) (space : Space) → HasEnds axis space → axis < length space → is_middle_at axis (mid l h) space ≡ true
    middle-at axis [] f k = absurd (omega (arith, k))
    middle-at zero (d ∷ space) f k = ap (is_middle_of (mid l h)) (f d) ∙ both_pass (at_most (exact (mid l h)) (exact (mid l h))) (at_most (exact (mid l h)) (exact (mid l h))) (exact_self (mid l h)) (exact_self (mid l h))
    middle-at (suc axis) (d ∷ space) f k = middle-at axis space f (omega (arith, k))

    side-is : (v : Fraction) → side (real_domain l h) ≡ Some v → v ≡ this-side
    side-is v e = same (can_be_halved (real_domain l h)) can e
      where
        same : (t : Bool) → IsTrue t → cond t (Some this-side) None ≡ Some v → v ≡ this-side
        same true k q = cc
        same false k q = absurd (true≢false (sym k))

    module _ (w : ℕ) where
      abbrev above : Bool
      above = not (at_most this-side (exact (two_to_minus w)))

      wide-at : (axis : ℕ) (space : Space) → HasEnds axis space → axis < length space → test_axis (is_wide_domain w) axis space ≡ above
      wide-at axis [] f k = absurd (omega (arith, k))
      wide-at zero (d ∷ space) f k = ap (is_wide_domain w) (f d) ∙ ap (λ (t : Bool). not (not t || at_most this-side (exact (two_to_minus w)))) can
      wide-at (suc axis) (d ∷ space) f k = wide-at axis space f (omega (arith, k))

      -- the axis is found, or it is another one
      widest-at : (axis : ℕ) (space : Space) → HasEnds axis space → (o : Option (ℕ × Fraction)) → widest space ≡ o → is_wide w axis o ≡ (is_axis axis (axis_of o) && above)
      widest-at axis space f None e = refl
      widest-at axis space f (Some (best, v)) e = go (nat_eq axis best) refl
        where
          go : (t : Bool) → nat_eq axis best ≡ t → (t && not (at_most v (exact (two_to_minus w)))) ≡ (t && above)
          go false q = refl
          go true q =
              let r = found axis v space (e ∙ ap (λ (n : ℕ). Some (n, v)) (sym (eqb-true axis best q))) in
              ap (λ (x : Fraction). not (at_most x (exact (two_to_minus w)))) (side-is v (ap side (sym (f (real_domain l h))) ∙ r.side_is (real_domain l h)))

      may-at : (s : Loosenings) (axis : ℕ) (space : Space) → HasEnds axis space → axis < length space → may_be_cut w s axis space ≡ (above && (has_version_5 s || is_widest axis space))
      may-at s axis space f k = both (has_version_5 s) above (is_widest axis space) (wide-at axis space f k) (widest-at axis space f (widest space) refl)
        where
          both : (v a b : Bool) {x y : Bool} → x ≡ a → y ≡ (b && a) → cond v x y ≡ (a && (v || b))
          both true true b e g = e
          both true false b e g = e
          both false true true e g = g
          both false true false e g = g
          both false false true e g = g
          both false false false e g = g

    -- what a cut of it is
    pub cuts_at : (axis : ℕ) (space : Space) → HasEnds axis space → axis < length space → CutsAt space axis l h
    cuts_at axis space f k = record {
      inside = k;
      line = ap (cut_of axis) (half-at axis space f k);
      middle = middle-at axis space f k;
      may = λ w s. may-at w s axis space f k;
    }

-- ---- the widest axis

found-by : (space : Space) (axis : ℕ) (o : Option (ℕ × Fraction)) → widest space ≡ o → axis_of o ≡ Some axis → (v : Fraction) × IsFound space axis v
found-by space axis None e q = cc
found-by space axis (Some (b, v)) e q = (v, found axis v space (e ∙ ap (λ (n : ℕ). Some (n, v)) (same b axis q)))
  where
    same : (m n : ℕ) → Some m ≡ Some n → m ≡ n
    same m n q = cc

below : (f : Domain → Bool) (axis : ℕ) (space : Space) → IsTrue (test_axis f axis space) → axis < length space
below f axis [] h = absurd (true≢false (sym h))
below f zero (d ∷ space) h = omega arith
below f (suc axis) (d ∷ space) h = let k = below f axis space h in omega (arith, k)

pub found_below : (space : Space) (axis : ℕ) → axis_of (widest space) ≡ Some axis → axis < length space
found_below space axis a = let r = found-by space axis (widest space) refl a in below can_be_halved axis space r.1.can

real-side : (d : Domain) (v : Fraction) → side d ≡ Some v → (l : Dyadic) × (h : Dyadic) × (d ≡ real_domain l h) × IsTrue (can_be_halved (real_domain l h))
real-side (bool_domain f t) v e = cc
real-side (real_domain l h) v e = (l, h, refl, side-can 0 v (real_domain l h) e)

-- it can be cut
pub widest_cuts : (space : Space) (axis : ℕ) → axis_of (widest space) ≡ Some axis → (l : Dyadic) × (h : Dyadic) × CutsAt space axis l h
widest_cuts space axis a =
    let r = found-by space axis (widest space) refl a in
    let k = found_below space axis a in
    let d : Domain = bool_domain true true in
    let x = real-side (get_or space axis d) r.0 (r.1.side_is d) in
    (x.0, x.1, cuts_at x.0 x.1 x.3 axis space (λ c. get_or_default space axis c d k ∙ x.2) k)

-- so it may be where its side is wide, whatever the version
pub wide_may : (w : ℕ) (s : Loosenings) (axis : ℕ) (space : Space) (l h : Dyadic) → CutsAt space axis l h → axis_of (widest space) ≡ Some axis → IsTrue (is_wide w axis (widest space)) → IsTrue (may_be_cut w s axis space)
wide_may w s axis space l h c a k =
    let second : Loosenings = record { margin_bits = 0; delta_bits = 0; version = 2 } in
    let wide : Bool = not (at_most (difference_of (exact h) (exact l)) (exact (two_to_minus w))) in
    let x = both_true wide (has_version_5 second || is_widest axis space) (sym (c.may w second) ∙ k) in
    c.may w s ∙ both_pass wide (has_version_5 s || is_widest axis space) x.0 (or_second (has_version_5 s) (is_widest axis space) (ap (is_axis axis) a ∙ eq-eqb axis axis refl))

-- ---- where it may be cut

module _ (w : ℕ) (s : Loosenings) {axis : ℕ} {space : Space} {l h : Dyadic} (c : CutsAt space axis l h) where
  abbrev small : Bool
  small = at_most (difference_of (exact h) (exact l)) (exact (two_to_minus w))

  pub not_where_small : small ≡ true → false ≡ may_be_cut w s axis space
  not_where_small e = sym (c.may w s ∙ ap (λ (t : Bool). not t && (has_version_5 s || is_widest axis space)) e)

  pub always_in_5 : small ≡ false → 5 ≤ s.version → true ≡ may_be_cut w s axis space
  always_in_5 e v = sym (c.may w s ∙ ap₂ (λ (t : Bool) (u : Bool). not t && (u || is_widest axis space)) e (le-leb 5 s.version v))

  pub widest_before_5 : small ≡ false → s.version < 5 → is_widest axis space ≡ may_be_cut w s axis space
  widest_before_5 e v = sym (c.may w s ∙ ap₂ (λ (t : Bool) (u : Bool). not t && (u || is_widest axis space)) e (not-5 (has_version_5 s) refl))
    where
      not-5 : (t : Bool) → has_version_5 s ≡ t → has_version_5 s ≡ false
      not-5 true f = let k : 5 ≤ s.version = leb-true 5 s.version f in absurd (omega (arith, k, v))
      not-5 false f = f

-- ---- no cut

-- an axis that cannot be halved has none
pub no_cut : (axis : ℕ) (space : Space) → ((d : Domain) → half_of (get_or space axis d) ≡ None) → cut_line axis space ≡ None
no_cut axis [] f = refl
no_cut zero (d ∷ space) f = ap (cut_of 0) (f d)
no_cut (suc axis) (d ∷ space) f = ap (cut_of (suc axis)) (none-at axis space f)
  where
    none-at : (axis : ℕ) (space : Space) → ((d : Domain) → half_of (get_or space axis d) ≡ None) → half_at axis space ≡ None
    none-at axis [] f = refl
    none-at zero (d ∷ space) f = f d
    none-at (suc axis) (d ∷ space) f = none-at axis space f

-- nor has one that is not there
pub no_cut_beyond : (axis : ℕ) (space : Space) → (axis < length space → ⊥) → cut_line axis space ≡ None
no_cut_beyond axis space f = ap (cut_of axis) (beyond axis space f)
  where
    beyond : (axis : ℕ) (space : Space) → (axis < length space → ⊥) → half_at axis space ≡ None
    beyond axis [] f = refl
    beyond zero (d ∷ space) f = absurd (f (omega arith))
    beyond (suc axis) (d ∷ space) f = beyond axis space (λ k. f (omega (arith, k)))

-- ---- the cut line

half-inside : (d : Domain) (c : Dyadic) → half_of d ≡ Some c → IsTrue (strictly_inside c d)
half-inside (bool_domain f t) c e = cc
half-inside (real_domain l h) c e = inside (can_be_halved (real_domain l h)) refl e
  where
    same-some : (a b : Dyadic) → Some a ≡ Some b → a ≡ b
    same-some a b q = cc

    inside : (t : Bool) → can_be_halved (real_domain l h) ≡ t → cond t (Some (mid l h)) None ≡ Some c → IsTrue (strictly_inside c (real_domain l h))
    inside true k q = subst (λ (x : Dyadic). IsTrue (strictly_inside x (real_domain l h))) (same-some (mid l h) c q) k
    inside false k q = cc

half-at-inside : (axis : ℕ) (space : Space) (c : Dyadic) → half_at axis space ≡ Some c → IsTrue (test_axis (strictly_inside c) axis space)
half-at-inside axis [] c e = cc
half-at-inside zero (d ∷ space) c e = half-inside d c e
half-at-inside (suc axis) (d ∷ space) c e = half-at-inside axis space c e

-- a cut line is a cut strictly inside
pub record IsCut (axis : ℕ) (space : Space) (l : Line) : Type 0 where
  pub at : Dyadic
  pub is : l ≡ cut axis at
  pub can : IsTrue (test_axis (strictly_inside at) axis space)

pub cut_is : (axis : ℕ) (space : Space) (l : Line) → cut_line axis space ≡ Some l → IsCut axis space l
cut_is axis space l e = by-half (half_at axis space) refl e
  where
    same-line : (a b : Line) → Some a ≡ Some b → b ≡ a
    same-line a b r = cc

    by-half : (o : Option Dyadic) → half_at axis space ≡ o → cut_of axis o ≡ Some l → IsCut axis space l
    by-half None k q = cc
    by-half (Some c) k q = record { at = c; is = same-line (cut axis c) l q; can = half-at-inside axis space c k }
