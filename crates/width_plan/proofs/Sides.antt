-- A side of numbers that do not stand too far apart can be halved as long as it is wide.
use Rattle.std.proofs.Common.{◌≡◌, ◌⊎◌, inl, inr, ℕ, suc, ◌+◌, ◌-◌, ◌*◌, ◌^◌, ◌≤◌, [], ◌∷◌, arith, refl, sym, ap, ◌∙◌, subst, Bool, true, false, not, ◌||◌, IsTrue, true≢false, ℤ, pos, neg_ℤ, nat_abs, ◌+ℤ◌, ◌*ℤ◌, ◌≤ℤ◌}
use Rattle.std.proofs.lemmas.Nat.{pow_pos}
use Rattle.std.proofs.lemmas.Int.{ints}
use Rattle.dyadic.specs.Calls.{power_of_two}
use Rattle.dyadic.specs.Fraction.{Fraction, at_most, sum_of, difference_of, quotient_of}
use Rattle.dyadic.specs.Rounding.{Dyadic, exact, IsOnGrid, Ext, below_all, finite, above_all, IsDown, down, ext_at_most, dyadic_or, two_to_minus, mid}
use Rattle.dyadic.specs.End.{negated_dyadic}
use Rattle.dyadic.proofs.Equal.{both_true, both_pass}
use Rattle.dyadic.proofs.Nearest.{pow_split}
use Rattle.dyadic.proofs.Ring
use Rattle.dyadic.proofs.Ring.{atom, natural, plus, minus, times, read_below}
use Rattle.dyadic.proofs.Rounds.{at_most_read, at_most_from, exact_read, down_is}
use Rattle.dyadic.proofs.RoundsMid.{half_sum, half_sum_is_fraction, half_at_least}
use Rattle.interval_model.specs.Interval.{between}
use Rattle.interval_model.specs.Space.{Domain, real_domain, bool_domain, Space, axis_interval, is_upright_domain, is_upright, domain_within, space_within, strictly_inside, can_be_halved}
use Rattle.interval_model.proofs.EndsSums.{exact_negated}
use Rattle.cover_model.specs.Honest.{is_small_domain, is_small}
use Rattle.width_plan.specs.Width.{interval_size, is_fine_domain, is_fine}
use Rattle.width_plan.proofs.Close.{IsStep, near_below}
use Rattle.width_plan.proofs.Ends.{fine, sum_is_fine, sized}
use Rattle.width_plan.proofs.Terms.{size-some}

power-more : (t k : ℕ) → 2 ^ (t + k) ≡ 2 ^ t * 2 ^ k
power-more t k = pow_split k (t + k) (omega arith) ∙ (let e : t + k - k ≡ t = omega arith in ap (λ (n : ℕ). 2 ^ n * 2 ^ k) e)

-- steps of 2^t units, of which 2^62 are kept
steps : (t : ℕ) → t ≤ 119 → IsStep (2 ^ 62 * 2 ^ t) (2 ^ t)
steps t h = record {
  some = pow_pos t;
  little = omega arith;
  steps = 2 ^ 62;
  whole = refl;
  kept = λ k f. record { whole = k; power = t; few_bits = f; in_range = omega arith; value = refl };
}

-- ---- the middle

mid-above : (l h z : Dyadic) → IsOnGrid z → (z.units *ℤ pos 2) ≤ℤ (l.units +ℤ h.units) → z.units ≤ℤ (mid l h).units
mid-above l h z g k = go (down (half_sum l h)) (down_is (half_sum l h) (half_sum_is_fraction l h))
  where
    go : (e : Ext) → IsDown (half_sum l h) e → z.units ≤ℤ (dyadic_or l e).units
    go (finite m) d = exact_read z m (d.2 z g (half_at_least l h z k))
    go below_all d = absurd (d z g (half_at_least l h z k))
    go above_all d = absurd d

half-read : (l h r : Dyadic) → IsTrue (at_most (exact r) (half_sum l h)) → (r.units *ℤ pos 2) ≤ℤ (l.units +ℤ h.units)
unfolding quotient_of sum_of
half-read l h r k = omega (arith, ints, at_most_read (exact r) (half_sum l h) k)

mid-below : (l h z : Dyadic) → IsOnGrid z → (z.units *ℤ pos 2) ≤ℤ (l.units +ℤ h.units) → ((mid l h).units *ℤ pos 2) ≤ℤ (l.units +ℤ h.units)
mid-below l h z g k = go (down (half_sum l h)) (down_is (half_sum l h) (half_sum_is_fraction l h))
  where
    go : (e : Ext) → IsDown (half_sum l h) e → ((dyadic_or l e).units *ℤ pos 2) ≤ℤ (l.units +ℤ h.units)
    go (finite m) d = half-read l h m d.1
    go below_all d = absurd (d z g (half_at_least l h z k))
    go above_all d = absurd d

inside : (l h m : Dyadic) → (l.units +ℤ pos 1) ≤ℤ m.units → (m.units +ℤ pos 1) ≤ℤ h.units → IsTrue (strictly_inside m (real_domain l h))
inside l h m i j = both_pass (not (at_most (exact m) (exact l))) (not (at_most (exact h) (exact m))) (above l m i) (above m h j)
  where
    above : (a b : Dyadic) → (a.units +ℤ pos 1) ≤ℤ b.units → IsTrue (not (at_most (exact b) (exact a)))
    above a b i = go (at_most (exact b) (exact a)) refl
      where
        go : (t : Bool) → at_most (exact b) (exact a) ≡ t → IsTrue (not t)
        go false e = refl
        go true e = let k = exact_read b a e in absurd (omega (arith, ints, i, k))

-- ---- a wide side can be halved

sizes : (l h : ℤ) (t : ℕ) → nat_abs l ≤ 2 ^ 62 * 2 ^ t → nat_abs h ≤ 2 ^ 62 * 2 ^ t → nat_abs (l +ℤ h) ≤ 2 ^ 62 * 2 ^ t * 2
sizes l h t i j = omega (arith, ints)

pub wide_is_halved : (l h : Dyadic) (t : ℕ) → t ≤ 119 → nat_abs l.units ≤ 2 ^ 62 * 2 ^ t → nat_abs h.units ≤ 2 ^ 62 * 2 ^ t → (l.units +ℤ (pos (2 ^ t * 2) +ℤ pos 1)) ≤ℤ h.units → IsTrue (can_be_halved (real_domain l h))
wide_is_halved l h t short i j wide =
    let near = near_below (l.units +ℤ h.units) 2 (2 ^ 62 * 2 ^ t) (2 ^ t) (omega arith) (steps t short) (sizes l.units h.units t i j) in
    let z : Dyadic = record { units = near.number } in
    let from = mid-above l h z near.kept near.below in
    let to = mid-below l h z near.kept near.below in
    inside l h (mid l h) (low-part l.units h.units near.number (mid l h).units (2 ^ t) wide near.close from) (high-part l.units h.units (mid l h).units (2 ^ t) wide to)
  where
    low-part : (l h z m : ℤ) (s : ℕ) → (l +ℤ (pos (s * 2) +ℤ pos 1)) ≤ℤ h → (l +ℤ h) ≤ℤ ((z +ℤ pos s) *ℤ pos 2) → z ≤ℤ m → (l +ℤ pos 1) ≤ℤ m
    low-part l h z m s i j k = Ring.below (plus (atom l) (natural 1)) (atom m)
        (omega (arith, read_below (plus (atom l) (plus (natural (s * 2)) (natural 1))) (atom h) i, read_below (plus (atom l) (atom h)) (times (plus (atom z) (natural s)) (natural 2)) j, read_below (atom z) (atom m) k))

    high-part : (l h m : ℤ) (s : ℕ) → (l +ℤ (pos (s * 2) +ℤ pos 1)) ≤ℤ h → (m *ℤ pos 2) ≤ℤ (l +ℤ h) → (m +ℤ pos 1) ≤ℤ h
    high-part l h m s i j = Ring.below (plus (atom m) (natural 1)) (atom h)
        (omega (arith, read_below (plus (atom l) (plus (natural (s * 2)) (natural 1))) (atom h) i, read_below (times (atom m) (natural 2)) (plus (atom l) (atom h)) j))

-- ---- the sides of a space

side-is : (l h : Dyadic) → difference_of (exact h) (exact l) ≡ fine ((h.units *ℤ pos (2 ^ 120)) +ℤ (neg_ℤ l.units *ℤ pos (2 ^ 120)))
side-is l h = ap (sum_of (exact h)) (exact_negated l) ∙ sum_is_fine h (negated_dyadic l)

-- a side that is not at most 2^-bits is above it
above-width : (bits : ℕ) (l h : Dyadic) → at_most (difference_of (exact h) (exact l)) (exact (two_to_minus bits)) ≡ false → (l.units +ℤ (pos (2 ^ (120 - bits)) +ℤ pos 1)) ≤ℤ h.units
above-width bits l h e = elim (decided-order h.units (l.units +ℤ pos (2 ^ (120 - bits)))) [
  | inl k ↦ absurd (true≢false (sym (at_most-side k) ∙ e))
  | inr k ↦ more l.units h.units (2 ^ (120 - bits)) k
]
  where
    at_most-side : h.units ≤ℤ (l.units +ℤ pos (2 ^ (120 - bits))) → IsTrue (at_most (difference_of (exact h) (exact l)) (exact (two_to_minus bits)))
    at_most-side k = subst (λ (q : Fraction). IsTrue (at_most q (exact (two_to_minus bits)))) (sym (side-is l h))
        (at_most_from (fine ((h.units *ℤ pos (2 ^ 120)) +ℤ (neg_ℤ l.units *ℤ pos (2 ^ 120)))) (exact (two_to_minus bits)) (coarse l.units h.units (2 ^ (120 - bits)) k))
      where
        coarse : (l h : ℤ) (w : ℕ) → h ≤ℤ (l +ℤ pos w) → (((h *ℤ pos (2 ^ 120)) +ℤ (neg_ℤ l *ℤ pos (2 ^ 120))) *ℤ pos (2 ^ 120)) ≤ℤ (pos w *ℤ pos (2 ^ 120 * 2 ^ 120))
        coarse l h w k = Ring.below (times (plus (times (atom h) (natural (2 ^ 120))) (times (minus (atom l)) (natural (2 ^ 120)))) (natural (2 ^ 120))) (times (natural w) (natural (2 ^ 120 * 2 ^ 120)))
            (omega (arith, read_below (atom h) (plus (atom l) (natural w)) k))

    decided-order : (a b : ℤ) → (a ≤ℤ b) ⊎ ((b +ℤ pos 1) ≤ℤ a)
    decided-order a b = grind (arith, ints)

    more : (l h : ℤ) (w : ℕ) → ((l +ℤ pos w) +ℤ pos 1) ≤ℤ h → (l +ℤ (pos w +ℤ pos 1)) ≤ℤ h
    more l h w k = Ring.below (plus (atom l) (plus (natural w) (natural 1))) (atom h) (omega (arith, read_below (plus (plus (atom l) (natural w)) (natural 1)) (atom h) k))

-- ---- spaces

near-size : (l h : Dyadic) (bits : ℕ) → bits ≤ 60 → IsTrue (ext_at_most (interval_size (between (finite l) (finite h))) (finite (power_of_two (pos (61 - bits))))) →
    (nat_abs l.units ≤ 2 ^ 62 * 2 ^ (119 - bits)) × (nat_abs h.units ≤ 2 ^ 62 * 2 ^ (119 - bits))
near-size l h bits few near =
    let a = size-some l h in let s = sized (finite l) (finite h) a.0 a.1 in
    let k = exact_read a.0 (power_of_two (pos (61 - bits))) (subst (λ (e : Ext). IsTrue (ext_at_most e (finite (power_of_two (pos (61 - bits)))))) a.1 near) in
    let m : s.0 ≤ 2 ^ (120 + (61 - bits)) = number s.0 (2 ^ (120 + (61 - bits))) (subst (λ (d : Dyadic). d.units ≤ℤ pos (2 ^ (120 + (61 - bits)))) s.1 k) in
    let e : 120 + (61 - bits) ≡ 119 - bits + 62 = omega arith in
    let power : 2 ^ (120 + (61 - bits)) ≡ 2 ^ (119 - bits) * 2 ^ 62 = ap (λ (n : ℕ). 2 ^ n) e ∙ power-more (119 - bits) 62 in
    let low : l ≡ s.2.low = ap (λ (x : Ext). dyadic_or l x) s.2.low_is in
    let high : h ≡ s.2.high = ap (λ (x : Ext). dyadic_or l x) s.2.high_is in (
      subst (λ (d : Dyadic). nat_abs d.units ≤ 2 ^ 62 * 2 ^ (119 - bits)) (sym low) (omega (arith, s.2.low_size, m, power)),
      subst (λ (d : Dyadic). nat_abs d.units ≤ 2 ^ 62 * 2 ^ (119 - bits)) (sym high) (omega (arith, s.2.high_size, m, power)),
    )
  where
    number : (m n : ℕ) → pos m ≤ℤ pos n → m ≤ n
    number m n h = omega (arith, ints, h)

between-sizes : (l x y : ℤ) (m : ℕ) → nat_abs x ≤ m → nat_abs y ≤ m → x ≤ℤ l → l ≤ℤ y → nat_abs l ≤ m
between-sizes l x y m i j f g = omega (arith, ints)

fine-real : (l h x y : Dyadic) (bits : ℕ) → bits ≤ 60 → IsTrue (is_upright_domain (real_domain l h)) → IsTrue (domain_within (real_domain l h) (real_domain x y)) →
    IsTrue (ext_at_most (interval_size (between (finite x) (finite y))) (finite (power_of_two (pos (61 - bits))))) → IsTrue (is_small_domain bits (real_domain l h)) →
    IsTrue (is_fine_domain bits (real_domain l h))
fine-real l h x y bits few up in_box near small = go (at_most (difference_of (exact h) (exact l)) (exact (two_to_minus bits))) refl small
  where
    w : IsTrue (at_most (exact x) (exact l)) × IsTrue (at_most (exact h) (exact y))
    w = both_true (at_most (exact x) (exact l)) (at_most (exact h) (exact y)) in_box

    s : (nat_abs x.units ≤ 2 ^ 62 * 2 ^ (119 - bits)) × (nat_abs y.units ≤ 2 ^ 62 * 2 ^ (119 - bits))
    s = near-size x y bits few near

    order : l.units ≤ℤ h.units
    order = exact_read l h up

    from : x.units ≤ℤ l.units
    from = exact_read x l w.0

    to : h.units ≤ℤ y.units
    to = exact_read h y w.1

    through : (a b c : ℤ) → a ≤ℤ b → b ≤ℤ c → a ≤ℤ c
    through a b c i j = Ring.below (atom a) (atom c) (omega (arith, read_below (atom a) (atom b) i, read_below (atom b) (atom c) j))

    halves : at_most (difference_of (exact h) (exact l)) (exact (two_to_minus bits)) ≡ false → IsTrue (can_be_halved (real_domain l h))
    halves e =
        let p : 120 - bits ≡ 119 - bits + 1 = omega arith in
        let power : 2 ^ (120 - bits) ≡ 2 ^ (119 - bits) * 2 = ap (λ (n : ℕ). 2 ^ n) p ∙ power-more (119 - bits) 1 in
        wide_is_halved l h (119 - bits) (omega arith)
        (between-sizes l.units x.units y.units (2 ^ 62 * 2 ^ (119 - bits)) s.0 s.1 from (through l.units h.units y.units order to))
        (between-sizes h.units x.units y.units (2 ^ 62 * 2 ^ (119 - bits)) s.0 s.1 (through x.units l.units h.units from order) to)
        (subst (λ (n : ℕ). (l.units +ℤ (pos n +ℤ pos 1)) ≤ℤ h.units) power (above-width bits l h e))

    go : (t : Bool) → at_most (difference_of (exact h) (exact l)) (exact (two_to_minus bits)) ≡ t → IsTrue (not (can_be_halved (real_domain l h)) || t) → IsTrue t
    go true e k = refl
    go false e k = absurd (either (can_be_halved (real_domain l h)) (halves e) k)
      where
        either : (b : Bool) → IsTrue b → IsTrue (not b || false) → ⊥
        either true h k = true≢false (sym k)
        either false h k = true≢false (sym h)

pub small_is_fine_in : (bits : ℕ) → bits ≤ 60 → (space box : Space) → ((i : ℕ) → IsTrue (not (not (ext_at_most (interval_size (axis_interval box i)) (finite (power_of_two (pos (61 - bits)))))))) →
    IsTrue (is_upright space) → IsTrue (space_within space box) → IsTrue (is_small bits space) → IsTrue (is_fine bits space)
small_is_fine_in bits few [] box near up in_box small = refl
small_is_fine_in bits few (d ∷ space) [] near up in_box small = absurd (true≢false (sym in_box))
small_is_fine_in bits few (d ∷ space) (e ∷ box) near up in_box small =
    let u = both_true (is_upright_domain d) (is_upright space) up in
    let w = both_true (domain_within d e) (space_within space box) in_box in
    let s = both_true (is_small_domain bits d) (is_small bits space) small in
    both_pass (is_fine_domain bits d) (is_fine bits space) (here d e (near 0) u.0 w.0 s.0) (small_is_fine_in bits few space box (λ i. near (suc i)) u.1 w.1 s.1)
  where
    twice : (b : Bool) → IsTrue (not (not b)) → IsTrue b
    twice true h = refl
    twice false h = h

    here : (d e : Domain) → IsTrue (not (not (ext_at_most (interval_size (axis_interval (e ∷ box) 0)) (finite (power_of_two (pos (61 - bits))))))) → IsTrue (is_upright_domain d) → IsTrue (domain_within d e) →
        IsTrue (is_small_domain bits d) → IsTrue (is_fine_domain bits d)
    here (bool_domain f t) e n u w s = refl
    here (real_domain l h) (bool_domain f t) n u w s = absurd (true≢false (sym w))
    here (real_domain l h) (real_domain x y) n u w s = fine-real l h x y bits few u w (twice (ext_at_most (interval_size (between (finite x) (finite y))) (finite (power_of_two (pos (61 - bits))))) n) s
