-- Rounded ends that lie within an interval of a given size, and the parts of widths that are finite.
use Rattle.std.proofs.Common.{◌≡◌, ◌⊎◌, inl, inr, ℕ, zero, suc, ◌+◌, ◌*◌, ◌^◌, ◌≤◌, arith, refl, sym, ap, ◌∙◌, subst, Bool, true, false, cond, IsTrue, true≢false, lit<, ℤ, pos, negsuc, neg_ℤ, nat_abs, ◌+ℤ◌, ◌*ℤ◌, ◌≤ℤ◌}
use Rattle.std.proofs.lemmas.Nat.{pow_pos}
use Rattle.std.proofs.lemmas.Int.{ints}
use Rattle.dyadic.specs.Fraction.{Fraction, IsFraction, at_most, sum_of, product_of}
use Rattle.dyadic.specs.Rounding.{Dyadic, exact, IsRepresentable, IsExtOnGrid, Ext, below_all, finite, above_all, end_of, ext_at_most, IsDown, IsUp, down, up, positive, two_to_minus, dyadic_or}
use Rattle.dyadic.specs.End.{above, sign_of, infinite, rounded_up}
use Rattle.dyadic.proofs.Equal.{both_true}
use Rattle.dyadic.proofs.Ints.{nat_abs-neg}
use Rattle.dyadic.proofs.Ring
use Rattle.dyadic.proofs.Ring.{atom, natural, plus, minus, times, read_below}
use Rattle.dyadic.proofs.Rounds.{at_most_from, at_most_read, exact_read, down_is, up_is}
use Rattle.interval_model.specs.Interval.{Interval, nothing, between, IsKept, within}
use Rattle.interval_model.proofs.Ends.{end_total}
use Rattle.width_plan.specs.Width.{end_size, interval_size, width_sum, width_product, rounding_width}
use Rattle.width_plan.proofs.Close.{IsStep, step_of, near_below}

-- ---- numbers in units of 2^-240

abbrev pub fine : ℤ → Fraction
fine n = record { num = n; den = 2 ^ 120 * 2 ^ 120 }

pub fine_is_fraction : (n : ℤ) → IsFraction (fine n)
fine_is_fraction n = lit< tt

pub product_is_fine : (a b : Dyadic) → product_of (exact a) (exact b) ≡ fine (a.units *ℤ b.units)
unfolding product_of
product_is_fine a b = refl

pub sum_is_fine : (a b : Dyadic) → sum_of (exact a) (exact b) ≡ fine ((a.units *ℤ pos (2 ^ 120)) +ℤ (b.units *ℤ pos (2 ^ 120)))
unfolding sum_of
sum_is_fine a b = refl

-- ---- an end that is rounded moves by less than a step

pub low_side : (n : ℤ) (r : Dyadic) → down (fine n) ≡ finite r → (r.units *ℤ pos (2 ^ 120)) ≤ℤ n
low_side n r e =
    let d : IsDown (fine n) (finite r) = subst (IsDown (fine n)) e (down_is (fine n) (fine_is_fraction n)) in
    let k = at_most_read (exact r) (fine n) d.1 in
    Ring.below (times (atom r.units) (natural (2 ^ 120))) (atom n) (omega (arith, read_below (times (atom r.units) (natural (2 ^ 120 * 2 ^ 120))) (times (atom n) (natural (2 ^ 120))) k))

pub high_side : (n : ℤ) (r : Dyadic) → up (fine n) ≡ finite r → n ≤ℤ (r.units *ℤ pos (2 ^ 120))
high_side n r e =
    let d : IsUp (fine n) (finite r) = subst (IsUp (fine n)) e (up_is (fine n) (fine_is_fraction n)) in
    let k = at_most_read (fine n) (exact r) d.1 in
    Ring.below (atom n) (times (atom r.units) (natural (2 ^ 120))) (omega (arith, read_below (times (atom n) (natural (2 ^ 120))) (times (atom r.units) (natural (2 ^ 120 * 2 ^ 120))) k))

pub low_close : (n : ℤ) (a step : ℕ) (r : Dyadic) → IsStep a step → nat_abs n ≤ a * 2 ^ 120 → down (fine n) ≡ finite r → n ≤ℤ ((r.units +ℤ pos step) *ℤ pos (2 ^ 120))
low_close n a step r s h e =
    let near = near_below n (2 ^ 120) a step (pow_pos 120) s h in
    let z : Dyadic = record { units = near.number } in
    let d : IsDown (fine n) (finite r) = subst (IsDown (fine n)) e (down_is (fine n) (fine_is_fraction n)) in
    let below : IsTrue (at_most (exact z) (fine n)) = at_most_from (exact z) (fine n)
    (Ring.below (times (atom near.number) (natural (2 ^ 120 * 2 ^ 120))) (times (atom n) (natural (2 ^ 120))) (omega (arith, read_below (times (atom near.number) (natural (2 ^ 120))) (atom n) near.below))) in
    let less = exact_read z r (d.2 z near.kept below) in
    Ring.below (atom n) (times (plus (atom r.units) (natural step)) (natural (2 ^ 120)))
    (omega (arith, read_below (atom n) (times (plus (atom near.number) (natural step)) (natural (2 ^ 120))) near.close, read_below (atom near.number) (atom r.units) less))

pub high_close : (n : ℤ) (a step : ℕ) (r : Dyadic) → IsStep a step → nat_abs n ≤ a * 2 ^ 120 → up (fine n) ≡ finite r → (r.units *ℤ pos (2 ^ 120)) ≤ℤ (n +ℤ (pos step *ℤ pos (2 ^ 120)))
high_close n a step r s h e =
    let near = near_below (neg_ℤ n) (2 ^ 120) a step (pow_pos 120) s (subst (λ (k : ℕ). k ≤ a * 2 ^ 120) (sym (nat_abs-neg n)) h) in
    let z : Dyadic = record { units = neg_ℤ near.number } in
    let d : IsUp (fine n) (finite r) = subst (IsUp (fine n)) e (up_is (fine n) (fine_is_fraction n)) in
    let above : IsTrue (at_most (fine n) (exact z)) = at_most_from (fine n) (exact z)
    (Ring.below (times (atom n) (natural (2 ^ 120))) (times (minus (atom near.number)) (natural (2 ^ 120 * 2 ^ 120))) (omega (arith, read_below (times (atom near.number) (natural (2 ^ 120))) (minus (atom n)) near.below))) in
    let less = exact_read r z (d.2 z (subst IsRepresentable (sym (nat_abs-neg near.number)) near.kept) above) in
    Ring.below (times (atom r.units) (natural (2 ^ 120))) (plus (atom n) (times (natural step) (natural (2 ^ 120))))
    (omega (arith, read_below (minus (atom n)) (times (plus (atom near.number) (natural step)) (natural (2 ^ 120))) near.close, read_below (atom r.units) (minus (atom near.number)) less))

-- ---- an interval of a given size

pub record IsSized (l h : Ext) (a : ℕ) : Type 0 where
  pub low : Dyadic
  pub high : Dyadic
  pub low_is : l ≡ finite low
  pub high_is : h ≡ finite high
  pub low_size : nat_abs low.units ≤ a
  pub high_size : nat_abs high.units ≤ a
  pub kept : IsExtOnGrid l → IsExtOnGrid h → IsRepresentable a

pub sized : (l h : Ext) (a : Dyadic) → interval_size (between l h) ≡ finite a → (m : ℕ) × (a ≡ record { units = pos m }) × IsSized l h m
sized (finite l) (finite h) a e = go (ext_at_most (positive (nat_abs l.units)) (positive (nat_abs h.units))) refl e
  where
    pick : (m : ℕ) → positive m ≡ finite a → a ≡ record { units = pos m }
    pick m e = sym (ap (dyadic_or a) e)

    order : ext_at_most (positive (nat_abs l.units)) (positive (nat_abs h.units)) ≡ true → nat_abs l.units ≤ nat_abs h.units
    order t = let k = exact_read (record { units = pos (nat_abs l.units) }) (record { units = pos (nat_abs h.units) }) t in omega (arith, ints, k)

    other : ext_at_most (positive (nat_abs l.units)) (positive (nat_abs h.units)) ≡ false → nat_abs h.units ≤ nat_abs l.units
    other t = elim (end_total (end_of (positive (nat_abs l.units))) (end_of (positive (nat_abs h.units)))) [
      | inl k ↦ absurd (true≢false (sym k ∙ t))
      | inr k ↦ let m = exact_read (record { units = pos (nat_abs h.units) }) (record { units = pos (nat_abs l.units) }) k in omega (arith, ints, m)
    ]

    go : (t : Bool) → ext_at_most (positive (nat_abs l.units)) (positive (nat_abs h.units)) ≡ t →
        cond t (positive (nat_abs h.units)) (positive (nat_abs l.units)) ≡ finite a → (m : ℕ) × (a ≡ record { units = pos m }) × IsSized (finite l) (finite h) m
    go true t e = (
      nat_abs h.units,
      pick (nat_abs h.units) e,
      record {
        low = l;
        high = h;
        low_is = refl;
        high_is = refl;
        low_size = order t;
        high_size = omega arith;
        kept = λ i j. j;
      },
    )
    go false t e = (
      nat_abs l.units,
      pick (nat_abs l.units) e,
      record {
        low = l;
        high = h;
        low_is = refl;
        high_is = refl;
        low_size = omega arith;
        high_size = other t;
        kept = λ i j. i;
      },
    )
sized (finite l) below_all a e = cc
sized (finite l) above_all a e = cc
sized below_all (finite h) a e = cc
sized below_all below_all a e = cc
sized below_all above_all a e = cc
sized above_all (finite h) a e = cc
sized above_all below_all a e = cc
sized above_all above_all a e = cc

-- ---- two rounded ends within an interval of a given size

pub record IsRounded (n n' : ℤ) (m : ℕ) : Type 0 where
  pub low : Dyadic
  pub high : Dyadic
  pub step : ℕ
  pub low_is : down (fine n) ≡ finite low
  pub high_is : up (fine n') ≡ finite high
  pub little : step * 2 ^ 61 ≤ m + 2 ^ 61
  pub width : ((high.units +ℤ neg_ℤ low.units) *ℤ pos (2 ^ 120)) ≤ℤ ((n' +ℤ neg_ℤ n) +ℤ (pos (2 * step) *ℤ pos (2 ^ 120)))

down-finite : (n : ℤ) (l : Dyadic) → IsTrue (ext_at_most (finite l) (down (fine n))) → (r : Dyadic) × (down (fine n) ≡ finite r) × (l.units ≤ℤ r.units)
down-finite n l h = go (down (fine n)) refl (down_is (fine n) (fine_is_fraction n)) h
  where
    go : (e : Ext) → down (fine n) ≡ e → IsDown (fine n) e → IsTrue (ext_at_most (finite l) e) → (r : Dyadic) × (down (fine n) ≡ finite r) × (l.units ≤ℤ r.units)
    go (finite r) e d h = (r, e, exact_read l r h)
    go below_all e d h = absurd (true≢false (sym h))
    go above_all e d h = absurd d

up-finite : (n : ℤ) (l : Dyadic) → IsTrue (ext_at_most (up (fine n)) (finite l)) → (r : Dyadic) × (up (fine n) ≡ finite r) × (r.units ≤ℤ l.units)
up-finite n l h = go (up (fine n)) refl (up_is (fine n) (fine_is_fraction n)) h
  where
    go : (e : Ext) → up (fine n) ≡ e → IsUp (fine n) e → IsTrue (ext_at_most e (finite l)) → (r : Dyadic) × (up (fine n) ≡ finite r) × (r.units ≤ℤ l.units)
    go (finite r) e d h = (r, e, exact_read r l h)
    go above_all e d h = absurd (true≢false (sym h))
    go below_all e d h = absurd d

small-size : (n l h : ℤ) (m : ℕ) → nat_abs l ≤ m → nat_abs h ≤ m → (l *ℤ pos (2 ^ 120)) ≤ℤ n → n ≤ℤ (h *ℤ pos (2 ^ 120)) → nat_abs n ≤ m * 2 ^ 120
small-size n l h m a b i j = omega (arith, ints, read_below (times (atom l) (natural (2 ^ 120))) (atom n) i, read_below (atom n) (times (atom h) (natural (2 ^ 120))) j)

pub rounded_near : (n n' : ℤ) (root : Interval) (a : Dyadic) (m : ℕ) → n ≤ℤ n' → IsKept root → interval_size root ≡ finite a → a ≡ record { units = pos m } →
    IsTrue (within (between (down (fine n)) (up (fine n'))) root) → IsRounded n n' m
rounded_near n n' nothing a m o k e f w = absurd (true≢false (sym w))
rounded_near n n' (between l h) a m o k e f w =
    let s = sized l h a e in
    let same : s.0 ≡ m = (let q = ap (λ (d : Dyadic). nat_abs d.units) (sym s.1 ∙ f) in q) in
    let t = subst (λ (i : ℕ). IsSized l h i) same s.2 in
    let p = both_true (ext_at_most l (down (fine n))) (ext_at_most (up (fine n')) h) w in
    let low = down-finite n t.low (subst (λ (x : Ext). IsTrue (ext_at_most x (down (fine n)))) t.low_is p.0) in
    let high = up-finite n' t.high (subst (λ (x : Ext). IsTrue (ext_at_most (up (fine n')) x)) t.high_is p.1) in
    let step = step_of m (t.kept k.0 k.1) in
    let from = low_side n low.0 low.1 in
    let to = high_side n' high.0 high.1 in
    let up-to : n ≤ℤ (t.high.units *ℤ pos (2 ^ 120)) = through n n' high.0.units t.high.units o to high.2 in
    let down-to : (t.low.units *ℤ pos (2 ^ 120)) ≤ℤ n' = back n n' low.0.units t.low.units o from low.2 in
    let start : (t.low.units *ℤ pos (2 ^ 120)) ≤ℤ n = back n n low.0.units t.low.units (omega (arith, ints)) from low.2 in
    let stop : n' ≤ℤ (t.high.units *ℤ pos (2 ^ 120)) = through n' n' high.0.units t.high.units (omega (arith, ints)) to high.2 in
    let x = low_close n m step.0 low.0 step.1 (small-size n t.low.units t.high.units m t.low_size t.high_size start up-to) low.1 in
    let y = high_close n' m step.0 high.0 step.1 (small-size n' t.low.units t.high.units m t.low_size t.high_size down-to stop) high.1 in
    record {
      low = low.0;
      high = high.0;
      step = step.0;
      low_is = low.1;
      high_is = high.1;
      little = step.1.little;
      width = total n n' low.0.units high.0.units step.0 x y;
    }
  where
    through : (n n' r h : ℤ) → n ≤ℤ n' → n' ≤ℤ (r *ℤ pos (2 ^ 120)) → r ≤ℤ h → n ≤ℤ (h *ℤ pos (2 ^ 120))
    through n n' r h i j k = Ring.below (atom n) (times (atom h) (natural (2 ^ 120))) (omega (arith, read_below (atom n) (atom n') i, read_below (atom n') (times (atom r) (natural (2 ^ 120))) j, read_below (atom r) (atom h) k))

    back : (n n' r l : ℤ) → n ≤ℤ n' → (r *ℤ pos (2 ^ 120)) ≤ℤ n → l ≤ℤ r → (l *ℤ pos (2 ^ 120)) ≤ℤ n'
    back n n' r l i j k = Ring.below (times (atom l) (natural (2 ^ 120))) (atom n') (omega (arith, read_below (atom n) (atom n') i, read_below (times (atom r) (natural (2 ^ 120))) (atom n) j, read_below (atom l) (atom r) k))

    total : (n n' r r' : ℤ) (step : ℕ) → n ≤ℤ ((r +ℤ pos step) *ℤ pos (2 ^ 120)) → (r' *ℤ pos (2 ^ 120)) ≤ℤ (n' +ℤ (pos step *ℤ pos (2 ^ 120))) →
        ((r' +ℤ neg_ℤ r) *ℤ pos (2 ^ 120)) ≤ℤ ((n' +ℤ neg_ℤ n) +ℤ (pos (2 * step) *ℤ pos (2 ^ 120)))
    total n n' r r' step i j = Ring.below (times (plus (atom r') (minus (atom r))) (natural (2 ^ 120))) (plus (plus (atom n') (minus (atom n))) (times (natural (2 * step)) (natural (2 ^ 120))))
        (omega (arith, read_below (atom n) (times (plus (atom r) (natural step)) (natural (2 ^ 120))) i, read_below (times (atom r') (natural (2 ^ 120))) (plus (atom n') (times (natural step) (natural (2 ^ 120)))) j))

-- ---- widths

-- not below 0
abbrev pub IsPlus : Ext → Type 0
IsPlus below_all = ⊥
IsPlus (finite d) = pos 0 ≤ℤ d.units
IsPlus above_all = Unit {0}

up-fine : (n : ℤ) (r : Dyadic) → up (fine n) ≡ finite r → n ≤ℤ (r.units *ℤ pos (2 ^ 120))
up-fine = high_side

-- rounding up keeps what is not below 0
pub up-plus : (n : ℤ) → pos 0 ≤ℤ n → IsPlus (up (fine n))
up-plus n p = go (up (fine n)) refl
  where
    go : (e : Ext) → up (fine n) ≡ e → IsPlus e
    go (finite r) e = let k = high_side n r e in omega (arith, ints, read_below (atom n) (times (atom r.units) (natural (2 ^ 120))) k, p)
    go above_all e = tt
    go below_all e = let d : IsUp (fine n) below_all = subst (IsUp (fine n)) e (up_is (fine n) (fine_is_fraction n)) in absurd d

pub sum_plus : (v w : Ext) → IsPlus v → IsPlus w → IsPlus (width_sum v w)
sum_plus below_all w i j = absurd i
sum_plus (finite a) below_all i j = absurd j
sum_plus (finite a) (finite b) i j = subst (λ (q : Fraction). IsPlus (up q)) (sym (sum_is_fine a b)) (up-plus ((a.units *ℤ pos (2 ^ 120)) +ℤ (b.units *ℤ pos (2 ^ 120))) (both a.units b.units i j))
  where
    both : (a b : ℤ) → pos 0 ≤ℤ a → pos 0 ≤ℤ b → pos 0 ≤ℤ ((a *ℤ pos (2 ^ 120)) +ℤ (b *ℤ pos (2 ^ 120)))
    both a b i j = Ring.below (natural 0) (plus (times (atom a) (natural (2 ^ 120))) (times (atom b) (natural (2 ^ 120)))) (omega (arith, read_below (natural 0) (atom a) i, read_below (natural 0) (atom b) j))
sum_plus (finite a) above_all i j = tt
sum_plus above_all w i j = tt

-- the parts of a sum that is finite
pub record IsSumOf (v w : Ext) (r : Dyadic) : Type 0 where
  pub first : Dyadic
  pub second : Dyadic
  pub first_is : v ≡ finite first
  pub second_is : w ≡ finite second
  pub total : (first.units +ℤ second.units) ≤ℤ r.units

pub sum_finite : (v w : Ext) (r : Dyadic) → IsPlus v → IsPlus w → width_sum v w ≡ finite r → IsSumOf v w r
sum_finite below_all w r i j e = absurd i
sum_finite (finite a) below_all r i j e = absurd j
sum_finite (finite a) above_all r i j e = cc
sum_finite above_all w r i j e = cc
sum_finite (finite a) (finite b) r i j e = record {
  first = a;
  second = b;
  first_is = refl;
  second_is = refl;
  total = cut a.units b.units r.units (high_side ((a.units *ℤ pos (2 ^ 120)) +ℤ (b.units *ℤ pos (2 ^ 120))) r (ap up (sym (sum_is_fine a b)) ∙ e));
}
  where
    cut : (a b r : ℤ) → ((a *ℤ pos (2 ^ 120)) +ℤ (b *ℤ pos (2 ^ 120))) ≤ℤ (r *ℤ pos (2 ^ 120)) → (a +ℤ b) ≤ℤ r
    cut a b r h = Ring.below (plus (atom a) (atom b)) (atom r) (omega (arith, read_below (plus (times (atom a) (natural (2 ^ 120))) (times (atom b) (natural (2 ^ 120)))) (times (atom r) (natural (2 ^ 120))) h))

abbrev pub zero_dyadic : Dyadic
zero_dyadic = record { units = pos 0 }

-- the parts of a product that is finite: two numbers, or 0 and an infinity
pub record IsProductOf (v w : Ext) (r : Dyadic) : Type 0 where
  pub first : Dyadic
  pub second : Dyadic
  pub first_is : v ≡ finite first
  pub second_is : w ≡ finite second
  pub total : (first.units *ℤ second.units) ≤ℤ (r.units *ℤ pos (2 ^ 120))

zero-or : (a r : Dyadic) → pos 0 ≤ℤ a.units → rounded_up (infinite (sign_of a.units) above) ≡ finite r → finite a ≡ finite zero_dyadic
zero-or a r p e = by a.units refl p e
  where
    by : (z : ℤ) → a.units ≡ z → pos 0 ≤ℤ z → rounded_up (infinite (sign_of z) above) ≡ finite r → finite a ≡ finite zero_dyadic
    by (pos zero) f p e = ap (λ z. finite (record { units = z })) f
    by (pos (suc n)) f p e = cc
    by (negsuc n) f p e = absurd (omega (arith, ints, p))

other-zero : (a r : Dyadic) → pos 0 ≤ℤ a.units → rounded_up (infinite above (sign_of a.units)) ≡ finite r → finite a ≡ finite zero_dyadic
other-zero a r p e = by a.units refl p e
  where
    by : (z : ℤ) → a.units ≡ z → pos 0 ≤ℤ z → rounded_up (infinite above (sign_of z)) ≡ finite r → finite a ≡ finite zero_dyadic
    by (pos zero) f p e = ap (λ z. finite (record { units = z })) f
    by (pos (suc n)) f p e = cc
    by (negsuc n) f p e = absurd (omega (arith, ints, p))

pub product_finite : (v w : Ext) (r : Dyadic) → IsPlus v → IsPlus w → width_product v w ≡ finite r → IsProductOf v w r ⊎ (((v ≡ finite zero_dyadic) × (w ≡ above_all)) ⊎ ((v ≡ above_all) × (w ≡ finite zero_dyadic)))
product_finite below_all w r i j e = absurd i
product_finite (finite a) below_all r i j e = absurd j
product_finite above_all below_all r i j e = absurd j
product_finite above_all above_all r i j e = cc
product_finite (finite a) above_all r i j e = inr (inl (zero-or a r i e, refl))
product_finite above_all (finite b) r i j e = inr (inr (refl, other-zero b r j e))
product_finite (finite a) (finite b) r i j e = inl (record {
  first = a;
  second = b;
  first_is = refl;
  second_is = refl;
  total = high_side (a.units *ℤ b.units) r (ap up (sym (product_is_fine a b)) ∙ e);
})

sign-plus : (z : ℤ) → pos 0 ≤ℤ z → IsPlus (rounded_up (infinite (sign_of z) above)) × IsPlus (rounded_up (infinite above (sign_of z)))
sign-plus (pos zero) p = (omega (arith, ints), omega (arith, ints))
sign-plus (pos (suc n)) p = (tt, tt)
sign-plus (negsuc n) p = absurd (omega (arith, ints, p))

pub product_plus : (v w : Ext) → IsPlus v → IsPlus w → IsPlus (width_product v w)
product_plus below_all w i j = absurd i
product_plus (finite a) below_all i j = absurd j
product_plus above_all below_all i j = absurd j
product_plus above_all above_all i j = tt
product_plus (finite a) above_all i j = (sign-plus a.units i).0
product_plus above_all (finite b) i j = (sign-plus b.units j).1
product_plus (finite a) (finite b) i j = subst (λ (q : Fraction). IsPlus (up q)) (sym (product_is_fine a b)) (up-plus (a.units *ℤ b.units) (both a.units b.units i j))
  where
    both : (a b : ℤ) → pos 0 ≤ℤ a → pos 0 ≤ℤ b → pos 0 ≤ℤ (a *ℤ b)
    both (pos m) (pos n) i j = Ring.below (natural 0) (times (natural m) (natural n)) (omega arith)
    both (negsuc m) b i j = absurd (omega (arith, ints, i))
    both (pos m) (negsuc n) i j = absurd (omega (arith, ints, j))

-- ---- the size of an interval, and what rounding adds

pub size_plus : (i : Interval) → IsPlus (interval_size i)
size_plus nothing = omega (arith, ints)
size_plus (between l h) = go (ext_at_most (end_size l) (end_size h))
  where
    one : (e : Ext) → IsPlus (end_size e)
    one below_all = tt
    one (finite d) = omega (arith, ints)
    one above_all = tt

    go : (t : Bool) → IsPlus (cond t (end_size h) (end_size l))
    go true = one h
    go false = one l

pub rounding_plus : (size : Ext) → IsPlus size → IsPlus (rounding_width size)
rounding_plus size p = sum_plus (width_product size (finite (two_to_minus 60))) (finite (two_to_minus 119)) (product_plus size (finite (two_to_minus 60)) p (omega (arith, ints))) (omega (arith, ints))

-- where what rounding adds is finite, so is the size, and it is two steps at least
pub rounding_finite : (size : Ext) (e : Dyadic) → IsPlus size → rounding_width size ≡ finite e →
    (a : Dyadic) × (size ≡ finite a) × ((m step : ℕ) → a ≡ record { units = pos m } → step * 2 ^ 61 ≤ m + 2 ^ 61 → pos (2 * step) ≤ℤ e.units)
rounding_finite below_all e p h = absurd p
rounding_finite above_all e p h = cc
rounding_finite (finite a) e p h = (a, refl, λ m step f g. go m step f g)
  where
    s : IsSumOf (width_product (finite a) (finite (two_to_minus 60))) (finite (two_to_minus 119)) e
    s = sum_finite (width_product (finite a) (finite (two_to_minus 60))) (finite (two_to_minus 119)) e (product_plus (finite a) (finite (two_to_minus 60)) p (omega (arith, ints))) (omega (arith, ints)) h

    two-is : s.second.units ≡ pos 2
    two-is = sym (ap (λ (x : Ext). (dyadic_or a x).units) s.second_is)

    first-is : (a.units *ℤ pos (2 ^ 60)) ≤ℤ (s.first.units *ℤ pos (2 ^ 120))
    first-is = high_side (a.units *ℤ pos (2 ^ 60)) s.first (ap up (sym (product_is_fine a (two_to_minus 60))) ∙ s.first_is)

    numbers : (m step : ℕ) (f e : ℤ) → (pos m *ℤ pos (2 ^ 60)) ≤ℤ (f *ℤ pos (2 ^ 120)) → (f +ℤ pos 2) ≤ℤ e → step * 2 ^ 61 ≤ m + 2 ^ 61 → pos (2 * step) ≤ℤ e
    numbers m step f e i j g = Ring.below (natural (2 * step)) (atom e)
        (omega (arith, read_below (times (natural m) (natural (2 ^ 60))) (times (atom f) (natural (2 ^ 120))) i, read_below (plus (atom f) (natural 2)) (atom e) j, g))

    go : (m step : ℕ) → a ≡ record { units = pos m } → step * 2 ^ 61 ≤ m + 2 ^ 61 → pos (2 * step) ≤ℤ e.units
    go m step f g = numbers m step s.first.units e.units (subst (λ (d : Dyadic). (d.units *ℤ pos (2 ^ 60)) ≤ℤ (s.first.units *ℤ pos (2 ^ 120))) f first-is)
        (subst (λ (z : ℤ). (s.first.units +ℤ z) ≤ℤ e.units) two-is s.total) g

-- a number of units of 2^-240 that is at most a number
pub coarse : (n : ℤ) (r : Dyadic) → IsTrue (at_most (fine n) (exact r)) → n ≤ℤ (r.units *ℤ pos (2 ^ 120))
coarse n r k = Ring.below (atom n) (times (atom r.units) (natural (2 ^ 120))) (omega (arith, read_below (times (atom n) (natural (2 ^ 120))) (times (atom r.units) (natural (2 ^ 120 * 2 ^ 120))) (at_most_read (fine n) (exact r) k)))
