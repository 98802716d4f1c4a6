-- Over a part of the box with small sides each term's enclosure is as narrow as its width says.
use Rattle.std.proofs.Common.{◌≡◌, ℕ, ◌*◌, ◌^◌, arith, refl, sym, ap, ap₂, ◌∙◌, subst, IsTrue, ℤ, pos, neg_ℤ, ◌+ℤ◌, ◌*ℤ◌, ◌≤ℤ◌}
use Rattle.dyadic.specs.Fraction.{Fraction}
use Rattle.dyadic.specs.Rounding.{Dyadic, exact, IsRepresentable, IsOnGrid, End, minus_infinity, at, plus_infinity, Ext, below_all, finite, above_all, end_of, end_at_most, ext_at_most, down, up, positive, two_to_minus}
use Rattle.dyadic.proofs.Ring
use Rattle.dyadic.proofs.Ring.{atom, natural, plus, minus, times, read_below}
use Rattle.dyadic.proofs.Rounds.{exact_read}
use Rattle.interval_model.specs.Interval.{Interval, nothing, between, IsKept, IsProper, within, interval_sum}
use Rattle.width_plan.specs.Width.{interval_size, width_sum, rounding_width}
use Rattle.width_plan.proofs.Ends.{fine, sum_is_fine, sized, rounded_near, IsPlus, sum_plus, size_plus, rounding_plus, sum_finite, rounding_finite}

-- The interval is empty, or its ends are numbers at most v apart; an infinite width says nothing.
abbrev pub IsNarrow : Interval → Ext → Type 0
IsNarrow i below_all = ⊥
IsNarrow i above_all = Unit {0}
IsNarrow nothing (finite v) = Unit {0}
IsNarrow (between (finite l) (finite h)) (finite v) = (h.units +ℤ neg_ℤ l.units) ≤ℤ v.units
IsNarrow (between l h) (finite v) = ⊥

-- the two numbers
pub record AreEnds (l h : Ext) (v : Dyadic) : Type 0 where
  pub low : Dyadic
  pub high : Dyadic
  pub low_is : l ≡ finite low
  pub high_is : h ≡ finite high
  pub apart : (high.units +ℤ neg_ℤ low.units) ≤ℤ v.units

pub ends_of_narrow : (l h : Ext) (v : Dyadic) → IsNarrow (between l h) (finite v) → AreEnds l h v
ends_of_narrow (finite l) (finite h) v n = record { low = l; high = h; low_is = refl; high_is = refl; apart = n }
ends_of_narrow (finite l) below_all v n = absurd n
ends_of_narrow (finite l) above_all v n = absurd n
ends_of_narrow below_all h v n = absurd n
ends_of_narrow above_all h v n = absurd n

-- what is known of a term: its width is not below 0, its enclosure over the part is as narrow, and where the width is a number so
-- is the size over the box
pub record IsWide (here box : Interval) (w : Ext) : Type 0 where
  pub plus : IsPlus w
  pub narrow : IsNarrow here w
  pub bounded : (v : Dyadic) → w ≡ finite v → (a : Dyadic) × (interval_size box ≡ finite a)

-- ---- two ends that are rounded

module _ (n n' k : ℤ) (box : Interval) (o : n ≤ℤ n') (kept : IsKept box) (w : IsTrue (within (between (down (fine n)) (up (fine n'))) box)) (apart : (n' +ℤ neg_ℤ n) ≤ℤ (k *ℤ pos (2 ^ 120))) where
  cut : (l h k e r : ℤ) (step : ℕ) → ((h +ℤ neg_ℤ l) *ℤ pos (2 ^ 120)) ≤ℤ ((n' +ℤ neg_ℤ n) +ℤ (pos (2 * step) *ℤ pos (2 ^ 120))) → (n' +ℤ neg_ℤ n) ≤ℤ (k *ℤ pos (2 ^ 120)) →
      pos (2 * step) ≤ℤ e → (k +ℤ e) ≤ℤ r → (h +ℤ neg_ℤ l) ≤ℤ r
  cut l h k e r step i j f g = Ring.below (plus (atom h) (minus (atom l))) (atom r)
      (omega (
        arith,
        read_below (times (plus (atom h) (minus (atom l))) (natural (2 ^ 120))) (plus (plus (atom n') (minus (atom n))) (times (natural (2 * step)) (natural (2 ^ 120)))) i,
        read_below (plus (atom n') (minus (atom n))) (times (atom k) (natural (2 ^ 120))) j,
        read_below (natural (2 * step)) (atom e) f,
        read_below (plus (atom k) (atom e)) (atom r) g,
      ))

  pub rounded_narrow : (e r : Dyadic) → rounding_width (interval_size box) ≡ finite e → (k +ℤ e.units) ≤ℤ r.units → IsNarrow (between (down (fine n)) (up (fine n'))) (finite r)
  rounded_narrow e r f g =
      let b = rounding_finite (interval_size box) e (size_plus box) f in
      let m = size-number box b.0 b.1 in
      let s = rounded_near n n' box b.0 m.0 o kept b.1 m.1 w in
      subst (λ (x : Ext). IsNarrow (between x (up (fine n'))) (finite r)) (sym s.low_is)
      (subst (λ (x : Ext). IsNarrow (between (finite s.low) x) (finite r)) (sym s.high_is) (cut s.low.units s.high.units k e.units r.units s.step s.width apart (b.2 m.0 s.step m.1 s.little) g))
    where
      size-number : (box : Interval) (a : Dyadic) → interval_size box ≡ finite a → (m : ℕ) × (a ≡ record { units = pos m })
      size-number nothing a e = (0, sym (ap (λ (x : Ext). (Rattle.dyadic.specs.Rounding.dyadic_or a x)) e))
      size-number (between l h) a e = let s = sized l h a e in (s.0, s.1)

-- ---- sums

order-of : (l h : Dyadic) → IsProper (between (finite l) (finite h)) → l.units ≤ℤ h.units
order-of l h p = exact_read l h p.0

sum-order : (l h l' h' : ℤ) → l ≤ℤ h → l' ≤ℤ h' → ((l *ℤ pos (2 ^ 120)) +ℤ (l' *ℤ pos (2 ^ 120))) ≤ℤ ((h *ℤ pos (2 ^ 120)) +ℤ (h' *ℤ pos (2 ^ 120)))
sum-order l h l' h' i j = Ring.below (plus (times (atom l) (natural (2 ^ 120))) (times (atom l') (natural (2 ^ 120)))) (plus (times (atom h) (natural (2 ^ 120))) (times (atom h') (natural (2 ^ 120))))
    (omega (arith, read_below (atom l) (atom h) i, read_below (atom l') (atom h') j))

sum-apart : (l h l' h' a b : ℤ) → (h +ℤ neg_ℤ l) ≤ℤ a → (h' +ℤ neg_ℤ l') ≤ℤ b →
    (((h *ℤ pos (2 ^ 120)) +ℤ (h' *ℤ pos (2 ^ 120))) +ℤ neg_ℤ ((l *ℤ pos (2 ^ 120)) +ℤ (l' *ℤ pos (2 ^ 120)))) ≤ℤ ((a +ℤ b) *ℤ pos (2 ^ 120))
sum-apart l h l' h' a b i j =
    Ring.below (plus (plus (times (atom h) (natural (2 ^ 120))) (times (atom h') (natural (2 ^ 120)))) (minus (plus (times (atom l) (natural (2 ^ 120))) (times (atom l') (natural (2 ^ 120))))))
    (times (plus (atom a) (atom b)) (natural (2 ^ 120)))
    (omega (arith, read_below (plus (atom h) (minus (atom l))) (atom a) i, read_below (plus (atom h') (minus (atom l'))) (atom b) j))

sum-total : (a b m e r : ℤ) → (a +ℤ b) ≤ℤ m → (m +ℤ e) ≤ℤ r → ((a +ℤ b) +ℤ e) ≤ℤ r
sum-total a b m e r i j = Ring.below (plus (plus (atom a) (atom b)) (atom e)) (atom r) (omega (arith, read_below (plus (atom a) (atom b)) (atom m) i, read_below (plus (atom m) (atom e)) (atom r) j))

sum-here : (i j box : Interval) (a b m e r : Dyadic) → IsNarrow i (finite a) → IsNarrow j (finite b) → IsProper i → IsProper j → IsKept box → IsTrue (within (interval_sum i j) box) →
    rounding_width (interval_size box) ≡ finite e → (a.units +ℤ b.units) ≤ℤ m.units → (m.units +ℤ e.units) ≤ℤ r.units → IsNarrow (interval_sum i j) (finite r)
sum-here nothing j box a b m e r x y p q k w f g h = tt
sum-here (between l u) nothing box a b m e r x y p q k w f g h = tt
sum-here (between l u) (between l' u') box a b m e r x y p q k w f g h =
    let s = ends_of_narrow l u a x in let t = ends_of_narrow l' u' b y in
    let first : between l u ≡ between (finite s.low) (finite s.high) = ap₂ between s.low_is s.high_is in
    let second : between l' u' ≡ between (finite t.low) (finite t.high) = ap₂ between t.low_is t.high_is in
    let is : interval_sum (between l u) (between l' u') ≡ between (down (fine (low-sum s t))) (up (fine (high-sum s t))) =
    ap₂ interval_sum first second ∙ ap₂ (λ (x y : Fraction). between (down x) (up y)) (sum_is_fine s.low t.low) (sum_is_fine s.high t.high) in
    subst (λ (x : Interval). IsNarrow x (finite r)) (sym is)
    (rounded_narrow (low-sum s t) (high-sum s t) (a.units +ℤ b.units) box
    (sum-order s.low.units s.high.units t.low.units t.high.units (order-of s.low s.high (subst IsProper first p)) (order-of t.low t.high (subst IsProper second q))) k
    (subst (λ (x : Interval). IsTrue (within x box)) is w)
    (sum-apart s.low.units s.high.units t.low.units t.high.units a.units b.units s.apart t.apart) e r f (sum-total a.units b.units m.units e.units r.units g h))
  where
    low-sum : {l u l' u' : Ext} {a b : Dyadic} → AreEnds l u a → AreEnds l' u' b → ℤ
    low-sum s t = (s.low.units *ℤ pos (2 ^ 120)) +ℤ (t.low.units *ℤ pos (2 ^ 120))

    high-sum : {l u l' u' : Ext} {a b : Dyadic} → AreEnds l u a → AreEnds l' u' b → ℤ
    high-sum s t = (s.high.units *ℤ pos (2 ^ 120)) +ℤ (t.high.units *ℤ pos (2 ^ 120))

pub sum_wide : (i j ibox jbox box : Interval) (v w : Ext) → IsWide i ibox v → IsWide j jbox w → IsProper i → IsProper j → IsKept box → IsTrue (within (interval_sum i j) box) →
    IsWide (interval_sum i j) box (width_sum (width_sum v w) (rounding_width (interval_size box)))
sum_wide i j ibox jbox box v w x y p q k in_box = record { plus = total; narrow = narrow (width_sum both added) refl total; bounded = bounded }
  where
    both : Ext
    both = width_sum v w

    added : Ext
    added = rounding_width (interval_size box)

    both-plus : IsPlus both
    both-plus = sum_plus v w x.plus y.plus

    added-plus : IsPlus added
    added-plus = rounding_plus (interval_size box) (size_plus box)

    total : IsPlus (width_sum both added)
    total = sum_plus both added both-plus added-plus

    narrow : (t : Ext) → width_sum both added ≡ t → IsPlus t → IsNarrow (interval_sum i j) t
    narrow below_all e f = absurd f
    narrow above_all e f = tt
    narrow (finite r) e f =
        let s = sum_finite both added r both-plus added-plus e in let t = sum_finite v w s.first x.plus y.plus s.first_is in
        sum-here i j box t.first t.second s.first s.second r (subst (IsNarrow i) t.first_is x.narrow) (subst (IsNarrow j) t.second_is y.narrow) p q k in_box s.second_is t.total s.total

    bounded : (r : Dyadic) → width_sum both added ≡ finite r → (a : Dyadic) × (interval_size box ≡ finite a)
    bounded r e = let s = sum_finite both added r both-plus added-plus e in let b = rounding_finite (interval_size box) s.second (size_plus box) s.second_is in (b.0, b.1)
