-- The widths of products and squares.
use Rattle.std.proofs.Common.{◌≡◌, inl, inr, ℕ, ◌^◌, ◌≤◌, arith, refl, sym, ap, ap₂, ◌∙◌, subst, IsTrue, true≢false, ℤ, pos, neg_ℤ, nat_abs, ◌+ℤ◌, ◌*ℤ◌, ◌≤ℤ◌}
use Rattle.std.proofs.lemmas.Int.{ints}
use Rattle.dyadic.specs.Rounding.{Dyadic, End, Ext, below_all, finite, above_all, ext_at_most, down, up, dyadic_or}
use Rattle.dyadic.specs.End.{rounded_down, rounded_up}
use Rattle.dyadic.proofs.Equal.{both_true}
use Rattle.dyadic.proofs.Ring
use Rattle.dyadic.proofs.Ring.{atom, natural, plus, minus, times, read_below}
use Rattle.dyadic.proofs.Rounds.{exact_read}
use Rattle.interval_model.specs.Interval.{Interval, nothing, between, IsKept, IsProper, within, interval_product}
use Rattle.cover_model.specs.Combination.{nought_alone}
use Rattle.cover_model.proofs.CombinationNoughts.{product_nought, nought_product}
use Rattle.width_plan.specs.Width.{interval_size, width_sum, width_product, rounding_width}
use Rattle.width_plan.proofs.Ends.{fine, IsSized, sized, IsPlus, sum_plus, product_plus, size_plus, rounding_plus, sum_finite, product_finite, zero_dyadic, rounding_finite}
use Rattle.width_plan.proofs.Products.{IsUpTo, IsIn, products_apart, least_corner, greatest_corner, corners_in_order}
use Rattle.width_plan.proofs.Narrow.{IsNarrow, ends_of_narrow, IsWide, rounded_narrow}

-- ---- sizes of the ends of what lies within an interval of a given size

size-number : (box : Interval) (a : Dyadic) → interval_size box ≡ finite a → (m : ℕ) × (a ≡ record { units = pos m })
size-number nothing a e = (0, sym (ap (λ (x : Ext). dyadic_or a x) e))
size-number (between l h) a e = let s = sized l h a e in (s.0, s.1)

up-to-size : (l h x y : ℤ) (m : ℕ) → nat_abs x ≤ m → nat_abs y ≤ m → x ≤ℤ l → h ≤ℤ y → l ≤ℤ h → IsUpTo l (pos m) × IsUpTo h (pos m)
up-to-size l h x y m i j f g o = (record { least = omega (arith, ints); most = omega (arith, ints) }, record { least = omega (arith, ints); most = omega (arith, ints) })

pub within_size : (l h : Dyadic) (box : Interval) (a : Dyadic) → IsProper (between (finite l) (finite h)) → IsTrue (within (between (finite l) (finite h)) box) → interval_size box ≡ finite a →
    (l.units ≤ℤ h.units) × IsUpTo l.units a.units × IsUpTo h.units a.units
within_size l h nothing a p w e = absurd (true≢false (sym w))
within_size l h (between x y) a p w e =
    let s = sized x y a e in let t = s.2 in
    let k = both_true (ext_at_most x (finite l)) (ext_at_most (finite h) y) w in
    let o = exact_read l h p.0 in
    let from = exact_read t.low l (subst (λ (z : Ext). IsTrue (ext_at_most z (finite l))) t.low_is k.0) in
    let to = exact_read h t.high (subst (λ (z : Ext). IsTrue (ext_at_most (finite h) z)) t.high_is k.1) in
    let u = up-to-size l.units h.units t.low.units t.high.units s.0 t.low_size t.high_size from to o in
    (o, subst (λ (d : Dyadic). IsUpTo l.units d.units) (sym s.1) u.0, subst (λ (d : Dyadic). IsUpTo h.units d.units) (sym s.1) u.1)

-- within an interval of size 0 only 0 lies
no-size : (box : Interval) (l h : Ext) → IsProper (between l h) → IsTrue (within (between l h) box) → interval_size box ≡ finite zero_dyadic → between l h ≡ nought_alone
no-size nothing l h p w e = absurd (true≢false (sym w))
no-size (between x y) l h p w e = by l h p w
  where
    s : (m : ℕ) × (zero_dyadic ≡ record { units = pos m }) × IsSized x y m
    s = sized x y zero_dyadic e

    none : s.0 ≡ 0
    none = sym (ap (λ (d : Dyadic). nat_abs d.units) s.1)

    from-x : (z : Ext) → IsTrue (ext_at_most x z) → IsTrue (ext_at_most (finite s.2.low) z)
    from-x z h = subst (λ (v : Ext). IsTrue (ext_at_most v z)) s.2.low_is h

    to-y : (z : Ext) → IsTrue (ext_at_most z y) → IsTrue (ext_at_most z (finite s.2.high))
    to-y z h = subst (λ (v : Ext). IsTrue (ext_at_most z v)) s.2.high_is h

    numbers : (l h x y : ℤ) (m : ℕ) → m ≡ 0 → nat_abs x ≤ m → nat_abs y ≤ m → x ≤ℤ l → h ≤ℤ y → l ≤ℤ h → (l ≡ pos 0) × (h ≡ pos 0)
    numbers l h x y m e i j f g o = (omega (arith, ints), omega (arith, ints))

    by : (l h : Ext) → IsProper (between l h) → IsTrue (within (between l h) (between x y)) → between l h ≡ nought_alone
    by (finite l) (finite h) p w =
        let k = both_true (ext_at_most x (finite l)) (ext_at_most (finite h) y) w in
        let n = numbers l.units h.units s.2.low.units s.2.high.units s.0 none s.2.low_size s.2.high_size (exact_read s.2.low l (from-x (finite l) k.0)) (exact_read h s.2.high (to-y (finite h) k.1)) (exact_read l h p.0) in
        ap₂ (λ (i j : ℤ). between (finite (record { units = i })) (finite (record { units = j }))) n.0 n.1
    by below_all h p w = let k = both_true (ext_at_most x below_all) (ext_at_most h y) w in absurd (true≢false (sym (from-x below_all k.0)))
    by above_all h p w = absurd p.1
    by (finite l) below_all p w = absurd p.2
    by (finite l) above_all p w = let k = both_true (ext_at_most x (finite l)) (ext_at_most above_all y) w in absurd (true≢false (sym (to-y above_all k.1)))

nought-narrow : (r : Dyadic) → pos 0 ≤ℤ r.units → IsNarrow nought_alone (finite r)
nought-narrow r p = less r.units p
  where
    less : (z : ℤ) → pos 0 ≤ℤ z → (pos 0 +ℤ neg_ℤ (pos 0)) ≤ℤ z
    less z h = Ring.below (plus (natural 0) (minus (natural 0))) (atom z) (omega (arith, read_below (natural 0) (atom z) h))

-- ---- products

product-nought-first : (i j box : Interval) (r : Dyadic) → IsProper i → IsTrue (within i box) → interval_size box ≡ finite zero_dyadic → pos 0 ≤ℤ r.units → IsNarrow (interval_product i j) (finite r)
product-nought-first nothing j box r p w e f = tt
product-nought-first (between l h) nothing box r p w e f = tt
product-nought-first (between l h) (between l' h') box r p w e f =
    subst (λ (x : Interval). IsNarrow x (finite r)) (sym (ap (λ (i : Interval). interval_product i (between l' h')) (no-size box l h p w e) ∙ nought_product (between l' h') refl)) (nought-narrow r f)

product-nought-second : (i j box : Interval) (r : Dyadic) → IsProper j → IsTrue (within j box) → interval_size box ≡ finite zero_dyadic → pos 0 ≤ℤ r.units → IsNarrow (interval_product i j) (finite r)
product-nought-second nothing j box r p w e f = tt
product-nought-second (between l h) nothing box r p w e f = tt
product-nought-second (between l h) (between l' h') box r p w e f =
    subst (λ (x : Interval). IsNarrow x (finite r)) (sym (ap (λ (i : Interval). interval_product (between l h) i) (no-size box l' h' p w e) ∙ product_nought (between l h) refl)) (nought-narrow r f)

product-total : (n n' a b m m' f g k : ℤ) → (n' +ℤ neg_ℤ n) ≤ℤ ((m *ℤ b) +ℤ (m' *ℤ a)) → (m *ℤ b) ≤ℤ (f *ℤ pos (2 ^ 120)) → (m' *ℤ a) ≤ℤ (g *ℤ pos (2 ^ 120)) → (f +ℤ g) ≤ℤ k → (n' +ℤ neg_ℤ n) ≤ℤ (k *ℤ pos (2 ^ 120))
product-total n n' a b m m' f g k i j l h = Ring.below (plus (atom n') (minus (atom n))) (times (atom k) (natural (2 ^ 120)))
    (omega (
      arith,
      read_below (plus (atom n') (minus (atom n))) (plus (times (atom m) (atom b)) (times (atom m') (atom a))) i,
      read_below (times (atom m) (atom b)) (times (atom f) (natural (2 ^ 120))) j,
      read_below (times (atom m') (atom a)) (times (atom g) (natural (2 ^ 120))) l,
      read_below (plus (atom f) (atom g)) (atom k) h,
    ))

up-to-in : (l h x m : ℤ) → IsUpTo l m → IsUpTo h m → IsIn l h x → IsUpTo x m
up-to-in l h x m u v i = record {
  least = Ring.below (minus (atom m)) (atom x) (omega (arith, read_below (minus (atom m)) (atom l) u.least, read_below (atom l) (atom x) i.from));
  most = Ring.below (atom x) (atom m) (omega (arith, read_below (atom h) (atom m) v.most, read_below (atom x) (atom h) i.to));
}

module _ (ibox jbox box : Interval) (kept : IsKept box) (m m' a b f g k e r : Dyadic) (size : interval_size ibox ≡ finite m) (size' : interval_size jbox ≡ finite m')
    (mb : (m.units *ℤ b.units) ≤ℤ (f.units *ℤ pos (2 ^ 120))) (ma : (m'.units *ℤ a.units) ≤ℤ (g.units *ℤ pos (2 ^ 120)))
    (fg : (f.units +ℤ g.units) ≤ℤ k.units) (rounding : rounding_width (interval_size box) ≡ finite e) (ke : (k.units +ℤ e.units) ≤ℤ r.units) where
  product-at : (l h l' h' : Dyadic) → IsProper (between (finite l) (finite h)) → IsProper (between (finite l') (finite h')) →
      IsTrue (within (between (finite l) (finite h)) ibox) → IsTrue (within (between (finite l') (finite h')) jbox) → (h.units +ℤ neg_ℤ l.units) ≤ℤ a.units → (h'.units +ℤ neg_ℤ l'.units) ≤ℤ b.units →
      IsTrue (within (interval_product (between (finite l) (finite h)) (between (finite l') (finite h'))) box) → IsNarrow (interval_product (between (finite l) (finite h)) (between (finite l') (finite h'))) (finite r)
  product-at l h l' h' p q w w' d d' in_box =
      let s = within_size l h ibox m p w size in let t = within_size l' h' jbox m' q w' size' in
      let low = least_corner l h l' h' s.0 t.0 in let high = greatest_corner l h l' h' s.0 t.0 in
      let is : interval_product (between (finite l) (finite h)) (between (finite l') (finite h')) ≡ between (down (fine (low.x *ℤ low.y))) (up (fine (high.x *ℤ high.y))) =
      ap₂ (λ (x y : End). between (rounded_down x) (rounded_up y)) low.is high.is in
      subst (λ (x : Interval). IsNarrow x (finite r)) (sym is)
      (rounded_narrow (low.x *ℤ low.y) (high.x *ℤ high.y) k.units box (corners_in_order l h l' h' s.0 t.0) kept (subst (λ (x : Interval). IsTrue (within x box)) is in_box)
      (product-total (low.x *ℤ low.y) (high.x *ℤ high.y) a.units b.units m.units m'.units f.units g.units k.units
      (products_apart l.units h.units l'.units h'.units a.units b.units m.units m'.units high.x high.y low.x low.y d d' high.x_in high.y_in low.x_in low.y_in
      (up-to-in l.units h.units high.x m.units s.1 s.2 high.x_in) (up-to-in l'.units h'.units low.y m'.units t.1 t.2 low.y_in)) mb ma fg) e r rounding ke)

  pub product_here : (i j : Interval) → IsNarrow i (finite a) → IsNarrow j (finite b) → IsProper i → IsProper j → IsTrue (within i ibox) → IsTrue (within j jbox) → IsTrue (within (interval_product i j) box) →
      IsNarrow (interval_product i j) (finite r)
  product_here nothing j x y p q w w' in_box = tt
  product_here (between l h) nothing x y p q w w' in_box = tt
  product_here (between l h) (between l' h') x y p q w w' in_box =
      let s = ends_of_narrow l h a x in let t = ends_of_narrow l' h' b y in
      let one : between l h ≡ between (finite s.low) (finite s.high) = ap₂ between s.low_is s.high_is in
      let other : between l' h' ≡ between (finite t.low) (finite t.high) = ap₂ between t.low_is t.high_is in
      subst (λ (x : Interval). IsNarrow x (finite r)) (sym (ap₂ interval_product one other))
      (product-at s.low s.high t.low t.high (subst IsProper one p) (subst IsProper other q) (subst (λ (x : Interval). IsTrue (within x ibox)) one w) (subst (λ (x : Interval). IsTrue (within x jbox)) other w') s.apart t.apart
      (subst (λ (x : Interval). IsTrue (within x box)) (ap₂ interval_product one other) in_box))

-- a finite width comes with a finite size
not-infinite : (box here : Interval) (w : Ext) (v : Dyadic) → IsWide here box w → w ≡ finite v → interval_size box ≡ above_all → ⊥
not-infinite box here w v x e f = let b = x.bounded v e in differ b.0 (sym b.1 ∙ f)
  where
    differ : (a : Dyadic) → finite a ≡ above_all → ⊥
    differ a e = cc

pub product_wide : (i j ibox jbox box : Interval) (v w : Ext) → IsWide i ibox v → IsWide j jbox w → IsProper i → IsProper j → IsKept box →
    IsTrue (within i ibox) → IsTrue (within j jbox) → IsTrue (within (interval_product i j) box) →
    IsWide (interval_product i j) box (width_sum (width_sum (width_product (interval_size ibox) w) (width_product (interval_size jbox) v)) (rounding_width (interval_size box)))
product_wide i j ibox jbox box v w x y p q k in_i in_j in_box = record { plus = total; narrow = narrow (width_sum both added) refl total; bounded = bounded }
  where
    one : Ext
    one = width_product (interval_size ibox) w

    other : Ext
    other = width_product (interval_size jbox) v

    both : Ext
    both = width_sum one other

    added : Ext
    added = rounding_width (interval_size box)

    one-plus : IsPlus one
    one-plus = product_plus (interval_size ibox) w (size_plus ibox) y.plus

    other-plus : IsPlus other
    other-plus = product_plus (interval_size jbox) v (size_plus jbox) x.plus

    both-plus : IsPlus both
    both-plus = sum_plus one other one-plus other-plus

    added-plus : IsPlus added
    added-plus = rounding_plus (interval_size box) (size_plus box)

    total : IsPlus (width_sum both added)
    total = sum_plus both added both-plus added-plus

    bounded : (r : Dyadic) → width_sum both added ≡ finite r → (a : Dyadic) × (interval_size box ≡ finite a)
    bounded r e = let s = sum_finite both added r both-plus added-plus e in let b = rounding_finite (interval_size box) s.second (size_plus box) s.second_is in (b.0, b.1)

    narrow : (t : Ext) → width_sum both added ≡ t → IsPlus t → IsNarrow (interval_product i j) t
    narrow below_all e f = absurd f
    narrow above_all e f = tt
    narrow (finite r) e f =
        let s = sum_finite both added r both-plus added-plus e in let t = sum_finite one other s.first one-plus other-plus s.first_is in
        elim (product_finite (interval_size ibox) w t.first (size_plus ibox) y.plus t.first_is) [
          | inr (inl z) ↦ product-nought-first i j ibox r p in_i z.0 f
          | inr (inr z) ↦ elim (product_finite (interval_size jbox) v t.second (size_plus jbox) x.plus t.second_is) [
            | inl c ↦ absurd (not-infinite ibox i v c.second x c.second_is z.0)
            | inr (inl d) ↦ product-nought-second i j jbox r q in_j d.0 f
            | inr (inr d) ↦ absurd (not-infinite ibox i v zero_dyadic x d.1 z.0)
          ]
          | inl c ↦ elim (product_finite (interval_size jbox) v t.second (size_plus jbox) x.plus t.second_is) [
            | inl d ↦ product_here ibox jbox box k c.first d.first d.second c.second t.first t.second s.first s.second r c.first_is d.first_is c.total d.total t.total s.second_is s.total
                i j (subst (IsNarrow i) d.second_is x.narrow) (subst (IsNarrow j) c.second_is y.narrow) p q in_i in_j in_box
            | inr (inl d) ↦ product-nought-second i j jbox r q in_j d.0 f
            | inr (inr d) ↦ absurd (not-infinite jbox j w c.second y c.second_is d.0)
          ]
        ]
