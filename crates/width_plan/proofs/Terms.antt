-- The widths of squares, constants, variables and opposites, and of each term.
use Rattle.std.proofs.Common.{◌≡◌, inl, inr, ℕ, suc, zero, ◌-◌, ◌^◌, List, [], ◌∷◌, arith, refl, sym, ap, ap₂, ◌∙◌, subst, Bool, true, false, cond, IsTrue, true≢false, ℤ, pos, negsuc, neg_ℤ, nat_abs, ◌+ℤ◌, ◌*ℤ◌, ◌≤ℤ◌, mul-le-mul_right}
use Rattle.std.proofs.lemmas.Int.{ints}
use Rattle.dyadic.specs.Fraction.{Fraction, at_most, sum_of, difference_of}
use Rattle.dyadic.specs.Point.{Sort}
use Rattle.dyadic.specs.Rounding.{Dyadic, exact, End, Ext, below_all, finite, above_all, ext_at_most, down, up, two_to_minus}
use Rattle.dyadic.specs.End.{rounded_up, negated_ext, negated_dyadic}
use Rattle.dyadic.proofs.Equal.{both_true}
use Rattle.dyadic.proofs.Ring
use Rattle.dyadic.proofs.Ring.{atom, natural, plus, minus, times, read_below}
use Rattle.dyadic.proofs.Rounds.{exact_read}
use Rattle.interval_model.specs.Interval.{Interval, nothing, between, IsKept, IsProper, within, interval_negated, interval_square}
use Rattle.interval_model.specs.Space.{real_domain, bool_domain, Space, axis_interval, is_upright, space_within}
use Rattle.interval_model.proofs.EndsSums.{exact_negated}
use Rattle.interval_model.proofs.HoldsGrid.{sum_kept, product_kept, square_kept}
use Rattle.poly_graph.specs.Term.{Term, constant, variable, negate, add, multiply, square}
use Rattle.poly_graph.specs.Problem.{IsTerm}
use Rattle.cover_model.specs.Space.{enclosure}
use Rattle.cover_model.proofs.Isotone.{enclosure_isotone, enclosure_proper}
use Rattle.width_plan.specs.Width.{end_size, interval_size, width_sum, width_product, rounding_width, interval_width, two, width, is_fine_domain, is_fine}
use Rattle.width_plan.proofs.Ends.{fine, sum_is_fine, product_is_fine, coarse, up-plus, sized, IsPlus, sum_plus, product_plus, size_plus, rounding_plus, sum_finite, product_finite, zero_dyadic, rounding_finite, high_side}
use Rattle.width_plan.proofs.Products.{IsUpTo, squares}
use Rattle.width_plan.proofs.Narrow.{IsNarrow, ends_of_narrow, IsWide, rounded_narrow, sum_wide}
use Rattle.width_plan.proofs.Factors.{within_size, product_wide}

-- ---- squares

square-total : (n n' m a f : ℤ) → (n' +ℤ neg_ℤ n) ≤ℤ ((pos 2 *ℤ m) *ℤ a) → ((pos 2 *ℤ m) *ℤ a) ≤ℤ (f *ℤ pos (2 ^ 120)) → (n' +ℤ neg_ℤ n) ≤ℤ (f *ℤ pos (2 ^ 120))
square-total n n' m a f i j = Ring.below (plus (atom n') (minus (atom n))) (times (atom f) (natural (2 ^ 120)))
    (omega (arith, read_below (plus (atom n') (minus (atom n))) (times (times (natural 2) (atom m)) (atom a)) i, read_below (times (times (natural 2) (atom m)) (atom a)) (times (atom f) (natural (2 ^ 120))) j))

module _ (ibox box : Interval) (kept : IsKept box) (m a f e r : Dyadic) (size : interval_size ibox ≡ finite m)
    (ma : ((pos 2 *ℤ m.units) *ℤ a.units) ≤ℤ (f.units *ℤ pos (2 ^ 120))) (rounding : rounding_width (interval_size box) ≡ finite e) (fe : (f.units +ℤ e.units) ≤ℤ r.units) where
  square-at : (l h : Dyadic) → IsProper (between (finite l) (finite h)) → IsTrue (within (between (finite l) (finite h)) ibox) → (h.units +ℤ neg_ℤ l.units) ≤ℤ a.units →
      IsTrue (within (interval_square (between (finite l) (finite h))) box) → IsNarrow (interval_square (between (finite l) (finite h))) (finite r)
  square-at l h p w d in_box =
      let s = within_size l h ibox m p w size in let t = squares l h s.0 in
      let is : interval_square (between (finite l) (finite h)) ≡ between (down (fine t.low)) (up (fine t.high)) =
      ap₂ (λ (x : Ext) (y : End). between x (rounded_up y)) t.low_is t.high_is in
      subst (λ (x : Interval). IsNarrow x (finite r)) (sym is)
      (rounded_narrow t.low t.high f.units box t.ordered kept (subst (λ (x : Interval). IsTrue (within x box)) is in_box)
      (square-total t.low t.high m.units a.units f.units (t.apart m.units a.units d s.1 s.2) ma) e r rounding fe)

  square-here : (i : Interval) → IsNarrow i (finite a) → IsProper i → IsTrue (within i ibox) → IsTrue (within (interval_square i) box) → IsNarrow (interval_square i) (finite r)
  square-here nothing x p w in_box = tt
  square-here (between l h) x p w in_box =
      let s = ends_of_narrow l h a x in
      let one : between l h ≡ between (finite s.low) (finite s.high) = ap₂ between s.low_is s.high_is in
      subst (λ (x : Interval). IsNarrow x (finite r)) (sym (ap interval_square one))
      (square-at s.low s.high (subst IsProper one p) (subst (λ (x : Interval). IsTrue (within x ibox)) one w) s.apart (subst (λ (x : Interval). IsTrue (within x box)) (ap interval_square one) in_box))

-- an interval of size 0 is narrow
without-size : (i box : Interval) → IsProper i → IsTrue (within i box) → (m : Dyadic) → interval_size box ≡ finite m → m.units ≤ℤ pos 0 → IsNarrow i (finite zero_dyadic)
without-size nothing box p w m e z = tt
without-size (between (finite l) (finite h)) box p w m e z = let s = within_size l h box m p w e in less l.units h.units m.units s.0 s.1 s.2 z
  where
    less : (l h m : ℤ) → l ≤ℤ h → IsUpTo l m → IsUpTo h m → m ≤ℤ pos 0 → (h +ℤ neg_ℤ l) ≤ℤ pos 0
    less l h m o u v z = Ring.below (plus (atom h) (minus (atom l))) (natural 0) (omega (arith, read_below (minus (atom m)) (atom l) u.least, read_below (atom h) (atom m) v.most, read_below (atom m) (natural 0) z))
without-size (between below_all below_all) box p w m e z = absurd p.2
without-size (between below_all (finite h)) box p w m e z = absurd (low-bound box h w m e)
  where
    low-bound : (box : Interval) (h : Dyadic) → IsTrue (within (between below_all (finite h)) box) → (m : Dyadic) → interval_size box ≡ finite m → ⊥
    low-bound nothing h w m e = true≢false (sym w)
    low-bound (between x y) h w m e = let s = sized x y m e in
        true≢false (sym (subst (λ (z : Ext). IsTrue (ext_at_most z below_all)) s.2.low_is (both_true (ext_at_most x below_all) (ext_at_most (finite h) y) w).0))
without-size (between below_all above_all) box p w m e z = absurd (low-bound box w m e)
  where
    low-bound : (box : Interval) → IsTrue (within (between below_all above_all) box) → (m : Dyadic) → interval_size box ≡ finite m → ⊥
    low-bound nothing w m e = true≢false (sym w)
    low-bound (between x y) w m e = let s = sized x y m e in
        true≢false (sym (subst (λ (z : Ext). IsTrue (ext_at_most z below_all)) s.2.low_is (both_true (ext_at_most x below_all) (ext_at_most above_all y) w).0))
without-size (between (finite l) below_all) box p w m e z = absurd p.2
without-size (between (finite l) above_all) box p w m e z = absurd (high-bound box l w m e)
  where
    high-bound : (box : Interval) (l : Dyadic) → IsTrue (within (between (finite l) above_all) box) → (m : Dyadic) → interval_size box ≡ finite m → ⊥
    high-bound nothing l w m e = true≢false (sym w)
    high-bound (between x y) l w m e = let s = sized x y m e in
        true≢false (sym (subst (λ (z : Ext). IsTrue (ext_at_most above_all z)) s.2.high_is (both_true (ext_at_most x (finite l)) (ext_at_most above_all y) w).1))
without-size (between above_all h) box p w m e z = absurd p.1

-- twice a size
doubled-size : (m d : Dyadic) → width_product two (finite m) ≡ finite d → (pos 2 *ℤ m.units) ≤ℤ d.units
doubled-size m d e = go m.units d.units (high_side (pos (2 ^ 121) *ℤ m.units) d (ap up (sym (product_is_fine (record { units = pos (2 ^ 121) }) m)) ∙ e))
  where
    go : (m d : ℤ) → (pos (2 ^ 121) *ℤ m) ≤ℤ (d *ℤ pos (2 ^ 120)) → (pos 2 *ℤ m) ≤ℤ d
    go m d h = Ring.below (times (natural 2) (atom m)) (atom d) (omega (arith, read_below (times (natural (2 ^ 121)) (atom m)) (times (atom d) (natural (2 ^ 120))) h))

-- the size of an interval is not below 0
size-number-plus : (box : Interval) (m : Dyadic) → interval_size box ≡ finite m → pos 0 ≤ℤ m.units
size-number-plus box m e = subst IsPlus e (size_plus box)

twice-times : (m d a f : ℤ) → (pos 2 *ℤ m) ≤ℤ d → pos 0 ≤ℤ a → (d *ℤ a) ≤ℤ (f *ℤ pos (2 ^ 120)) → ((pos 2 *ℤ m) *ℤ a) ≤ℤ (f *ℤ pos (2 ^ 120))
twice-times m d (pos n) f h p g = Ring.below (times (times (natural 2) (atom m)) (natural n)) (times (atom f) (natural (2 ^ 120)))
    (omega (arith, mul-le-mul_right n (read_below (times (natural 2) (atom m)) (atom d) h), read_below (times (atom d) (natural n)) (times (atom f) (natural (2 ^ 120))) g))
twice-times m d (negsuc n) f h p g = absurd (omega (arith, ints, p))

pub square_wide : (i ibox box : Interval) (v : Ext) → IsWide i ibox v → IsProper i → IsKept box → IsTrue (within i ibox) → IsTrue (within (interval_square i) box) →
    IsWide (interval_square i) box (width_sum (width_product (width_product two (interval_size ibox)) v) (rounding_width (interval_size box)))
square_wide i ibox box v x p k in_i in_box = record { plus = total; narrow = narrow (width_sum both added) refl total; bounded = bounded }
  where
    twice : Ext
    twice = width_product two (interval_size ibox)

    both : Ext
    both = width_product twice v

    added : Ext
    added = rounding_width (interval_size box)

    twice-plus : IsPlus twice
    twice-plus = product_plus two (interval_size ibox) (omega (arith, ints)) (size_plus ibox)

    both-plus : IsPlus both
    both-plus = product_plus twice v twice-plus x.plus

    added-plus : IsPlus added
    added-plus = rounding_plus (interval_size box) (size_plus box)

    total : IsPlus (width_sum both added)
    total = sum_plus both added both-plus added-plus

    bounded : (r : Dyadic) → width_sum both added ≡ finite r → (a : Dyadic) × (interval_size box ≡ finite a)
    bounded r e = let s = sum_finite both added r both-plus added-plus e in let b = rounding_finite (interval_size box) s.second (size_plus box) s.second_is in (b.0, b.1)

    -- a width 0, whatever the size
    none : (m f : ℤ) → pos 0 ≤ℤ f → ((pos 2 *ℤ m) *ℤ pos 0) ≤ℤ (f *ℤ pos (2 ^ 120))
    none m f h = Ring.below (times (times (natural 2) (atom m)) (natural 0)) (times (atom f) (natural (2 ^ 120))) (omega (arith, read_below (natural 0) (atom f) h))

    still : (m f e r : Dyadic) → interval_size ibox ≡ finite m → IsNarrow i (finite zero_dyadic) → pos 0 ≤ℤ f.units → rounding_width (interval_size box) ≡ finite e → (f.units +ℤ e.units) ≤ℤ r.units → IsNarrow (interval_square i) (finite r)
    still m f e r size n p' rounding fe = square-here ibox box k m zero_dyadic f e r size (none m.units f.units p') rounding fe i n p in_i in_box

    zero-size : (f e r : Dyadic) → twice ≡ finite zero_dyadic → pos 0 ≤ℤ f.units → rounding_width (interval_size box) ≡ finite e → (f.units +ℤ e.units) ≤ℤ r.units → IsNarrow (interval_square i) (finite r)
    zero-size f e r z p' rounding fe = by (interval_size ibox) refl
      where
        half : (m : ℤ) → (pos 2 *ℤ m) ≤ℤ pos 0 → m ≤ℤ pos 0
        half m h = Ring.below (atom m) (natural 0) (omega (arith, read_below (times (natural 2) (atom m)) (natural 0) h))

        by : (s : Ext) → interval_size ibox ≡ s → IsNarrow (interval_square i) (finite r)
        by (finite m) e' = still m f e r e' (without-size i ibox p in_i m e' (half m.units (doubled-size m zero_dyadic (ap (width_product two) (sym e') ∙ z)))) p' rounding fe
        by above_all e' = absurd (differ (sym (ap (width_product two) e') ∙ z))
          where
            differ : above_all ≡ finite zero_dyadic → ⊥
            differ e = cc
        by below_all e' = absurd (subst IsPlus e' (size_plus ibox))

    narrow : (t : Ext) → width_sum both added ≡ t → IsPlus t → IsNarrow (interval_square i) t
    narrow below_all e f = absurd f
    narrow above_all e f = tt
    narrow (finite r) e f =
        let s = sum_finite both added r both-plus added-plus e in
        let some : pos 0 ≤ℤ s.first.units = subst IsPlus s.first_is both-plus in
        elim (product_finite twice v s.first twice-plus x.plus s.first_is) [
          | inr (inl z) ↦ zero-size s.first s.second r z.0 some s.second_is s.total
          | inr (inr z) ↦ let b = x.bounded zero_dyadic z.1 in still b.0 s.first s.second r b.1 (subst (IsNarrow i) z.1 x.narrow) some s.second_is s.total
          | inl c ↦ let b = x.bounded c.second c.second_is in
              square-here ibox box k b.0 c.second s.first s.second r b.1
              (twice-times b.0.units c.first.units c.second.units s.first.units (doubled-size b.0 c.first (ap (width_product two) (sym b.1) ∙ c.first_is)) (subst IsPlus c.second_is x.plus) c.total) s.second_is s.total
              i (subst (IsNarrow i) c.second_is x.narrow) p in_i in_box
        ]

-- ---- constants, variables, opposites

pub size-some : (l h : Dyadic) → (a : Dyadic) × (interval_size (between (finite l) (finite h)) ≡ finite a)
size-some l h = go (ext_at_most (end_size (finite l)) (end_size (finite h)))
  where
    go : (t : Bool) → (a : Dyadic) × (cond t (end_size (finite h)) (end_size (finite l)) ≡ finite a)
    go true = (record { units = pos (nat_abs h.units) }, refl)
    go false = (record { units = pos (nat_abs l.units) }, refl)

width-plus : (l h : Dyadic) → l.units ≤ℤ h.units → IsPlus (width_sum (finite h) (negated_ext (finite l)))
width-plus l h o = subst (λ (q : Fraction). IsPlus (up q)) (sym (sum_is_fine h (negated_dyadic l)))
    (up-plus ((h.units *ℤ pos (2 ^ 120)) +ℤ (neg_ℤ l.units *ℤ pos (2 ^ 120))) (room l.units h.units o))
  where
    room : (l h : ℤ) → l ≤ℤ h → pos 0 ≤ℤ ((h *ℤ pos (2 ^ 120)) +ℤ (neg_ℤ l *ℤ pos (2 ^ 120)))
    room l h o = Ring.below (natural 0) (plus (times (atom h) (natural (2 ^ 120))) (times (minus (atom l)) (natural (2 ^ 120)))) (omega (arith, read_below (atom l) (atom h) o))

less-wide : (l h r : ℤ) → ((h *ℤ pos (2 ^ 120)) +ℤ (neg_ℤ l *ℤ pos (2 ^ 120))) ≤ℤ (r *ℤ pos (2 ^ 120)) → (h +ℤ neg_ℤ l) ≤ℤ r
less-wide l h r k = Ring.below (plus (atom h) (minus (atom l))) (atom r)
    (omega (arith, read_below (plus (times (atom h) (natural (2 ^ 120))) (times (minus (atom l)) (natural (2 ^ 120)))) (times (atom r) (natural (2 ^ 120))) k))

own-narrow : (l h r : Dyadic) → width_sum (finite h) (negated_ext (finite l)) ≡ finite r → (h.units +ℤ neg_ℤ l.units) ≤ℤ r.units
own-narrow l h r e = less-wide l.units h.units r.units
    (high_side ((h.units *ℤ pos (2 ^ 120)) +ℤ (neg_ℤ l.units *ℤ pos (2 ^ 120))) r (ap up (sym (sum_is_fine h (negated_dyadic l))) ∙ e))

-- an interval is as wide as its own width
own-wide : (l h : Ext) → IsProper (between l h) → IsWide (between l h) (between l h) (interval_width (between l h))
own-wide (finite l) (finite h) p = record {
  plus = width-plus l h (exact_read l h p.0);
  narrow = narrow (width_sum (finite h) (negated_ext (finite l))) refl (width-plus l h (exact_read l h p.0));
  bounded = λ r e. size-some l h;
}
  where
    narrow : (t : Ext) → width_sum (finite h) (negated_ext (finite l)) ≡ t → IsPlus t → IsNarrow (between (finite l) (finite h)) t
    narrow below_all e f = absurd f
    narrow above_all e f = tt
    narrow (finite r) e f = own-narrow l h r e
own-wide (finite l) above_all p = record { plus = tt; narrow = tt; bounded = λ r e. cc }
own-wide (finite l) below_all p = absurd p.2
own-wide below_all (finite h) p = record { plus = tt; narrow = tt; bounded = λ r e. cc }
own-wide below_all above_all p = record { plus = tt; narrow = tt; bounded = λ r e. cc }
own-wide below_all below_all p = absurd p.2
own-wide above_all h p = absurd p.1

axis-narrow : (bits : ℕ) (space : Space) (axis : ℕ) → IsTrue (is_fine bits space) → IsNarrow (axis_interval space axis) (finite (two_to_minus bits))
axis-narrow bits [] axis f = tt
axis-narrow bits (real_domain l h ∷ space) zero f =
    let k = (both_true (is_fine_domain bits (real_domain l h)) (is_fine bits space) f).0 in
    let q : difference_of (exact h) (exact l) ≡ fine ((h.units *ℤ pos (2 ^ 120)) +ℤ (neg_ℤ l.units *ℤ pos (2 ^ 120))) = ap (sum_of (exact h)) (exact_negated l) ∙ sum_is_fine h (negated_dyadic l) in
    less-wide l.units h.units (pos (2 ^ (120 - bits))) (coarse ((h.units *ℤ pos (2 ^ 120)) +ℤ (neg_ℤ l.units *ℤ pos (2 ^ 120))) (two_to_minus bits) (subst (λ (x : Fraction). IsTrue (at_most x (exact (two_to_minus bits)))) q k))
axis-narrow bits (bool_domain g t ∷ space) zero f = tt
axis-narrow bits (d ∷ space) (suc axis) f = axis-narrow bits space axis (both_true (is_fine_domain bits d) (is_fine bits space) f).1

axis-size : (box : Space) (axis : ℕ) → (a : Dyadic) × (interval_size (axis_interval box axis) ≡ finite a)
axis-size [] axis = (zero_dyadic, refl)
axis-size (real_domain l h ∷ box) zero = size-some l h
axis-size (bool_domain f t ∷ box) zero = (zero_dyadic, refl)
axis-size (d ∷ box) (suc axis) = axis-size box axis

variable-wide : (bits : ℕ) (space box : Space) (axis : ℕ) → IsTrue (is_fine bits space) → IsWide (axis_interval space axis) (axis_interval box axis) (finite (two_to_minus bits))
variable-wide bits space box axis f = record { plus = omega (arith, ints); narrow = axis-narrow bits space axis f; bounded = λ r e. axis-size box axis }

opposite-narrow : (i : Interval) (w : Ext) → IsNarrow i w → IsNarrow (interval_negated i) w
opposite-narrow i below_all n = absurd n
opposite-narrow i above_all n = tt
opposite-narrow nothing (finite v) n = tt
opposite-narrow (between l h) (finite v) n =
    let s = ends_of_narrow l h v n in
    subst (λ (x : Interval). IsNarrow (interval_negated x) (finite v)) (sym (ap₂ between s.low_is s.high_is)) (turned s.low.units s.high.units v.units s.apart)
  where
    turned : (l h v : ℤ) → (h +ℤ neg_ℤ l) ≤ℤ v → (neg_ℤ l +ℤ neg_ℤ (neg_ℤ h)) ≤ℤ v
    turned l h v k = Ring.below (plus (minus (atom l)) (minus (minus (atom h)))) (atom v) (omega (arith, read_below (plus (atom h) (minus (atom l))) (atom v) k))

opposite-size : (box : Interval) (a : Dyadic) → interval_size box ≡ finite a → (b : Dyadic) × (interval_size (interval_negated box) ≡ finite b)
opposite-size nothing a e = (zero_dyadic, refl)
opposite-size (between l h) a e =
    let s = sized l h a e in
    subst (λ (x : Interval). (b : Dyadic) × (interval_size (interval_negated x) ≡ finite b)) (sym (ap₂ between s.2.low_is s.2.high_is)) (size-some (negated_dyadic s.2.high) (negated_dyadic s.2.low))

opposite-wide : (i box : Interval) (w : Ext) → IsWide i box w → IsWide (interval_negated i) (interval_negated box) w
opposite-wide i box w x = record { plus = x.plus; narrow = opposite-narrow i w x.narrow; bounded = λ v e. let b = x.bounded v e in opposite-size box b.0 b.1 }

-- ---- each term

pub term_wide : (sorts : List Sort) (bits : ℕ) (space box : Space) → IsTrue (is_upright space) → IsTrue (space_within space box) → IsTrue (is_fine bits space) → (t : Term) → IsTerm sorts t →
    IsWide (enclosure space t) (enclosure box t) (width box bits t)
term_wide sorts bits space box u w f (constant q) g = own-wide (down q) (up q) (enclosure_proper sorts space u (constant q) g)
term_wide sorts bits space box u w f (variable axis) g = variable-wide bits space box axis f
term_wide sorts bits space box u w f (negate t) g = opposite-wide (enclosure space t) (enclosure box t) (width box bits t) (term_wide sorts bits space box u w f t g)
term_wide sorts bits space box u w f (add t t') g =
    sum_wide (enclosure space t) (enclosure space t') (enclosure box t) (enclosure box t') (enclosure box (add t t')) (width box bits t) (width box bits t')
    (term_wide sorts bits space box u w f t g.0) (term_wide sorts bits space box u w f t' g.1) (enclosure_proper sorts space u t g.0) (enclosure_proper sorts space u t' g.1)
    (sum_kept (enclosure box t) (enclosure box t')) (enclosure_isotone sorts space box u w (add t t') g)
term_wide sorts bits space box u w f (multiply t t') g =
    product_wide (enclosure space t) (enclosure space t') (enclosure box t) (enclosure box t') (enclosure box (multiply t t')) (width box bits t) (width box bits t')
    (term_wide sorts bits space box u w f t g.0) (term_wide sorts bits space box u w f t' g.1) (enclosure_proper sorts space u t g.0) (enclosure_proper sorts space u t' g.1)
    (product_kept (enclosure box t) (enclosure box t')) (enclosure_isotone sorts space box u w t g.0) (enclosure_isotone sorts space box u w t' g.1) (enclosure_isotone sorts space box u w (multiply t t') g)
term_wide sorts bits space box u w f (square t) g =
    square_wide (enclosure space t) (enclosure box t) (enclosure box (square t)) (width box bits t) (term_wide sorts bits space box u w f t g) (enclosure_proper sorts space u t g)
    (square_kept (enclosure box t)) (enclosure_isotone sorts space box u w t g) (enclosure_isotone sorts space box u w (square t) g)
