-- The interval of a quotient, and that of a root, holds the value and has kept ends.
use Rattle.std.proofs.Common.{◌≡◌, ◌⊎◌, inl, inr, ℕ, suc, zero, ◌*◌, ◌^◌, ◌≤◌, Bool, true, false, cond, ◌||◌, Option, Some, None, IsTrue, refl, sym, subst, arith, true≢false, ℤ, pos, negsuc, ◌≤ℤ◌, lit<}
use Rattle.std.proofs.lemmas.Int.{ints}
use Rattle.dyadic.specs.Fraction.{Fraction, IsFraction, at_most, product_of, quotient_of, over, zero_fraction}
use Rattle.dyadic.specs.Rounding.{Dyadic, exact, IsOnGrid, IsExtOnGrid, at, Ext, below_all, finite, above_all, end_of, end_at_most, ceiling, not_negative, root_up}
use Rattle.dyadic.specs.End.{sign_of, end_sign, end_quotient}
use Rattle.dyadic.proofs.Ring.{atom, natural, minus, times, same}
use Rattle.dyadic.proofs.Equal.{◌≈◌, ≈_sym, both_true, both_pass, through}
use Rattle.dyadic.proofs.Rounds.{at_most_from, exact_from, exact_read}
use Rattle.dyadic.proofs.RoundsRoots.{root_up_is}
use Rattle.interval_model.specs.Interval.{Interval, nothing, between, everything, IsKept, is_below, is_above, misses_nought, of_four, inverse_product, nought_inside}
use Rattle.interval_model.proofs.Ends.{◌⊑◌, value, product_is_good, zero_is_good}
use Rattle.interval_model.proofs.EndsProducts.{not_negative as not_minus}
use Rattle.interval_model.proofs.EndsSums.{good_ext}
use Rattle.interval_model.proofs.Holds.{Holds, same_holds, everything_holds}
use Rattle.interval_model.proofs.HoldsGrid.{everything_kept, inverse_product_kept}
use Rattle.interval_model.proofs.Inverses.{inverse_product_holds}
use Rattle.interval_model.proofs.InversesEnds.{IsAbove, IsBelow, above_rises, below_falls, quotient_is_good}
use Rattle.interval_model.proofs.InversesSquares.{root_order, size_on_grid}
use Rattle.script_roots.specs.Ranges.{avoids_nought, whole_above, root_above, root_bound, whole_ext, up_to_whole, root_range, quotient_range}

-- ---- quotients

-- not 0
abbrev pub IsNotNought : Fraction → Type 0
IsNotNought q = IsAbove (at q) ⊎ IsBelow (at q)

either-side : (x y : Bool) → IsTrue (x || y) → IsTrue x ⊎ IsTrue y
either-side true y h = inl refl
either-side false y h = inr h

-- what lies in an interval without 0 is not 0
pub missed_is_not_nought : (j : Interval) (q : Fraction) → IsFraction q → Holds j q → IsTrue (avoids_nought j) → IsNotNought q
missed_is_not_nought nothing q f h m = absurd (true≢false (sym h))
missed_is_not_nought (between a b) q f h m =
    let k = both_true (end_at_most (end_of a) (at q)) (end_at_most (at q) (end_of b)) h in
    elim (either-side (is_below (end_sign (end_of b))) (is_above (end_sign (end_of a))) m) [
      | inl x ↦ inr (below_falls (at q) (end_of b) f (good_ext b) k.1 x)
      | inr x ↦ inl (above_rises (end_of a) (at q) (good_ext a) f k.0 x)
    ]

quotient-back-at : (p : Fraction) (z : ℤ) (d : ℕ) → IsTrue (is_above (sign_of z)) ⊎ IsTrue (is_below (sign_of z)) → product_of (over p z d) (value z d) ≈ p
unfolding product_of
quotient-back-at p (pos zero) d (inl h) = absurd (true≢false (sym h))
quotient-back-at p (pos zero) d (inr h) = absurd (true≢false (sym h))
quotient-back-at p (pos (suc n)) d h = record {
  same = same (times (times (times (atom p.num) (natural d)) (natural (suc n))) (natural p.den)) (times (atom p.num) (natural ((p.den * suc n) * d))) (omega arith);
}
quotient-back-at p (negsuc n) d h = record {
  same = same (times (times (minus (times (atom p.num) (natural d))) (minus (natural (suc n)))) (natural p.den)) (times (atom p.num) (natural ((p.den * suc n) * d))) (omega arith);
}

-- (p / q) * q is p
pub quotient_back : (p q : Fraction) → IsNotNought q → product_of (quotient_of p q) q ≈ p
unfolding quotient_of
quotient_back p q h = quotient-back-at p q.num q.den h

inverse-holds : (i j : Interval) (p q : Fraction) → IsFraction p → IsFraction q → Holds i p → Holds j q → IsNotNought q → Holds (inverse_product i j) (quotient_of p q)
inverse-holds i j p q f g h k n =
    inverse_product_holds i j (quotient_of p q) q (quotient_is_good p q f) g
    (same_holds i p (product_of (quotient_of p q) q) f (product_is_good (quotient_of p q) q (quotient_is_good p q f) g) (≈_sym (quotient_back p q n)) h) k

-- where 0 lies outside, the inverse of a product is the quotient
inverse-is-quotient : (i j : Interval) (x : Fraction) → avoids_nought j ≡ true → Holds (inverse_product i j) x → Holds (of_four end_quotient i j) x
inverse-is-quotient nothing j x e h = h
inverse-is-quotient (between l h) nothing x e k = k
inverse-is-quotient (between l h) (between a b) x e k = subst
    (λ (t : Bool). Holds (cond t (of_four end_quotient (between l h) (between a b)) (cond (misses_nought (between l h)) (nought_inside (between l h) a b) everything)) x) e k

pub quotient_holds : (i j : Interval) (p q : Fraction) → IsFraction p → IsFraction q → Holds i p → Holds j q → Holds (quotient_range i j) (quotient_of p q)
quotient_holds i j p q f g h k = go (avoids_nought j) refl
  where
    go : (t : Bool) → avoids_nought j ≡ t → Holds (cond t (of_four end_quotient i j) everything) (quotient_of p q)
    go true e = inverse-is-quotient i j (quotient_of p q) e (inverse-holds i j p q f g h k (missed_is_not_nought j q g k e))
    go false e = everything_holds (quotient_of p q)

four-kept : (i j : Interval) → avoids_nought j ≡ true → IsKept (of_four end_quotient i j)
four-kept nothing j e = tt
four-kept (between l h) nothing e = tt
four-kept (between l h) (between a b) e = subst
    (λ (t : Bool). IsKept (cond t (of_four end_quotient (between l h) (between a b)) (cond (misses_nought (between l h)) (nought_inside (between l h) a b) everything)))
    e (inverse_product_kept (between l h) (between a b))

pub quotient_kept : (i j : Interval) → IsKept (quotient_range i j)
quotient_kept i j = go (avoids_nought j) refl
  where
    go : (t : Bool) → avoids_nought j ≡ t → IsKept (cond t (of_four end_quotient i j) everything)
    go true e = four-kept i j e
    go false e = everything_kept

-- ---- the root of a kept number rounded up

abbrev top-root : Dyadic
top-root = record { units = pos (2 ^ 181) }

top-root-above : (n : ℕ) → n ≤ 2 ^ 242 → IsTrue (at_most (exact (record { units = pos n })) (product_of (exact top-root) (exact top-root)))
unfolding product_of
top-root-above n h = at_most_from (exact (record { units = pos n })) (product_of (exact top-root) (exact top-root)) (omega (arith, ints, h))

root-below-2^181 : (n : ℕ) → n ≤ 2 ^ 242 → (r : Dyadic) → ((s : Dyadic) → IsOnGrid s → pos 0 ≤ℤ s.units → IsTrue (at_most (exact (record { units = pos n })) (product_of (exact s) (exact s))) → IsTrue (at_most (exact r) (exact s))) →
    r.units ≤ℤ pos (2 ^ 181)
root-below-2^181 n h r least =
    exact_read r top-root (least top-root (record { whole = 2; power = 180; few_bits = omega arith; in_range = omega arith; value = refl }) (omega (arith, ints)) (top-root-above n h))

-- a root rounded up: a kept number from 0 to 2^61 that is not below a root
pub record IsRoundedRoot (e : Ext) (d : Dyadic) : Type 0 where
  pub units : ℕ
  pub is : e ≡ finite (record { units = pos units })
  pub few : units ≤ 2 ^ 181
  pub above : IsTrue (at_most (exact (record { units = pos (not_negative d.units) })) (product_of (exact (record { units = pos units })) (exact (record { units = pos units }))))

rounded-root-at : (n : ℕ) → n ≤ 2 ^ 242 → (z : ℤ) → root_up (record { units = pos n }) ≡ finite (record { units = z }) → pos 0 ≤ℤ z → z ≤ℤ pos (2 ^ 181) →
    IsTrue (at_most (exact (record { units = pos n })) (product_of (exact (record { units = z })) (exact (record { units = z })))) →
    IsRoundedRoot (root_up (record { units = pos n })) (record { units = pos n })
rounded-root-at n h (pos m) e p b k = record { units = m; is = e; few = omega (arith, ints); above = k }
rounded-root-at n h (negsuc m) e p b k = absurd (p.le)

rounded-root-from : (n : ℕ) → n ≤ 2 ^ 242 → IsRoundedRoot (root_up (record { units = pos n })) (record { units = pos n })
rounded-root-from n h = let r = root_up_is n h in rounded-root-at n h r.0.units r.1 r.2.plus (root-below-2^181 n h r.0 r.2.least) r.2.above

pub rounded_root : (d : Dyadic) → IsOnGrid d → IsRoundedRoot (root_up d) d
rounded_root d g = at-units d.units (size_on_grid d g)
  where
    at-units : (z : ℤ) → not_negative z ≤ 2 ^ 242 → IsRoundedRoot (root_up (record { units = z })) (record { units = z })
    at-units (pos n) h = rounded-root-from n h
    at-units (negsuc n) h = let r = rounded-root-from 0 (omega arith) in record { units = r.units; is = r.is; few = r.few; above = r.above }

-- ---- roots

-- a root of v: not negative, its square is v
pub record IsSquareRoot (r v : Fraction) : Type 0 where
  pub fraction : IsFraction r
  pub not_minus : IsTrue (at_most zero_fraction r)
  pub square_below : IsTrue (at_most (product_of r r) v)

root-below-at : (z : ℤ) (d : ℕ) (m : ℕ) → IsTrue (at_most zero_fraction (value z d)) → IsTrue (at_most (product_of (value z d) (value z d)) (product_of (value (pos m) (2 ^ 120)) (value (pos m) (2 ^ 120)))) →
    IsTrue (at_most (value z d) (value (pos m) (2 ^ 120)))
root-below-at (pos n) d m p h = root_order n d m (2 ^ 120) h
root-below-at (negsuc n) d m p h = absurd (not_minus n d p)

size-above : (d : Dyadic) → IsTrue (at_most (exact d) (exact (record { units = pos (not_negative d.units) })))
size-above d = at-units d.units
  where
    at-units : (z : ℤ) → IsTrue (at_most (exact (record { units = z })) (exact (record { units = pos (not_negative z) })))
    at-units (pos n) = exact_from (record { units = pos n }) (record { units = pos n }) (omega (arith, ints))
    at-units (negsuc n) = exact_from (record { units = negsuc n }) (record { units = pos 0 }) (omega (arith, ints))

root-below : (r v : Fraction) (h : Ext) → IsFraction v → IsSquareRoot r v → IsExtOnGrid h → ◌⊑◌ (at v) (end_of h) → ◌⊑◌ (at r) (end_of (root_above h))
root-below r v below_all f s g k = absurd (true≢false (sym k))
root-below r v above_all f s g k = refl
root-below r v (finite d) f s g k =
    let up = rounded_root d g in
    let one : Fraction = exact (record { units = pos (not_negative d.units) }) in
    let top : Fraction = exact (record { units = pos up.units }) in
    let below : IsTrue (at_most (product_of r r) one) = through (product_of r r) v one f s.square_below (through v (exact d) one (lit< tt) k (size-above d)) in
    subst (λ (e : Ext). ◌⊑◌ (at r) (end_of e)) (sym up.is)
    (root-below-at r.num r.den up.units s.not_minus (through (product_of r r) one (product_of top top) (lit< tt) below up.above))

ceiling-above : (m : ℕ) → m ≤ ceiling m (2 ^ 120) * 2 ^ 120
ceiling-above m = omega arith

ceiling-few : (m : ℕ) → m ≤ 2 ^ 181 → ceiling m (2 ^ 120) ≤ 2 ^ 62
ceiling-few m h = omega arith

whole-above-at : (z : ℤ) → IsTrue (at_most (exact (record { units = z })) (exact (record { units = pos (ceiling (not_negative z) (2 ^ 120) * 2 ^ 120) })))
whole-above-at (pos n) = exact_from (record { units = pos n }) (record { units = pos (ceiling n (2 ^ 120) * 2 ^ 120) }) (let k = ceiling-above n in omega (arith, ints))
whole-above-at (negsuc n) = exact_from (record { units = negsuc n }) (record { units = pos (ceiling 0 (2 ^ 120) * 2 ^ 120) }) (omega (arith, ints))

zero-end : (r : Fraction) → IsTrue (at_most zero_fraction r) → ◌⊑◌ (end_of (whole_ext 0)) (at r)
unfolding at_most
zero-end r p = through (exact (record { units = pos 0 })) zero_fraction r zero_is_good refl p

up-to-whole-holds : (e : Ext) (r : Fraction) → IsTrue (at_most zero_fraction r) → ◌⊑◌ (at r) (end_of e) → Holds (up_to_whole (whole_above e)) r
up-to-whole-holds below_all r p k = absurd (true≢false (sym k))
up-to-whole-holds above_all r p k = both_pass (end_at_most (end_of (whole_ext 0)) (at r)) true (zero-end r p) refl
up-to-whole-holds (finite d) r p k =
    let top : Fraction = exact (record { units = pos (ceiling (not_negative d.units) (2 ^ 120) * 2 ^ 120) }) in
    both_pass (end_at_most (end_of (whole_ext 0)) (at r)) (at_most r top) (zero-end r p) (through r (exact d) top (lit< tt) k (whole-above-at d.units))

pub root_holds : (i : Interval) (r v : Fraction) → IsFraction v → IsSquareRoot r v → IsKept i → Holds i v → Holds (root_range i) r
root_holds nothing r v f s g k = absurd (true≢false (sym k))
root_holds (between l h) r v f s g k =
    let b = both_true (end_at_most (end_of l) (at v)) (end_at_most (at v) (end_of h)) k in
    up-to-whole-holds (root_above h) r s.not_minus (root-below r v h f s g.1 b.1)

whole-kept : (n : ℕ) → n ≤ 2 ^ 62 → IsExtOnGrid (whole_ext n)
whole-kept n h = record { whole = n; power = 120; few_bits = h; in_range = omega arith; value = refl }

-- the bound of a root is at most 2^62
abbrev pub IsFew : Option ℕ → Type 0
IsFew None = Unit {0}
IsFew (Some n) = n ≤ 2 ^ 62

few-above : (h : Ext) → IsExtOnGrid h → IsFew (whole_above (root_above h))
few-above below_all g = omega arith
few-above above_all g = tt
few-above (finite d) g = let up = rounded_root d g in subst (λ (e : Ext). IsFew (whole_above e)) (sym up.is) (ceiling-few up.units up.few)

pub root_bound_few : (i : Interval) → IsKept i → IsFew (root_bound i)
root_bound_few nothing g = omega arith
root_bound_few (between l h) g = few-above h g.1

up-to-kept : (o : Option ℕ) → IsFew o → IsKept (up_to_whole o)
up-to-kept None h = (whole-kept 0 (omega arith), tt)
up-to-kept (Some n) h = (whole-kept 0 (omega arith), whole-kept n h)

pub root_kept : (i : Interval) → IsKept i → IsKept (root_range i)
root_kept i g = up-to-kept (root_bound i) (root_bound_few i g)
