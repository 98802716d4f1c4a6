-- What a square leaves to its operand holds the operand.
pub use Rattle.interval_model.specs.Interval.{IsKept}
use Rattle.std.proofs.Common.{◌≡◌, inl, inr, ℕ, suc, ◌+◌, ◌*◌, ◌^◌, ◌<◌, ◌≤◌, IsTrue, ⊎_elim, refl, sym, ◌∙◌, subst, arith, true≢false, ℤ, pos, negsuc, nat_abs, ◌≤ℤ◌, lit<}
use Rattle.std.proofs.Math.Nat.{mul-le-mul}
use Rattle.std.proofs.lemmas.Bool.{cases_lt}
use Rattle.dyadic.specs.Fraction.{Fraction, IsFraction, at_most, product_of, negated, zero_fraction}
use Rattle.dyadic.specs.Rounding.{Dyadic, exact, IsOnGrid, at, Ext, below_all, finite, above_all, end_of, end_at_most, not_negative, root_down, root_up}
use Rattle.interval_model.specs.Interval.{Interval, nothing, between, met, hull, inverse_square, root_end}
use Rattle.dyadic.specs.End.{negated_ext}
use Rattle.dyadic.proofs.Ring
use Rattle.dyadic.proofs.Ring.{atom, natural, minus, times, same, read_below}
use Rattle.dyadic.proofs.Nearest.{representable_le}
use Rattle.dyadic.proofs.Rounds.{IsExtOnGrid}
use Rattle.dyadic.proofs.RoundsRoots.{root_down_is, root_up_is}
use Rattle.dyadic.proofs.Equal.{both_true, both_pass, holds_le, le_holds, through}
use Rattle.interval_model.proofs.Ends.{◌⊑◌, value, product_is_good, zero_is_good}
use Rattle.interval_model.proofs.EndsProducts.{not_negative as not_minus}
use Rattle.interval_model.proofs.Squares.{square_not_negative}
use Rattle.interval_model.proofs.Holds.{Holds, met_holds, hull_holds, negated_holds}

-- ---- the order of squares

root-order-at : (a b : ℕ) → a * a ≤ b * b → a ≤ b
root-order-at a b h = ⊎_elim (λ (l : b < a). absurd (let k : (b + 1) * (b + 1) ≤ a * a = mul-le-mul (let m : b + 1 ≤ a = omega arith in m) (let m : b + 1 ≤ a = omega arith in m) in omega (arith, k, h))) (λ l. l) (cases_lt b a)

root-order-from : (a b c d : ℕ) → (a * a) * (d * d) ≤ (c * c) * (b * b) → a * d ≤ c * b
root-order-from a b c d h = root-order-at (a * d) (c * b) (omega (arith, h))

-- of numbers that are not negative the one with the lesser square is the lesser
pub root_order : (a b c d : ℕ) → IsTrue (at_most (product_of (value (pos a) b) (value (pos a) b)) (product_of (value (pos c) d) (value (pos c) d))) → IsTrue (at_most (value (pos a) b) (value (pos c) d))
unfolding at_most product_of
root_order a b c d h = le_holds _ _ (Ring.below (times (natural a) (natural d)) (times (natural c) (natural b))
    (omega (arith, root-order-from a b c d (omega (arith, read_below (times (times (natural a) (natural a)) (natural (d * d))) (times (times (natural c) (natural c)) (natural (b * b))) (holds_le _ _ h))))))

-- ---- roots of numbers of the grid

pub size_on_grid : (d : Dyadic) → IsOnGrid d → not_negative d.units ≤ 2 ^ 242
size_on_grid d g = at d.units (representable_le (nat_abs d.units) g)
  where
    at : (z : ℤ) → nat_abs z ≤ 2 ^ 242 → not_negative z ≤ 2 ^ 242
    at (pos n) h = h
    at (negsuc n) h = omega arith

pub zero_at_most : (d : ℕ) → IsTrue (at_most (value (pos 0) d) zero_fraction)
unfolding at_most
zero_at_most d = le_holds _ _ (Ring.below (times (natural 0) (natural 1)) (times (natural 0) (natural d)) (omega arith))

module _ (n d : ℕ) (g : 0 < d) where
  abbrev v : Fraction
  v = value (pos n) d

  abbrev square : Fraction
  square = product_of v v

  square-good : IsFraction square
  square-good = product_is_good v v g g

  below-at : (r : Dyadic) → pos 0 ≤ℤ r.units → IsTrue (at_most (product_of (exact r) (exact r)) square) → IsTrue (at_most (exact r) v)
  below-at r p h = at-units r.units p h
    where
      at-units : (z : ℤ) → pos 0 ≤ℤ z → IsTrue (at_most (product_of (value z (2 ^ 120)) (value z (2 ^ 120))) square) → IsTrue (at_most (value z (2 ^ 120)) v)
      at-units (pos k) p' h' = root_order k (2 ^ 120) n d h'
      at-units (negsuc k) p' h' = absurd (p'.le)

  above-at : (r : Dyadic) → pos 0 ≤ℤ r.units → IsTrue (at_most square (product_of (exact r) (exact r))) → IsTrue (at_most v (exact r))
  above-at r p h = at-units r.units p h
    where
      at-units : (z : ℤ) → pos 0 ≤ℤ z → IsTrue (at_most square (product_of (value z (2 ^ 120)) (value z (2 ^ 120)))) → IsTrue (at_most v (value z (2 ^ 120)))
      at-units (pos k) p' h' = root_order n d k (2 ^ 120) h'
      at-units (negsuc k) p' h' = absurd (p'.le)

  -- the lower end's root is at most v
  root-low : (e : Dyadic) → IsOnGrid e → IsTrue (at_most (exact e) square) → ◌⊑◌ (end_of (root_down e)) (at v)
  root-low e k h = at-units e.units (size_on_grid e k) h
    where
      found : (z : ℤ) → (m : ℕ) → root_down (record { units = z }) ≡ root_down (record { units = pos m }) → m ≤ 2 ^ 242 → IsTrue (at_most (exact (record { units = pos m })) square) → ◌⊑◌ (end_of (root_down (record { units = z }))) (at v)
      found z m e' s h' = let r = root_down_is m s in subst (λ (k' : Ext). ◌⊑◌ (end_of k') (at v)) (sym (e' ∙ r.1))
          (below-at r.0 r.2.plus (through (product_of (exact r.0) (exact r.0)) (exact (record { units = pos m })) square (lit< tt) r.2.below h'))

      at-units : (z : ℤ) → not_negative z ≤ 2 ^ 242 → IsTrue (at_most (value z (2 ^ 120)) square) → ◌⊑◌ (end_of (root_down (record { units = z }))) (at v)
      at-units (pos m) s h' = found (pos m) m refl s h'
      at-units (negsuc m) s h' = found (negsuc m) 0 refl (omega arith) (through (value (pos 0) (2 ^ 120)) zero_fraction square zero_is_good (zero_at_most (2 ^ 120)) (square_not_negative (at v) g))

  root-high : (e : Dyadic) → IsOnGrid e → IsTrue (at_most square (exact e)) → ◌⊑◌ (at v) (end_of (root_up e))
  root-high e k h = at-units e.units (size_on_grid e k) h
    where
      found : (m : ℕ) → m ≤ 2 ^ 242 → IsTrue (at_most square (exact (record { units = pos m }))) → ◌⊑◌ (at v) (end_of (root_up (record { units = pos m })))
      found m s h' = let r = root_up_is m s in subst (λ (k' : Ext). ◌⊑◌ (at v) (end_of k')) (sym r.1)
          (above-at r.0 r.2.plus (through square (exact (record { units = pos m })) (product_of (exact r.0) (exact r.0)) (lit< tt) h' r.2.above))

      at-units : (z : ℤ) → not_negative z ≤ 2 ^ 242 → IsTrue (at_most square (value z (2 ^ 120))) → ◌⊑◌ (at v) (end_of (root_up (record { units = z })))
      at-units (pos m) s h' = found m s h'
      at-units (negsuc m) s h' = absurd (not_minus m (2 ^ 120) (through zero_fraction square (value (negsuc m) (2 ^ 120)) square-good (square_not_negative (at v) g) h'))

  -- between the roots
  between-roots : (l h : Ext) → IsExtOnGrid l → IsExtOnGrid h → ◌⊑◌ (end_of l) (at square) → ◌⊑◌ (at square) (end_of h) → Holds (between (root_end below_all root_down l) (root_end above_all root_up h)) v
  between-roots l h i j a b = both_pass (end_at_most (end_of (root_end below_all root_down l)) (at v)) (end_at_most (at v) (end_of (root_end above_all root_up h))) (low l i a) (high h j b)
    where
      low : (e : Ext) → IsExtOnGrid e → ◌⊑◌ (end_of e) (at square) → ◌⊑◌ (end_of (root_end below_all root_down e)) (at v)
      low below_all i' k = refl
      low (finite e) i' k = root-low e i' k
      low above_all i' k = absurd (true≢false (sym k))

      high : (e : Ext) → IsExtOnGrid e → ◌⊑◌ (at square) (end_of e) → ◌⊑◌ (at v) (end_of (root_end above_all root_up e))
      high above_all i' k = refl
      high (finite e) i' k = root-high e i' k
      high below_all i' k = absurd (true≢false (sym k))

minus-square : (n d : ℕ) → product_of (value (negsuc n) d) (value (negsuc n) d) ≡ product_of (value (pos (suc n)) d) (value (pos (suc n)) d)
unfolding product_of
minus-square n d = refl

minus-back : (n d : ℕ) → negated (value (pos (suc n)) d) ≡ value (negsuc n) d
unfolding negated
minus-back n d = refl

abbrev pub low_root : Ext → Ext
low_root l = root_end below_all root_down l

abbrev pub high_root : Ext → Ext
high_root h = root_end above_all root_up h

-- x of own where x * x lies in n
pub inverse_square_holds : (own n : Interval) (x : Fraction) → IsKept n → IsFraction x → Holds own x → Holds n (product_of x x) → Holds (inverse_square own n) x
inverse_square_holds own nothing x i f a b = absurd (true≢false (sym b))
inverse_square_holds own (between l h) x i f a b = at-sign x.num x.den f a b
  where
    roots : (n d : ℕ) → 0 < d → Holds (between l h) (product_of (value (pos n) d) (value (pos n) d)) → Holds (between (low_root l) (high_root h)) (value (pos n) d)
    roots n d g k =
        let p = both_true (end_at_most (end_of l) (at (product_of (value (pos n) d) (value (pos n) d)))) (end_at_most (at (product_of (value (pos n) d) (value (pos n) d))) (end_of h)) k in
        between-roots n d g l h i.0 i.1 p.0 p.1

    at-sign : (z : ℤ) (d : ℕ) → 0 < d → Holds own (value z d) → Holds (between l h) (product_of (value z d) (value z d)) →
        Holds (hull (met own (between (negated_ext (high_root h)) (negated_ext (low_root l)))) (met own (between (low_root l) (high_root h)))) (value z d)
    at-sign (pos n) d g a' b' = hull_holds (met own (between (negated_ext (high_root h)) (negated_ext (low_root l)))) (met own (between (low_root l) (high_root h))) (value (pos n) d) (inr (met_holds own (between (low_root l) (high_root h)) (value (pos n) d) g a' (roots n d g b')))
    at-sign (negsuc n) d g a' b' =
        let k = subst (Holds (between (negated_ext (high_root h)) (negated_ext (low_root l)))) (minus-back n d) (negated_holds (between (low_root l) (high_root h)) (value (pos (suc n)) d) (roots (suc n) d g (subst (Holds (between l h)) (minus-square n d) b'))) in
        hull_holds (met own (between (negated_ext (high_root h)) (negated_ext (low_root l)))) (met own (between (low_root l) (high_root h))) (value (negsuc n) d) (inl (met_holds own (between (negated_ext (high_root h)) (negated_ext (low_root l))) (value (negsuc n) d) g a' k))
