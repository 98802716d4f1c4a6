-- Products of exact ends rise with a factor that is not negative and fall with one that is not positive.
use Rattle.std.proofs.Common.{◌≡◌, ◌⊎◌, inl, inr, ℕ, suc, zero, ◌*◌, ◌<◌, IsTrue, refl, sym, arith, true≢false, ℤ, pos, negsuc, ◌*ℤ◌, ◌≤ℤ◌, mul-pos}
use Rattle.dyadic.specs.Fraction.{Fraction, at_most, zero_fraction}
use Rattle.dyadic.specs.Rounding.{End, minus_infinity, at, plus_infinity}
use Rattle.dyadic.specs.End.{below, above, end_sign, infinite, end_product, lesser, greater}
use Rattle.dyadic.proofs.Equal.{holds_le, le_holds}
use Rattle.dyadic.proofs.Ring.{natural, minus, times, read_below}
use Rattle.interval_model.proofs.Ends.{◌⊑◌, Good, end_trans, end_total, lesser_below, greater_above, good_product, good_lesser, good_greater, zero_is_good, up_product, down_product, zero_below, zero_above, value, end_comm, infinite_comm, rises_above, rises_below, end_signs}
use lib.Signed.{≤ℤ_refl}

pub at_most_refl : (q : Fraction) → IsTrue (at_most q q)
unfolding at_most
at_most_refl q = le_holds _ _ (≤ℤ_refl (q.num *ℤ pos q.den))

pub end_refl : (e : End) → ◌⊑◌ e e
end_refl minus_infinity = refl
end_refl (at q) = at_most_refl q
end_refl plus_infinity = refl

pub below_top : (e : End) → ◌⊑◌ e plus_infinity
below_top minus_infinity = refl
below_top (at q) = refl
below_top plus_infinity = refl

pub above_bottom : (e : End) → ◌⊑◌ minus_infinity e
above_bottom e = refl

-- a number that is not negative is not below one that is
no-way : (n m d e : ℕ) → 0 < d → (pos n *ℤ pos e) ≤ℤ (negsuc m *ℤ pos d) → ⊥
no-way n m d e g h = omega (arith, mul-pos {m = suc m} {n = d} (omega arith) g, read_below (natural (n * e)) (minus (natural (suc m * d))) h)

pub not_below : (n m d e : ℕ) → 0 < d → IsTrue (at_most (value (pos n) d) (value (negsuc m) e)) → ⊥
unfolding at_most
not_below n m d e g h = no-way n m d e g (holds_le _ _ h)

pub not_negative : (m e : ℕ) → IsTrue (at_most zero_fraction (value (negsuc m) e)) → ⊥
not_negative m e h = not_below 0 m 1 e (omega arith) h

pub not_positive : (m e : ℕ) → IsTrue (at_most (value (pos (suc m)) e) zero_fraction) → ⊥
unfolding at_most
not_positive m e h = omega (arith, read_below (times (natural (suc m)) (natural 1)) (times (natural 0) (natural e)) (holds_le _ _ h))

-- ---- by a factor that is a fraction

by-zero-low : (e : End) (d : ℕ) → ◌⊑◌ (at zero_fraction) (end_product e (at (value (pos 0) d)))
by-zero-low minus_infinity d = at_most_refl zero_fraction
by-zero-low (at p) d = zero_below p d
by-zero-low plus_infinity d = at_most_refl zero_fraction

by-zero-high : (e : End) (d : ℕ) → ◌⊑◌ (end_product e (at (value (pos 0) d))) (at zero_fraction)
by-zero-high minus_infinity d = at_most_refl zero_fraction
by-zero-high (at p) d = zero_above p d
by-zero-high plus_infinity d = at_most_refl zero_fraction

pub times_zero_low : (e : End) → ◌⊑◌ (at zero_fraction) (end_product e (at zero_fraction))
times_zero_low e = by-zero-low e 1

pub times_zero_high : (e : End) → ◌⊑◌ (end_product e (at zero_fraction)) (at zero_fraction)
times_zero_high e = by-zero-high e 1

by-zero : (e f : End) (d : ℕ) → ◌⊑◌ (end_product e (at (value (pos 0) d))) (end_product f (at (value (pos 0) d)))
by-zero e f d = end_trans (end_product e (at (value (pos 0) d))) (at zero_fraction) (end_product f (at (value (pos 0) d))) zero_is_good (by-zero-high e d) (by-zero-low f d)

by-above : (e f : End) (a d : ℕ) → ◌⊑◌ e f → ◌⊑◌ (end_product e (at (value (pos (suc a)) d))) (end_product f (at (value (pos (suc a)) d)))
by-above minus_infinity f a d h = refl
by-above (at p) (at q) a d h = up_product p q (suc a) d h
by-above (at p) plus_infinity a d h = refl
by-above (at p) minus_infinity a d h = absurd (true≢false (sym h))
by-above plus_infinity plus_infinity a d h = refl
by-above plus_infinity (at q) a d h = absurd (true≢false (sym h))
by-above plus_infinity minus_infinity a d h = absurd (true≢false (sym h))

by-below : (e f : End) (a d : ℕ) → ◌⊑◌ e f → ◌⊑◌ (end_product f (at (value (negsuc a) d))) (end_product e (at (value (negsuc a) d)))
by-below minus_infinity f a d h = below_top (end_product f (at (value (negsuc a) d)))
by-below (at p) (at q) a d h = down_product p q a d h
by-below (at p) plus_infinity a d h = refl
by-below (at p) minus_infinity a d h = absurd (true≢false (sym h))
by-below plus_infinity plus_infinity a d h = refl
by-below plus_infinity (at q) a d h = absurd (true≢false (sym h))
by-below plus_infinity minus_infinity a d h = absurd (true≢false (sym h))

-- ---- by any factor

times-top : (e : End) → end_product e plus_infinity ≡ infinite above (end_sign e)
times-top minus_infinity = refl
times-top (at p) = infinite_comm (end_sign (at p)) above
times-top plus_infinity = refl

times-bottom : (e : End) → end_product e minus_infinity ≡ infinite below (end_sign e)
times-bottom minus_infinity = refl
times-bottom (at p) = infinite_comm (end_sign (at p)) below
times-bottom plus_infinity = refl

pub scale_up : (e f g : End) → Good e → Good f → ◌⊑◌ (at zero_fraction) g → ◌⊑◌ e f → ◌⊑◌ (end_product e g) (end_product f g)
scale_up e f minus_infinity i j n h = absurd (true≢false (sym n))
scale_up e f plus_infinity i j n h = rw (times-top e, times-top f) (rises_above (end_signs e f i j h))
scale_up e f (at q) i j n h = go q.num q.den n
  where
    go : (z : ℤ) (d : ℕ) → IsTrue (at_most zero_fraction (value z d)) → ◌⊑◌ (end_product e (at (value z d))) (end_product f (at (value z d)))
    go (pos zero) d n' = by-zero e f d
    go (pos (suc a)) d n' = by-above e f a d h
    go (negsuc a) d n' = absurd (not_negative a d n')

pub scale_down : (e f g : End) → Good e → Good f → ◌⊑◌ g (at zero_fraction) → ◌⊑◌ e f → ◌⊑◌ (end_product f g) (end_product e g)
scale_down e f plus_infinity i j n h = absurd (true≢false (sym n))
scale_down e f minus_infinity i j n h = rw (times-bottom e, times-bottom f) (rises_below (end_signs e f i j h))
scale_down e f (at q) i j n h = go q.num q.den n
  where
    go : (z : ℤ) (d : ℕ) → IsTrue (at_most (value z d) zero_fraction) → ◌⊑◌ (end_product f (at (value z d))) (end_product e (at (value z d)))
    go (pos zero) d n' = by-zero f e d
    go (pos (suc a)) d n' = absurd (not_positive a d n')
    go (negsuc a) d n' = by-below e f a d h

-- the same by the second factor
pub scale_up_second : (e f g : End) → Good e → Good f → ◌⊑◌ (at zero_fraction) g → ◌⊑◌ e f → ◌⊑◌ (end_product g e) (end_product g f)
scale_up_second e f g i j n h = rw (end_comm g e, end_comm g f) (scale_up e f g i j n h)

pub scale_down_second : (e f g : End) → Good e → Good f → ◌⊑◌ g (at zero_fraction) → ◌⊑◌ e f → ◌⊑◌ (end_product g f) (end_product g e)
scale_down_second e f g i j n h = rw (end_comm g e, end_comm g f) (scale_down e f g i j n h)

-- ---- between ends

-- a factor between two ends: the product lies between theirs
pub factor_below : (l h e f : End) → Good l → Good h → Good e → ◌⊑◌ l e → ◌⊑◌ e h → ◌⊑◌ (end_product l f) (end_product e f) ⊎ ◌⊑◌ (end_product h f) (end_product e f)
factor_below l h e f i j k a b = elim (end_total (at zero_fraction) f) [ inl n ↦ inl (scale_up l e f i k n a) | inr n ↦ inr (scale_down e h f k j n b) ]

pub factor_above : (l h e f : End) → Good l → Good h → Good e → ◌⊑◌ l e → ◌⊑◌ e h → ◌⊑◌ (end_product e f) (end_product l f) ⊎ ◌⊑◌ (end_product e f) (end_product h f)
factor_above l h e f i j k a b = elim (end_total (at zero_fraction) f) [ inl n ↦ inr (scale_up e h f k j n b) | inr n ↦ inl (scale_down l e f i k n a) ]

-- the lesser of what is below each of two is below the lesser of the two
lesser-mono : (a b e f g : End) → Good a → Good b → Good e → Good f → ◌⊑◌ a e → ◌⊑◌ b f → ◌⊑◌ e g ⊎ ◌⊑◌ f g → ◌⊑◌ (lesser a b) g
lesser-mono a b e f g i j k l x y (inl z) = lesser_below a b g i j (inl (end_trans a e g k x z))
lesser-mono a b e f g i j k l x y (inr z) = lesser_below a b g i j (inr (end_trans b f g l y z))

greater-mono : (a b e f g : End) → Good a → Good b → Good e → Good f → ◌⊑◌ e a → ◌⊑◌ f b → ◌⊑◌ g e ⊎ ◌⊑◌ g f → ◌⊑◌ g (greater a b)
greater-mono a b e f g i j k l x y (inl z) = greater_above a b g i j (inl (end_trans g e a k z x))
greater-mono a b e f g i j k l x y (inr z) = greater_above a b g i j (inr (end_trans g f b l z y))

abbrev pub least_of_four : (End → End → End) → End → End → End → End → End
least_of_four f l h l' h' = lesser (lesser (f l l') (f l h')) (lesser (f h l') (f h h'))

abbrev pub greatest_of_four : (End → End → End) → End → End → End → End → End
greatest_of_four f l h l' h' = greater (greater (f l l') (f l h')) (greater (f h l') (f h h'))

pub good_least : (l h l' h' : End) → Good l → Good h → Good l' → Good h' → Good (least_of_four end_product l h l' h')
good_least l h l' h' i j i' j' = good_lesser _ _ (good_lesser _ _ (good_product l l' i i') (good_product l h' i j')) (good_lesser _ _ (good_product h l' j i') (good_product h h' j j'))

pub good_greatest : (l h l' h' : End) → Good l → Good h → Good l' → Good h' → Good (greatest_of_four end_product l h l' h')
good_greatest l h l' h' i j i' j' = good_greater _ _ (good_greater _ _ (good_product l l' i i') (good_product l h' i j')) (good_greater _ _ (good_product h l' j i') (good_product h h' j j'))

-- the product of what lies between l and h with what lies between l' and h'
module _ (l h l' h' e f : End) (i : Good l) (j : Good h) (i' : Good l') (j' : Good h') (k : Good e) (k' : Good f)
    (a : ◌⊑◌ l e) (b : ◌⊑◌ e h) (a' : ◌⊑◌ l' f) (b' : ◌⊑◌ f h') where
  side-below : (g : End) → Good g → ◌⊑◌ (lesser (end_product g l') (end_product g h')) (end_product g f)
  side-below g m = lesser_below (end_product g l') (end_product g h') (end_product g f) (good_product g l' m i') (good_product g h' m j')
      (elim (end_total (at zero_fraction) g) [ inl n ↦ inl (scale_up_second l' f g i' k' n a') | inr n ↦ inr (scale_down_second f h' g k' j' n b') ])

  side-above : (g : End) → Good g → ◌⊑◌ (end_product g f) (greater (end_product g l') (end_product g h'))
  side-above g m = greater_above (end_product g l') (end_product g h') (end_product g f) (good_product g l' m i') (good_product g h' m j')
      (elim (end_total (at zero_fraction) g) [ inl n ↦ inr (scale_up_second f h' g k' j' n b') | inr n ↦ inl (scale_down_second l' f g i' k' n a') ])

  pub four_below : ◌⊑◌ (least_of_four end_product l h l' h') (end_product e f)
  four_below = lesser-mono (lesser (end_product l l') (end_product l h')) (lesser (end_product h l') (end_product h h')) (end_product l f) (end_product h f) (end_product e f)
      (good_lesser (end_product l l') (end_product l h') (good_product l l' i i') (good_product l h' i j')) (good_lesser (end_product h l') (end_product h h') (good_product h l' j i') (good_product h h' j j'))
      (good_product l f i k') (good_product h f j k') (side-below l i) (side-below h j) (factor_below l h e f i j k a b)

  pub four_above : ◌⊑◌ (end_product e f) (greatest_of_four end_product l h l' h')
  four_above = greater-mono (greater (end_product l l') (end_product l h')) (greater (end_product h l') (end_product h h')) (end_product l f) (end_product h f) (end_product e f)
      (good_greater (end_product l l') (end_product l h') (good_product l l' i i') (good_product l h' i j')) (good_greater (end_product h l') (end_product h h') (good_product h l' j i') (good_product h h' j j'))
      (good_product l f i k') (good_product h f j k') (side-above l i) (side-above h j) (factor_above l h e f i j k a b)
