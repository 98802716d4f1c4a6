-- Squares between exact ends.
use Rattle.std.proofs.Common.{◌≡◌, inl, inr, Bool, true, false, cond, ◌&&◌, refl}
use Rattle.dyadic.specs.Fraction.{zero_fraction}
use Rattle.dyadic.specs.Rounding.{End, at, end_at_most}
use Rattle.dyadic.specs.End.{end_product, lesser, greater}
use Rattle.interval_model.proofs.Ends.{◌⊑◌, Good, end_trans, end_total, other_way, good_product, good_cond, good_lesser, good_greater, lesser_below, greater_above, zero_is_good}
use Rattle.interval_model.proofs.EndsProducts.{scale_up, scale_down, scale_up_second, scale_down_second, times_zero_low}

-- squares rise from 0 up
pub squares_rise : (e f : End) → Good e → Good f → ◌⊑◌ (at zero_fraction) e → ◌⊑◌ e f → ◌⊑◌ (end_product e e) (end_product f f)
squares_rise e f i j n h = end_trans (end_product e e) (end_product f e) (end_product f f) (good_product f e j i)
    (scale_up e f e i j n h) (scale_up_second e f f i j (end_trans (at zero_fraction) e f i n h) h)

-- and fall up to 0
pub squares_fall : (e f : End) → Good e → Good f → ◌⊑◌ f (at zero_fraction) → ◌⊑◌ e f → ◌⊑◌ (end_product f f) (end_product e e)
squares_fall e f i j n h = end_trans (end_product f f) (end_product e f) (end_product e e) (good_product e f i j)
    (scale_down e f f i j n h) (scale_down_second e f e i j (end_trans e f (at zero_fraction) j h n) h)

pub square_not_negative : (e : End) → Good e → ◌⊑◌ (at zero_fraction) (end_product e e)
square_not_negative e i = elim (end_total (at zero_fraction) e) [
  | inl n ↦ end_trans (at zero_fraction) (end_product e (at zero_fraction)) (end_product e e) (good_product e (at zero_fraction) i zero_is_good) (times_zero_low e) (scale_up_second (at zero_fraction) e e zero_is_good i n n)
  | inr n ↦ end_trans (at zero_fraction) (end_product e (at zero_fraction)) (end_product e e) (good_product e (at zero_fraction) i zero_is_good) (times_zero_low e) (scale_down_second e (at zero_fraction) e i zero_is_good n n)
]

abbrev pub least_square : End → End → End
least_square l h = cond (end_at_most l (at zero_fraction) && end_at_most (at zero_fraction) h) (at zero_fraction) (lesser (end_product l l) (end_product h h))

abbrev pub greatest_square : End → End → End
greatest_square l h = greater (end_product l l) (end_product h h)

pub good_least_square : (l h : End) → Good l → Good h → Good (least_square l h)
good_least_square l h i j = good_cond (end_at_most l (at zero_fraction) && end_at_most (at zero_fraction) h) (at zero_fraction) (lesser (end_product l l) (end_product h h))
    zero_is_good (good_lesser (end_product l l) (end_product h h) (good_product l l i i) (good_product h h j j))

pub good_greatest_square : (l h : End) → Good l → Good h → Good (greatest_square l h)
good_greatest_square l h i j = good_greater (end_product l l) (end_product h h) (good_product l l i i) (good_product h h j j)

-- the square of what lies between l and h
module _ (l h e : End) (i : Good l) (j : Good h) (k : Good e) (a : ◌⊑◌ l e) (b : ◌⊑◌ e h) where
  pub square_above : ◌⊑◌ (end_product e e) (greatest_square l h)
  square_above = greater_above (end_product l l) (end_product h h) (end_product e e) (good_product l l i i) (good_product h h j j)
      (elim (end_total (at zero_fraction) e) [ inl n ↦ inr (squares_rise e h k j n b) | inr n ↦ inl (squares_fall l e i k n a) ])

  square-below-at : (t u : Bool) → end_at_most l (at zero_fraction) ≡ t → end_at_most (at zero_fraction) h ≡ u →
      ◌⊑◌ (cond (t && u) (at zero_fraction) (lesser (end_product l l) (end_product h h))) (end_product e e)
  square-below-at true true p q = square_not_negative e k
  square-below-at true false p q = lesser_below (end_product l l) (end_product h h) (end_product e e) (good_product l l i i) (good_product h h j j)
      (inr (squares_fall e h k j (other_way (at zero_fraction) h q) b))
  square-below-at false u p q = lesser_below (end_product l l) (end_product h h) (end_product e e) (good_product l l i i) (good_product h h j j)
      (inl (squares_rise l e i k (other_way l (at zero_fraction) p) a))

  pub square_below : ◌⊑◌ (least_square l h) (end_product e e)
  square_below = square-below-at (end_at_most l (at zero_fraction)) (end_at_most (at zero_fraction) h) refl refl
