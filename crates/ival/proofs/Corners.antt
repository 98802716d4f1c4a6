-- Which of the four products of ends is the least, and which the greatest, by the sides of 0 on which the factors lie.
use Rattle.std.proofs.Common.{◌⊎◌, inl, inr}
use Rattle.ival.specs.declared.side.Side.{Side}
use Rattle.ival.specs.declared.side.Side.TheVariants.{Above, Below, Across}
use Rattle.dyadic.specs.Fraction.{zero_fraction}
use Rattle.dyadic.specs.Rounding.{End, at}
use Rattle.dyadic.specs.End.{end_product, lesser, greater}
use Rattle.interval_model.proofs.Ends.{◌⊑◌, Good, end_trans, lesser_below, greater_above, good_product, good_lesser, good_greater}
use Rattle.interval_model.proofs.EndsProducts.{end_refl, scale_up, scale_down, scale_up_second, scale_down_second, least_of_four, greatest_of_four}
use Rattle.interval_model.proofs.Isotone.{below_lesser, above_greater}
use Rattle.ival.specs.Sides.{LiesOn, first_of_least, second_of_least, first_of_greatest, second_of_greatest}

-- each lies below the other
abbrev pub IsAlike : End → End → Type 0
IsAlike e f = ◌⊑◌ e f × ◌⊑◌ f e

-- the end whose products are the least or the greatest
abbrev pub least_corner : Side → Side → End → End → End → End → End
least_corner Across Across l h l' h' = lesser (end_product l h') (end_product h l')
least_corner s t l h l' h' = end_product (first_of_least s t l h) (second_of_least s t l' h')

abbrev pub greatest_corner : Side → Side → End → End → End → End → End
greatest_corner Across Across l h l' h' = greater (end_product l l') (end_product h h')
greatest_corner s t l h l' h' = end_product (first_of_greatest s t l h) (second_of_greatest s t l' h')

-- l to h, and l' to h'
module _ (l h l' h' : End) (gl : Good l) (gh : Good h) (gl' : Good l') (gh' : Good h') (b : ◌⊑◌ l h) (b' : ◌⊑◌ l' h') where
  abbrev least : End
  least = least_of_four end_product l h l' h'

  abbrev greatest : End
  greatest = greatest_of_four end_product l h l' h'

  first-up : ◌⊑◌ (at zero_fraction) l → ◌⊑◌ (at zero_fraction) h
  first-up x = end_trans (at zero_fraction) l h gl x b

  first-down : ◌⊑◌ h (at zero_fraction) → ◌⊑◌ l (at zero_fraction)
  first-down x = end_trans l h (at zero_fraction) gh b x

  second-up : ◌⊑◌ (at zero_fraction) l' → ◌⊑◌ (at zero_fraction) h'
  second-up x = end_trans (at zero_fraction) l' h' gl' x b'

  second-down : ◌⊑◌ h' (at zero_fraction) → ◌⊑◌ l' (at zero_fraction)
  second-down x = end_trans l' h' (at zero_fraction) gh' b' x

  row-up : (e : End) → Good e → ◌⊑◌ (at zero_fraction) e → ◌⊑◌ (end_product e l') (end_product e h')
  row-up e i n = scale_up_second l' h' e gl' gh' n b'

  row-down : (e : End) → Good e → ◌⊑◌ e (at zero_fraction) → ◌⊑◌ (end_product e h') (end_product e l')
  row-down e i n = scale_down_second l' h' e gl' gh' n b'

  column-up : (f : End) → Good f → ◌⊑◌ (at zero_fraction) f → ◌⊑◌ (end_product l f) (end_product h f)
  column-up f i n = scale_up l h f gl gh n b

  column-down : (f : End) → Good f → ◌⊑◌ f (at zero_fraction) → ◌⊑◌ (end_product h f) (end_product l f)
  column-down f i n = scale_down l h f gl gh n b

  under-four : (g : End) → ◌⊑◌ g (end_product l l') → ◌⊑◌ g (end_product l h') → ◌⊑◌ g (end_product h l') → ◌⊑◌ g (end_product h h') → ◌⊑◌ g least
  under-four g p q r s = below_lesser (lesser (end_product l l') (end_product l h')) (lesser (end_product h l') (end_product h h')) g (below_lesser (end_product l l') (end_product l h') g p q) (below_lesser (end_product h l') (end_product h h') g r s)

  over-four : (g : End) → ◌⊑◌ (end_product l l') g → ◌⊑◌ (end_product l h') g → ◌⊑◌ (end_product h l') g → ◌⊑◌ (end_product h h') g → ◌⊑◌ greatest g
  over-four g p q r s = above_greater (greater (end_product l l') (end_product l h')) (greater (end_product h l') (end_product h h')) g (above_greater (end_product l l') (end_product l h') g p q) (above_greater (end_product h l') (end_product h h') g r s)

  left-least : (g : End) → ◌⊑◌ (end_product l l') g ⊎ ◌⊑◌ (end_product l h') g → ◌⊑◌ least g
  left-least g x = lesser_below (lesser (end_product l l') (end_product l h')) (lesser (end_product h l') (end_product h h')) g
      (good_lesser _ _ (good_product l l' gl gl') (good_product l h' gl gh')) (good_lesser _ _ (good_product h l' gh gl') (good_product h h' gh gh'))
      (inl (lesser_below (end_product l l') (end_product l h') g (good_product l l' gl gl') (good_product l h' gl gh') x))

  right-least : (g : End) → ◌⊑◌ (end_product h l') g ⊎ ◌⊑◌ (end_product h h') g → ◌⊑◌ least g
  right-least g x = lesser_below (lesser (end_product l l') (end_product l h')) (lesser (end_product h l') (end_product h h')) g
      (good_lesser _ _ (good_product l l' gl gl') (good_product l h' gl gh')) (good_lesser _ _ (good_product h l' gh gl') (good_product h h' gh gh'))
      (inr (lesser_below (end_product h l') (end_product h h') g (good_product h l' gh gl') (good_product h h' gh gh') x))

  left-greatest : (g : End) → ◌⊑◌ g (end_product l l') ⊎ ◌⊑◌ g (end_product l h') → ◌⊑◌ g greatest
  left-greatest g x = greater_above (greater (end_product l l') (end_product l h')) (greater (end_product h l') (end_product h h')) g
      (good_greater _ _ (good_product l l' gl gl') (good_product l h' gl gh')) (good_greater _ _ (good_product h l' gh gl') (good_product h h' gh gh'))
      (inl (greater_above (end_product l l') (end_product l h') g (good_product l l' gl gl') (good_product l h' gl gh') x))

  right-greatest : (g : End) → ◌⊑◌ g (end_product h l') ⊎ ◌⊑◌ g (end_product h h') → ◌⊑◌ g greatest
  right-greatest g x = greater_above (greater (end_product l l') (end_product l h')) (greater (end_product h l') (end_product h h')) g
      (good_greater _ _ (good_product l l' gl gl') (good_product l h' gl gh')) (good_greater _ _ (good_product h l' gh gl') (good_product h h' gh gh'))
      (inr (greater_above (end_product h l') (end_product h h') g (good_product h l' gh gl') (good_product h h' gh gh') x))

  first-least : ◌⊑◌ least (end_product l l')
  first-least = left-least (end_product l l') (inl (end_refl (end_product l l')))

  second-least : ◌⊑◌ least (end_product l h')
  second-least = left-least (end_product l h') (inr (end_refl (end_product l h')))

  third-least : ◌⊑◌ least (end_product h l')
  third-least = right-least (end_product h l') (inl (end_refl (end_product h l')))

  fourth-least : ◌⊑◌ least (end_product h h')
  fourth-least = right-least (end_product h h') (inr (end_refl (end_product h h')))

  first-greatest : ◌⊑◌ (end_product l l') greatest
  first-greatest = left-greatest (end_product l l') (inl (end_refl (end_product l l')))

  second-greatest : ◌⊑◌ (end_product l h') greatest
  second-greatest = left-greatest (end_product l h') (inr (end_refl (end_product l h')))

  third-greatest : ◌⊑◌ (end_product h l') greatest
  third-greatest = right-greatest (end_product h l') (inl (end_refl (end_product h l')))

  fourth-greatest : ◌⊑◌ (end_product h h') greatest
  fourth-greatest = right-greatest (end_product h h') (inr (end_refl (end_product h h')))

  lesser-first : ◌⊑◌ (lesser (end_product l h') (end_product h l')) (end_product l h')
  lesser-first = lesser_below (end_product l h') (end_product h l') (end_product l h') (good_product l h' gl gh') (good_product h l' gh gl') (inl (end_refl (end_product l h')))

  lesser-second : ◌⊑◌ (lesser (end_product l h') (end_product h l')) (end_product h l')
  lesser-second = lesser_below (end_product l h') (end_product h l') (end_product h l') (good_product l h' gl gh') (good_product h l' gh gl') (inr (end_refl (end_product h l')))

  greater-first : ◌⊑◌ (end_product l l') (greater (end_product l l') (end_product h h'))
  greater-first = greater_above (end_product l l') (end_product h h') (end_product l l') (good_product l l' gl gl') (good_product h h' gh gh') (inl (end_refl (end_product l l')))

  greater-second : ◌⊑◌ (end_product h h') (greater (end_product l l') (end_product h h'))
  greater-second = greater_above (end_product l l') (end_product h h') (end_product h h') (good_product l l' gl gl') (good_product h h' gh gh') (inr (end_refl (end_product h h')))

  least-across : LiesOn Across l h → LiesOn Across l' h' → IsAlike (lesser (end_product l h') (end_product h l')) least
  least-across x y = (
    under-four (lesser (end_product l h') (end_product h l'))
        (end_trans (lesser (end_product l h') (end_product h l')) (end_product l h') (end_product l l') (good_product l h' gl gh') lesser-first (row-down l gl x.0))
        lesser-first lesser-second
        (end_trans (lesser (end_product l h') (end_product h l')) (end_product l h') (end_product h h') (good_product l h' gl gh') lesser-first (column-up h' gh' y.1)),
    below_lesser (end_product l h') (end_product h l') least second-least third-least,
  )

  greatest-across : LiesOn Across l h → LiesOn Across l' h' → IsAlike (greater (end_product l l') (end_product h h')) greatest
  greatest-across x y = (
    above_greater (end_product l l') (end_product h h') greatest first-greatest fourth-greatest,
    over-four (greater (end_product l l') (end_product h h')) greater-first
        (end_trans (end_product l h') (end_product l l') (greater (end_product l l') (end_product h h')) (good_product l l' gl gl') (row-down l gl x.0) greater-first)
        (end_trans (end_product h l') (end_product h h') (greater (end_product l l') (end_product h h')) (good_product h h' gh gh') (row-up h gh x.1) greater-second)
        greater-second,
  )

  pub least_at : (s t : Side) → LiesOn s l h → LiesOn t l' h' → IsAlike (least_corner s t l h l' h') least
  least_at Above Above x y = (under-four (end_product l l') (end_refl (end_product l l')) (row-up l gl x) (column-up l' gl' y) (end_trans (end_product l l') (end_product l h') (end_product h h') (good_product l h' gl gh') (row-up l gl x) (column-up h' gh' (second-up y))), first-least)
  least_at Above Below x y = (under-four (end_product h l') (column-down l' gl' (second-down y)) (end_trans (end_product h l') (end_product h h') (end_product l h') (good_product h h' gh gh') (row-up h gh (first-up x)) (column-down h' gh' y)) (end_refl (end_product h l')) (row-up h gh (first-up x)), third-least)
  least_at Above Across x y = (under-four (end_product h l') (column-down l' gl' y.0) (end_trans (end_product h l') (end_product l l') (end_product l h') (good_product l l' gl gl') (column-down l' gl' y.0) (row-up l gl x)) (end_refl (end_product h l')) (row-up h gh (first-up x)), third-least)
  least_at Below Above x y = (under-four (end_product l h') (row-down l gl (first-down x)) (end_refl (end_product l h')) (end_trans (end_product l h') (end_product l l') (end_product h l') (good_product l l' gl gl') (row-down l gl (first-down x)) (column-up l' gl' y)) (column-up h' gh' (second-up y)), second-least)
  least_at Below Below x y = (under-four (end_product h h') (end_trans (end_product h h') (end_product h l') (end_product l l') (good_product h l' gh gl') (row-down h gh x) (column-down l' gl' (second-down y))) (column-down h' gh' y) (row-down h gh x) (end_refl (end_product h h')), fourth-least)
  least_at Below Across x y = (under-four (end_product l h') (row-down l gl (first-down x)) (end_refl (end_product l h')) (end_trans (end_product l h') (end_product h h') (end_product h l') (good_product h h' gh gh') (column-up h' gh' y.1) (row-down h gh x)) (column-up h' gh' y.1), second-least)
  least_at Across Above x y = (under-four (end_product l h') (row-down l gl x.0) (end_refl (end_product l h')) (end_trans (end_product l h') (end_product l l') (end_product h l') (good_product l l' gl gl') (row-down l gl x.0) (column-up l' gl' y)) (column-up h' gh' (second-up y)), second-least)
  least_at Across Below x y = (under-four (end_product h l') (column-down l' gl' (second-down y)) (end_trans (end_product h l') (end_product h h') (end_product l h') (good_product h h' gh gh') (row-up h gh x.1) (column-down h' gh' y)) (end_refl (end_product h l')) (row-up h gh x.1), third-least)
  least_at Across Across x y = least-across x y

  pub greatest_at : (s t : Side) → LiesOn s l h → LiesOn t l' h' → IsAlike (greatest_corner s t l h l' h') greatest
  greatest_at Above Above x y = (fourth-greatest, over-four (end_product h h') (end_trans (end_product l l') (end_product l h') (end_product h h') (good_product l h' gl gh') (row-up l gl x) (column-up h' gh' (second-up y))) (column-up h' gh' (second-up y)) (row-up h gh (first-up x)) (end_refl (end_product h h')))
  greatest_at Above Below x y = (second-greatest, over-four (end_product l h') (row-up l gl x) (end_refl (end_product l h')) (end_trans (end_product h l') (end_product h h') (end_product l h') (good_product h h' gh gh') (row-up h gh (first-up x)) (column-down h' gh' y)) (column-down h' gh' y))
  greatest_at Above Across x y = (fourth-greatest, over-four (end_product h h') (end_trans (end_product l l') (end_product l h') (end_product h h') (good_product l h' gl gh') (row-up l gl x) (column-up h' gh' y.1)) (column-up h' gh' y.1) (row-up h gh (first-up x)) (end_refl (end_product h h')))
  greatest_at Below Above x y = (third-greatest, over-four (end_product h l') (column-up l' gl' y) (end_trans (end_product l h') (end_product l l') (end_product h l') (good_product l l' gl gl') (row-down l gl (first-down x)) (column-up l' gl' y)) (end_refl (end_product h l')) (row-down h gh x))
  greatest_at Below Below x y = (first-greatest, over-four (end_product l l') (end_refl (end_product l l')) (row-down l gl (first-down x)) (column-down l' gl' (second-down y)) (end_trans (end_product h h') (end_product h l') (end_product l l') (good_product h l' gh gl') (row-down h gh x) (column-down l' gl' (second-down y))))
  greatest_at Below Across x y = (first-greatest, over-four (end_product l l') (end_refl (end_product l l')) (row-down l gl (first-down x)) (column-down l' gl' y.0) (end_trans (end_product h h') (end_product h l') (end_product l l') (good_product h l' gh gl') (row-down h gh x) (column-down l' gl' y.0)))
  greatest_at Across Above x y = (fourth-greatest, over-four (end_product h h') (end_trans (end_product l l') (end_product h l') (end_product h h') (good_product h l' gh gl') (column-up l' gl' y) (row-up h gh x.1)) (column-up h' gh' (second-up y)) (row-up h gh x.1) (end_refl (end_product h h')))
  greatest_at Across Below x y = (first-greatest, over-four (end_product l l') (end_refl (end_product l l')) (row-down l gl x.0) (column-down l' gl' (second-down y)) (end_trans (end_product h h') (end_product l h') (end_product l l') (good_product l h' gl gh') (column-down h' gh' y) (row-down l gl x.0)))
  greatest_at Across Across x y = greatest-across x y
