-- The ends that the code multiplies give the least and the greatest products and squares.
use Rattle.std.proofs.Common.{◌≡◌, Bool, true, false, cond, ◌&&◌, IsTrue, refl, ◌∙◌, inl, inr}
use Rattle.ival.specs.declared.side.Side.{Side}
use Rattle.ival.specs.declared.side.Side.TheVariants.{Above, Below, Across}
use Rattle.dyadic.specs.Fraction.{zero_fraction}
use Rattle.dyadic.specs.Rounding.{Ext, End, at, end_of, end_at_most, ext_at_most}
use Rattle.dyadic.specs.End.{end_product, lesser, greater, lesser_ext, greater_ext, rounded_down, rounded_up}
use Rattle.interval_model.proofs.Ends.{◌⊑◌, Good, end_trans, end_comm, good_product, good_lesser, good_greater, zero_is_good, greater_above}
use Rattle.interval_model.proofs.EndsProducts.{end_refl, scale_up, times_zero_high, good_least, good_greatest}
use Rattle.interval_model.proofs.EndsSums.{good_ext}
use Rattle.interval_model.proofs.Squares.{good_least_square, good_greatest_square, square_below, square_above, squares_rise, squares_fall}
use Rattle.interval_model.proofs.Squares
use Rattle.interval_model.proofs.Isotone.{below_lesser, above_greater}
use Rattle.ival.specs.Sides.{LiesOn, first_of_least, second_of_least, first_of_greatest, second_of_greatest}
use Rattle.ival.specs.Corners.{least_product, greatest_product, square_from, square_to}
use Rattle.ival.proofs.Corners.{least_corner, greatest_corner, least_at, greatest_at}
use Rattle.ival.proofs.Rounded.{down_alike, up_alike, down_lesser, up_greater}

-- not both across 0
abbrev pub IsSingle : Side → Side → Type 0
IsSingle Across Across = ⊥
IsSingle s t = Unit {0}

pub single_first : (s t : Side) → (s ≡ Across → ⊥) → IsSingle s t
single_first Above t h = tt
single_first Below t h = tt
single_first Across t h = absurd (h refl)

pub single_second : (s t : Side) → (t ≡ Across → ⊥) → IsSingle s t
single_second Above t h = tt
single_second Below t h = tt
single_second Across Above h = tt
single_second Across Below h = tt
single_second Across Across h = absurd (h refl)

module _ (l h m k : Ext) (b : IsTrue (ext_at_most l h)) (b' : IsTrue (ext_at_most m k)) where
  gl : Good (end_of l)
  gl = good_ext l

  gh : Good (end_of h)
  gh = good_ext h

  gm : Good (end_of m)
  gm = good_ext m

  gk : Good (end_of k)
  gk = good_ext k

  low-good : (s t : Side) → Good (least_corner s t (end_of l) (end_of h) (end_of m) (end_of k))
  low-good Above Above = good_product (end_of l) (end_of m) gl gm
  low-good Above Below = good_product (end_of h) (end_of m) gh gm
  low-good Above Across = good_product (end_of h) (end_of m) gh gm
  low-good Below Above = good_product (end_of l) (end_of k) gl gk
  low-good Below Below = good_product (end_of h) (end_of k) gh gk
  low-good Below Across = good_product (end_of l) (end_of k) gl gk
  low-good Across Above = good_product (end_of l) (end_of k) gl gk
  low-good Across Below = good_product (end_of h) (end_of m) gh gm
  low-good Across Across = good_lesser (end_product (end_of l) (end_of k)) (end_product (end_of h) (end_of m)) (good_product (end_of l) (end_of k) gl gk) (good_product (end_of h) (end_of m) gh gm)

  high-good : (s t : Side) → Good (greatest_corner s t (end_of l) (end_of h) (end_of m) (end_of k))
  high-good Above Above = good_product (end_of h) (end_of k) gh gk
  high-good Above Below = good_product (end_of l) (end_of k) gl gk
  high-good Above Across = good_product (end_of h) (end_of k) gh gk
  high-good Below Above = good_product (end_of h) (end_of m) gh gm
  high-good Below Below = good_product (end_of l) (end_of m) gl gm
  high-good Below Across = good_product (end_of l) (end_of m) gl gm
  high-good Across Above = good_product (end_of h) (end_of k) gh gk
  high-good Across Below = good_product (end_of l) (end_of m) gl gm
  high-good Across Across = good_greater (end_product (end_of l) (end_of m)) (end_product (end_of h) (end_of k)) (good_product (end_of l) (end_of m) gl gm) (good_product (end_of h) (end_of k) gh gk)

  corner-low : (s t : Side) → LiesOn s (end_of l) (end_of h) → LiesOn t (end_of m) (end_of k) → rounded_down (least_corner s t (end_of l) (end_of h) (end_of m) (end_of k)) ≡ least_product l h m k
  corner-low s t x y = down_alike (least_corner s t (end_of l) (end_of h) (end_of m) (end_of k)) _ (low-good s t) (good_least (end_of l) (end_of h) (end_of m) (end_of k) gl gh gm gk)
      (least_at (end_of l) (end_of h) (end_of m) (end_of k) gl gh gm gk b b' s t x y)

  corner-high : (s t : Side) → LiesOn s (end_of l) (end_of h) → LiesOn t (end_of m) (end_of k) → rounded_up (greatest_corner s t (end_of l) (end_of h) (end_of m) (end_of k)) ≡ greatest_product l h m k
  corner-high s t x y = up_alike (greatest_corner s t (end_of l) (end_of h) (end_of m) (end_of k)) _ (high-good s t) (good_greatest (end_of l) (end_of h) (end_of m) (end_of k) gl gh gm gk)
      (greatest_at (end_of l) (end_of h) (end_of m) (end_of k) gl gh gm gk b b' s t x y)

  pub least_single : (s t : Side) → IsSingle s t → LiesOn s (end_of l) (end_of h) → LiesOn t (end_of m) (end_of k) →
      rounded_down (end_product (end_of (first_of_least s t l h)) (end_of (second_of_least s t m k))) ≡ least_product l h m k
  least_single Above Above o x y = corner-low Above Above x y
  least_single Above Below o x y = corner-low Above Below x y
  least_single Above Across o x y = corner-low Above Across x y
  least_single Below Above o x y = corner-low Below Above x y
  least_single Below Below o x y = corner-low Below Below x y
  least_single Below Across o x y = corner-low Below Across x y
  least_single Across Above o x y = corner-low Across Above x y
  least_single Across Below o x y = corner-low Across Below x y
  least_single Across Across o x y = absurd o

  pub greatest_single : (s t : Side) → IsSingle s t → LiesOn s (end_of l) (end_of h) → LiesOn t (end_of m) (end_of k) →
      rounded_up (end_product (end_of (first_of_greatest s t l h)) (end_of (second_of_greatest s t m k))) ≡ greatest_product l h m k
  greatest_single Above Above o x y = corner-high Above Above x y
  greatest_single Above Below o x y = corner-high Above Below x y
  greatest_single Above Across o x y = corner-high Above Across x y
  greatest_single Below Above o x y = corner-high Below Above x y
  greatest_single Below Below o x y = corner-high Below Below x y
  greatest_single Below Across o x y = corner-high Below Across x y
  greatest_single Across Above o x y = corner-high Across Above x y
  greatest_single Across Below o x y = corner-high Across Below x y
  greatest_single Across Across o x y = absurd o

  pub least_double : LiesOn Across (end_of l) (end_of h) → LiesOn Across (end_of m) (end_of k) →
      lesser_ext (rounded_down (end_product (end_of l) (end_of k))) (rounded_down (end_product (end_of h) (end_of m))) ≡ least_product l h m k
  least_double x y = down_lesser (end_product (end_of l) (end_of k)) (end_product (end_of h) (end_of m)) (good_product (end_of l) (end_of k) gl gk) (good_product (end_of h) (end_of m) gh gm) ∙ corner-low Across Across x y

  pub greatest_double : LiesOn Across (end_of l) (end_of h) → LiesOn Across (end_of m) (end_of k) →
      greater_ext (rounded_up (end_product (end_of l) (end_of m))) (rounded_up (end_product (end_of h) (end_of k))) ≡ greatest_product l h m k
  greatest_double x y = up_greater (end_product (end_of l) (end_of m)) (end_product (end_of h) (end_of k)) (good_product (end_of l) (end_of m) gl gm) (good_product (end_of h) (end_of k) gh gk) ∙ corner-high Across Across x y

-- ---- squares

-- an end on both sides of 0 has no square above 0
zero-square : (e : End) → Good e → ◌⊑◌ (at zero_fraction) e → ◌⊑◌ e (at zero_fraction) → ◌⊑◌ (end_product e e) (at zero_fraction)
zero-square e i x y = end_trans (end_product e e) (end_product e (at zero_fraction)) (at zero_fraction) (good_product e (at zero_fraction) i zero_is_good)
    (rw (end_comm e (at zero_fraction)) (scale_up e (at zero_fraction) e i zero_is_good x y)) (times_zero_high e)

module _ (l h : Ext) (b : IsTrue (ext_at_most l h)) where
  abbrev lo : End
  lo = end_of l

  abbrev hi : End
  hi = end_of h

  abbrev ll : End
  ll = end_product lo lo

  abbrev hh : End
  hh = end_product hi hi

  good-ll : Good ll
  good-ll = good_product lo lo (good_ext l) (good_ext l)

  good-hh : Good hh
  good-hh = good_product hi hi (good_ext h) (good_ext h)

  above-low : ◌⊑◌ (at zero_fraction) lo → (t u : Bool) → end_at_most lo (at zero_fraction) ≡ t → end_at_most (at zero_fraction) hi ≡ u → ◌⊑◌ ll (cond (t && u) (at zero_fraction) (lesser ll hh))
  above-low x true true p q = zero-square lo (good_ext l) x p
  above-low x true false p q = below_lesser ll hh ll (end_refl ll) (squares_rise lo hi (good_ext l) (good_ext h) x b)
  above-low x false u p q = below_lesser ll hh ll (end_refl ll) (squares_rise lo hi (good_ext l) (good_ext h) x b)

  below-low : ◌⊑◌ hi (at zero_fraction) → (t u : Bool) → end_at_most lo (at zero_fraction) ≡ t → end_at_most (at zero_fraction) hi ≡ u → ◌⊑◌ hh (cond (t && u) (at zero_fraction) (lesser ll hh))
  below-low x true true p q = zero-square hi (good_ext h) q x
  below-low x true false p q = below_lesser ll hh hh (squares_fall lo hi (good_ext l) (good_ext h) x b) (end_refl hh)
  below-low x false u p q = below_lesser ll hh hh (squares_fall lo hi (good_ext l) (good_ext h) x b) (end_refl hh)

  pub square_low_above : ◌⊑◌ (at zero_fraction) lo → rounded_down ll ≡ square_from l h
  square_low_above x = down_alike ll (Squares.least_square lo hi) good-ll (good_least_square lo hi (good_ext l) (good_ext h))
      (above-low x (end_at_most lo (at zero_fraction)) (end_at_most (at zero_fraction) hi) refl refl, square_below lo hi lo (good_ext l) (good_ext h) (good_ext l) (end_refl lo) b)

  pub square_low_below : ◌⊑◌ hi (at zero_fraction) → rounded_down hh ≡ square_from l h
  square_low_below x = down_alike hh (Squares.least_square lo hi) good-hh (good_least_square lo hi (good_ext l) (good_ext h))
      (below-low x (end_at_most lo (at zero_fraction)) (end_at_most (at zero_fraction) hi) refl refl, square_below lo hi hi (good_ext l) (good_ext h) (good_ext h) b (end_refl hi))

  pub square_high_above : ◌⊑◌ (at zero_fraction) lo → rounded_up hh ≡ square_to l h
  square_high_above x = up_alike hh (greater ll hh) good-hh (good_greater ll hh good-ll good-hh)
      (greater_above ll hh hh good-ll good-hh (inr (end_refl hh)), above_greater ll hh hh (squares_rise lo hi (good_ext l) (good_ext h) x b) (end_refl hh))

  pub square_high_below : ◌⊑◌ hi (at zero_fraction) → rounded_up ll ≡ square_to l h
  square_high_below x = up_alike ll (greater ll hh) good-ll (good_greater ll hh good-ll good-hh)
      (greater_above ll hh ll good-ll good-hh (inl (end_refl ll)), above_greater ll hh ll (end_refl ll) (squares_fall lo hi (good_ext l) (good_ext h) x b))

  pub square_high_across : greater_ext (rounded_up ll) (rounded_up hh) ≡ square_to l h
  square_high_across = up_greater ll hh good-ll good-hh
