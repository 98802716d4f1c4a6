-- The range of an expansion holds its value, and what narrowing leaves to each axis holds the axis's value.
use Rattle.std.proofs.Common.{◌≡◌, ℕ, List, [], ◌∷◌, Bool, true, false, IsTrue, Option, Some, None, refl, ap, subst, ◌∙◌}
use Rattle.dyadic.specs.Fraction.{Fraction, IsFraction, zero_fraction, difference_of, sum_of, product_of, negated}
use Rattle.interval_model.specs.Interval.{Interval, interval_negated, interval_sum, interval_product, interval_square, inverse_product, misses_nought}
use Rattle.dyadic.proofs.Equal.{◌≈◌, ≈_refl, ≈_sym, ≈_trans, sum_same}
use Rattle.interval_model.proofs.Ends.{product_is_good, product_comm, zero_is_good}
use Rattle.interval_model.proofs.EndsSums.{sum_is_good}
use Rattle.interval_model.proofs.Holds.{Holds, same_holds, met_holds, sum_holds, negated_holds, product_holds, square_holds, everything_holds}
use Rattle.interval_model.proofs.HoldsGrid.{inverse_product_kept}
use Rattle.interval_model.proofs.Inverses.{sum_comm, sum_less, inverse_product_holds}
use Rattle.interval_model.specs.Space.{Space, axis_interval}
use Rattle.cover_model.specs.Combination.{interval_difference, Part, completed, completed_left, met_if, both_range, apart_range, part_range, parts_range, both_left, left_to, tightened}
use Rattle.cover_model.proofs.CombinationFractions.{sum_assoc, taken_back, left_part, back_again, plus_nought, minus_nought, negated_sum, off_good, nought_holds}
use Rattle.cover_model.proofs.CombinationReached.{Both, Left, same_left, more_left}
use Rattle.cover_model.proofs.CombinationCompleted.{completed_holds, left_holds, root_holds}

-- a met interval holds what both hold
met-if-holds : (t : Bool) (i j : Interval) (x : Fraction) → IsFraction x → Holds i x → (IsTrue t → Holds j x) → Holds (met_if t i j) x
met-if-holds true i j x g h f = met_holds i j x g h (f refl)
met-if-holds false i j x g h f = h

-- ---- the parts of one variable, whose difference is x

-- a value of both parts, and what is left without it
record Value (P : Fraction → Type 0) (o q : Option Interval) (d : Interval) (x f : Fraction) : Type 0 where
  value : Fraction
  value_good : IsFraction value
  in_range : Holds (both_range o q d) value
  rest_is : P (difference_of f value)
  allowed : (s : Interval) → Holds s value → Holds (both_left s o q d) x

-- (f - y) - z is f - (y + z)
both-off : (f y z : Fraction) → difference_of (difference_of f y) z ≡ difference_of f (sum_of y z)
both-off f y z = sum_assoc f (negated y) (negated z) ∙ ap (sum_of f) (negated_sum y z)

module _ (P : Fraction → Type 0) (same : (f g : Fraction) → IsFraction f → IsFraction g → f ≈ g → P f → P g) (d : Interval) (x : Fraction) (gx : IsFraction x) (hx : Holds d x) where
  gxx : IsFraction (product_of x x)
  gxx = product_is_good x x gx gx

  value-of : (o q : Option Interval) (f : Fraction) → IsFraction f → Both o q x P f → Value P o q d x f
  value-of None None f g t = record { value = zero_fraction; value_good = zero_is_good; in_range = nought_holds; rest_is = same f (difference_of f zero_fraction) g (off_good f zero_fraction g zero_is_good) (≈_sym (minus_nought f)) t; allowed = λ s h. everything_holds x }
  value-of (Some w) None f g t = let z : Fraction = product_of t.0 x in record {
    value = z;
    value_good = product_is_good t.0 x t.1 gx;
    in_range = product_holds w d t.0 x t.1 gx t.2 hx;
    rest_is = t.3;
    allowed = λ s h. inverse_product_holds s w x t.0 gx t.1 (subst (Holds s) (product_comm t.0 x) h) t.2;
  }
  value-of None (Some q) f g t = let z : Fraction = product_of t.0 (product_of x x) in record {
    value = z;
    value_good = product_is_good t.0 (product_of x x) t.1 gxx;
    in_range = product_holds q (interval_square d) t.0 (product_of x x) t.1 gxx t.2 (square_holds d x gx hx);
    rest_is = t.3;
    allowed = λ s h. root_holds d (inverse_product s q) x (inverse_product_kept s q) gx hx (inverse_product_holds s q (product_of x x) t.0 gxx t.1 (subst (Holds s) (product_comm t.0 (product_of x x)) h) t.2);
  }
  value-of (Some w) (Some q) f g t =
      let a : Fraction = t.0 in let r = t.3 in let k : Fraction = r.0 in
      let y : Fraction = product_of a x in let gy : IsFraction y = product_is_good a x t.1 gx in let z : Fraction = product_of k (product_of x x) in let gz : IsFraction z = product_is_good k (product_of x x) r.1 gxx in
      let gyz : IsFraction (sum_of y z) = sum_is_good y z gy gz in
      let hz : Holds (interval_product q (interval_square d)) z = product_holds q (interval_square d) k (product_of x x) r.1 gxx r.2 (square_holds d x gx hx) in record {
        value = sum_of y z;
        value_good = gyz;
        in_range = met-if-holds (misses_nought (interval_sum q q)) (interval_sum (interval_product w d) (interval_product q (interval_square d))) (completed w q d) (sum_of y z) gyz
            (sum_holds (interval_product w d) (interval_product q (interval_square d)) y z (product_holds w d a x t.1 gx t.2 hx) hz)
            (λ m. completed_holds w q d a k x t.1 r.1 gx m t.2 r.2 hx);
        rest_is = subst P (both-off f y z) r.3;
        allowed = λ s h. met-if-holds (misses_nought (interval_sum q q)) (inverse_product (interval_difference s (interval_product q (interval_square d))) w) (completed_left s w q d) x gx
            (inverse_product_holds (interval_difference s (interval_product q (interval_square d))) w x a gx t.1
            (subst (Holds (interval_difference s (interval_product q (interval_square d)))) (product_comm a x)
            (same_holds (interval_difference s (interval_product q (interval_square d))) (difference_of (sum_of y z) z) y (off_good (sum_of y z) z gyz gz) gy (sum_less y z)
            (sum_holds s (interval_negated (interval_product q (interval_square d))) (sum_of y z) (negated z) h (negated_holds (interval_product q (interval_square d)) z hz)))) t.2)
            (λ m. left_holds w q d a k x t.1 r.1 gx m t.2 r.2 hx s h);
      }

module _ (off : ℕ → Fraction) (good : (k : ℕ) → IsFraction (off k)) (IsReal : ℕ → Type 0) (space centre : Space) (uxs vxs : ℕ → Fraction) (gux : (axis : ℕ) → IsFraction (uxs axis)) (gvx : (axis : ℕ) → IsFraction (vxs axis))
    (hux : (axis : ℕ) → IsReal axis → Holds (axis_interval centre axis) (uxs axis)) (hvx : (axis : ℕ) → IsReal axis → Holds (axis_interval space axis) (vxs axis)) where
  abbrev pub away : ℕ → Fraction
  away axis = difference_of (vxs axis) (uxs axis)

  pub away_good : (axis : ℕ) → IsFraction (away axis)
  away_good axis = off_good (vxs axis) (uxs axis) (gvx axis) (gux axis)

  abbrev pub IsLeft : List Part → Interval → Fraction → Type 0
  IsLeft ps acc f = Left off good IsReal away away_good ps acc f

  away-holds : (axis : ℕ) → IsReal axis → Holds (apart_range space centre axis) (away axis)
  away-holds axis n = sum_holds (axis_interval space axis) (interval_negated (axis_interval centre axis)) (vxs axis) (negated (uxs axis)) (hvx axis n) (negated_holds (axis_interval centre axis) (uxs axis) (hux axis n))

  part-value : (x : Part) (ps : List Part) (acc : Interval) (f : Fraction) → IsFraction f → IsLeft (x ∷ ps) acc f → Value (IsLeft ps acc) x.linear x.square (apart_range space centre x.axis) (away x.axis) f
  part-value x ps acc f g h = value-of (IsLeft ps acc) (λ f' g' i j e. same_left off good IsReal away away_good ps acc f' g' (i, j, e)) (apart_range space centre x.axis) (away x.axis) (away_good x.axis) (away-holds x.axis h.0) x.linear x.square f g h.1

  -- the value is one of the rest and one of the parts
  record Split (ps : List Part) (acc : Interval) (f : Fraction) : Type 0 where
    rest : Fraction
    parts : Fraction
    rest_good : IsFraction rest
    parts_good : IsFraction parts
    in_rest : Holds acc rest
    in_parts : Holds (parts_range space centre ps) parts
    both : sum_of rest parts ≈ f

  -- e + (z + r) is f, where e + r is f - z
  rejoined : (e z r f : Fraction) → IsFraction e → IsFraction z → IsFraction r → IsFraction f → sum_of e r ≈ difference_of f z → sum_of e (sum_of z r) ≈ f
  rejoined e z r f ge gz gr gf h = ≈_trans (sum_is_good (difference_of f z) z (off_good f z gf gz) gz)
      (subst (λ (x : Fraction). x ≈ sum_of (difference_of f z) z) (sum_assoc e r z ∙ ap (sum_of e) (sum_comm r z)) (sum_same h (≈_refl z))) (taken_back f z)

  split : (ps : List Part) (acc : Interval) (f : Fraction) → IsFraction f → IsLeft ps acc f → Split ps acc f
  split [] acc f g h = record { rest = f; parts = zero_fraction; rest_good = g; parts_good = zero_is_good; in_rest = h; in_parts = nought_holds; both = plus_nought f }
  split (x ∷ ps) acc f g h =
      let t = part-value x ps acc f g h in let s = split ps acc (difference_of f t.value) (off_good f t.value g t.value_good) t.rest_is in record {
        rest = s.rest;
        parts = sum_of t.value s.parts;
        rest_good = s.rest_good;
        parts_good = sum_is_good t.value s.parts t.value_good s.parts_good;
        in_rest = s.in_rest;
        in_parts = sum_holds (part_range space centre x) (parts_range space centre ps) t.value s.parts t.in_range s.in_parts;
        both = rejoined s.rest t.value s.parts f s.rest_good t.value_good s.parts_good g s.both;
      }

  -- the rest and the parts together hold it
  pub whole_holds : (ps : List Part) (acc : Interval) (f : Fraction) → IsFraction f → IsLeft ps acc f → Holds (interval_sum acc (parts_range space centre ps)) f
  whole_holds ps acc f g h = let s = split ps acc f g h in
      same_holds (interval_sum acc (parts_range space centre ps)) (sum_of s.rest s.parts) f (sum_is_good s.rest s.parts s.rest_good s.parts_good) g s.both
      (sum_holds acc (parts_range space centre ps) s.rest s.parts s.in_rest s.in_parts)

  -- ---- narrowing

  -- each interval holds its axis's value
  abbrev pub EachHolds : List (ℕ × Interval) → Type 0
  EachHolds [] = Unit {0}
  EachHolds ((axis, i) ∷ rest) = IsReal axis × Holds i (vxs axis) × EachHolds rest

  left-to-holds : (allowed others : Interval) (x : Part) (f z : Fraction) → IsReal x.axis → IsFraction f → IsFraction z → Holds allowed f → Holds others (difference_of f z) →
      ((s : Interval) → Holds s z → Holds (both_left s x.linear x.square (apart_range space centre x.axis)) (away x.axis)) → Holds (left_to space centre allowed others x) (vxs x.axis)
  left-to-holds allowed others x f z n gf gz hf ho to =
      let axis : ℕ = x.axis in let d : Fraction = away axis in let gd : IsFraction d = away_good axis in
      let g : Fraction = difference_of f z in let gg : IsFraction g = off_good f z gf gz in
      let room : Interval = interval_difference allowed others in
      let in_room : Holds room z = same_holds room (difference_of f g) z (off_good f g gf gg) gz (left_part f z) (sum_holds allowed (interval_negated others) f (negated g) hf (negated_holds others g ho)) in
      let left : Interval = both_left room x.linear x.square (apart_range space centre axis) in
      let placed : Interval = interval_sum (axis_interval centre axis) left in
      met_holds (axis_interval space axis) placed (vxs axis) (gvx axis) (hvx axis n)
      (same_holds placed (sum_of (uxs axis) d) (vxs axis) (sum_is_good (uxs axis) d (gux axis) gd) (gvx axis) (back_again (uxs axis) (vxs axis))
      (sum_holds (axis_interval centre axis) left (uxs axis) d (hux axis n) (to room in_room)))

  pub tightened_holds : (allowed before : Interval) (ps : List Part) (f : Fraction) → IsFraction f → Holds allowed f → IsLeft ps before f → EachHolds (tightened space centre allowed before ps)
  tightened_holds allowed before [] f g hf h = tt
  tightened_holds allowed before (x ∷ ps) f g hf h =
      let t = part-value x ps before f g h in let z : Fraction = t.value in let gl : IsFraction (difference_of f z) = off_good f z g t.value_good in (
        h.0,
        left-to-holds allowed (interval_sum before (parts_range space centre ps)) x f z h.0 g t.value_good hf (whole_holds ps before (difference_of f z) gl t.rest_is) t.allowed,
        tightened_holds allowed (interval_sum before (part_range space centre x)) ps f g hf
            (same_left off good IsReal away away_good ps (interval_sum before (part_range space centre x)) (sum_of (difference_of f z) z) f (sum_is_good (difference_of f z) z gl t.value_good, g, taken_back f z)
            (more_left off good IsReal away away_good ps before (part_range space centre x) z t.in_range (difference_of f z) (sum_of (difference_of f z) z) (gl, refl) t.rest_is)),
      )
