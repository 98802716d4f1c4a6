-- Points of a space and their differences to its centre, and the two forms of what a polynomial encloses.
use Rattle.std.proofs.Common.{◌≡◌, ℕ, suc, zero, List, [], ◌∷◌, ◌&&◌, IsTrue, refl, sym, subst, arith, ℤ, pos, ◌*ℤ◌, ◌≤ℤ◌, true≢false}
use Rattle.std.proofs.lemmas.Int.{ints}
use Rattle.dyadic.specs.Fraction.{Fraction, IsFraction, at_most, sum_of, product_of, negated}
use Rattle.dyadic.specs.Point.{Sort, real_sort, bool_sort, Coordinate, at_fraction, at_bool, IsPoint}
use Rattle.dyadic.specs.Rounding.{exact}
use Rattle.dyadic.proofs.Equal.{◌≈◌, holds_le, at_most_same, both_true}
use Rattle.interval_model.specs.Interval.{interval_negated}
use Rattle.interval_model.specs.Space.{real_domain, bool_domain, Space, in_space, in_domain, axis_interval, test_axis}
use Rattle.interval_model.proofs.Ends.{zero_is_good}
use Rattle.interval_model.proofs.EndsProducts.{at_most_refl}
use Rattle.interval_model.proofs.Holds.{Holds, sum_holds, negated_holds}
use Rattle.poly_graph.specs.Term.{coordinate}
use Rattle.poly_graph.specs.Problem.{HasSort}
use Rattle.square_model.specs.Polynomial.{Monomial, Polynomial}
use Rattle.square_model.specs.Range.{apart_range}
use Rattle.square_model.specs.Block.{is_real}
use Rattle.square_model.specs.Encloses.{apart, monomial_value, AreIn, value_with, IsSame, Encloses}
use Rattle.square_model.specs.Laws.{IsPointIn}
use Rattle.square_model.proofs.Numbers.{Number, nought, plus_of, times_of, less, ◌≃◌, same_number, turned, then, plus_same, put_back, taken_front}
use Rattle.square_model.proofs.Enclosing.{monomial_number, Enc, same_encloses}

-- ---- coordinates

pub coordinate_good : (sorts : List Sort) (point : List Coordinate) → IsPoint sorts point → (axis : ℕ) → IsFraction (coordinate point axis)
coordinate_good sorts [] q axis = zero_is_good
coordinate_good (real_sort ∷ sorts) (at_fraction x ∷ point) q zero = q.0
coordinate_good (bool_sort ∷ sorts) (at_bool b ∷ point) q zero = zero_is_good
coordinate_good (real_sort ∷ sorts) (at_fraction x ∷ point) q (suc axis) = coordinate_good sorts point q.1 axis
coordinate_good (bool_sort ∷ sorts) (at_bool b ∷ point) q (suc axis) = coordinate_good sorts point q axis
coordinate_good (real_sort ∷ sorts) (at_bool b ∷ point) q axis = elim q [ ]
coordinate_good (bool_sort ∷ sorts) (at_fraction x ∷ point) q axis = elim q [ ]
coordinate_good [] (c ∷ point) q axis = elim q [ ]

axis-holds : (sorts : List Sort) (space : Space) (point : List Coordinate) (axis : ℕ) → IsPoint sorts point → IsTrue (in_space space point) → HasSort real_sort sorts axis →
    Holds (axis_interval space axis) (coordinate point axis)
axis-holds (real_sort ∷ sorts) (real_domain l h ∷ space) (at_fraction q ∷ point) zero f i r = (both_true (at_most (exact l) q && at_most q (exact h)) (in_space space point) i).0
axis-holds (real_sort ∷ sorts) (bool_domain t u ∷ space) (at_fraction q ∷ point) zero f i r = absurd (true≢false (sym i))
axis-holds (real_sort ∷ sorts) (d ∷ space) (at_fraction q ∷ point) (suc axis) f i r = axis-holds sorts space point axis f.1 (both_true (in_domain d (at_fraction q)) (in_space space point) i).1 r
axis-holds (bool_sort ∷ sorts) (d ∷ space) (at_bool b ∷ point) zero f i r = elim r [ ]
axis-holds (bool_sort ∷ sorts) (d ∷ space) (at_bool b ∷ point) (suc axis) f i r = axis-holds sorts space point axis f (both_true (in_domain d (at_bool b)) (in_space space point) i).1 r
axis-holds (real_sort ∷ sorts) space (at_bool b ∷ point) axis f i r = elim f [ ]
axis-holds (bool_sort ∷ sorts) space (at_fraction q ∷ point) axis f i r = elim f [ ]
axis-holds (real_sort ∷ sorts) space [] axis f i r = elim f [ ]
axis-holds (bool_sort ∷ sorts) space [] axis f i r = elim f [ ]
axis-holds (s ∷ sorts) [] (c ∷ point) axis f i r = absurd (true≢false (sym i))
axis-holds [] space point axis f i r = elim r [ ]

-- a Real axis of a space that has a point
pub reals : (sorts : List Sort) (space : Space) (point : List Coordinate) → IsPointIn sorts space point → (axis : ℕ) → IsTrue (test_axis is_real axis space) → HasSort real_sort sorts axis
reals sorts [] point q axis h = absurd (true≢false (sym h))
reals (real_sort ∷ sorts) (d ∷ space) (at_fraction x ∷ point) q zero h = tt
reals (real_sort ∷ sorts) (d ∷ space) (at_fraction x ∷ point) q (suc axis) h = reals sorts space point (q.0.1, (both_true (in_domain d (at_fraction x)) (in_space space point) q.1).1) axis h
reals (bool_sort ∷ sorts) (real_domain l u ∷ space) (at_bool b ∷ point) q zero h = absurd (true≢false (sym q.1))
reals (bool_sort ∷ sorts) (bool_domain f t ∷ space) (at_bool b ∷ point) q zero h = absurd (true≢false (sym h))
reals (bool_sort ∷ sorts) (d ∷ space) (at_bool b ∷ point) q (suc axis) h = reals sorts space point (q.0, (both_true (in_domain d (at_bool b)) (in_space space point) q.1).1) axis h
reals (real_sort ∷ sorts) (d ∷ space) (at_bool b ∷ point) q axis h = elim q.0 [ ]
reals (bool_sort ∷ sorts) (d ∷ space) (at_fraction x ∷ point) q axis h = elim q.0 [ ]
reals (s ∷ sorts) (d ∷ space) [] q axis h = absurd (true≢false (sym q.1))
reals [] (d ∷ space) [] q axis h = absurd (true≢false (sym q.1))
reals [] (d ∷ space) (c ∷ point) q axis h = elim q.0 [ ]

abbrev pub coordinate_number : (sorts : List Sort) (point : List Coordinate) → IsPoint sorts point → ℕ → Number
coordinate_number sorts point q axis = record { value = coordinate point axis; good = coordinate_good sorts point q axis }

pub coordinate_holds : (sorts : List Sort) (space : Space) (point : List Coordinate) (h : IsPointIn sorts space point) (axis : ℕ) → HasSort real_sort sorts axis → Holds (axis_interval space axis) (coordinate_number sorts point h.0 axis).value
coordinate_holds sorts space point h axis r = axis-holds sorts space point axis h.0 h.1 r

module _ (sorts : List Sort) (point at_centre : List Coordinate) (q : IsPoint sorts point) (c : IsPoint sorts at_centre) where
  abbrev pub differences : ℕ → Number
  differences axis = less (coordinate_number sorts point q axis) (coordinate_number sorts at_centre c axis)

  values-same : (m : Monomial) → monomial_value (apart point at_centre) m ≡ (monomial_number sorts differences m).value
  values-same [] = refl
  values-same (i ∷ m) = λ t. product_of (differences i).value (values-same m t)

  -- ---- one form from the other

  same-both : (v w : Fraction) → IsFraction v → IsFraction w → v ≈ w → IsTrue (at_most v w)
  same-both v w f g e = subst IsTrue (sym (at_most_same w f g e)) (at_most_refl w)

  both-at : (a b : ℤ) → a ≤ℤ b → b ≤ℤ a → a ≡ b
  both-at a b h k = omega (arith, ints, h, k)

  both-same : (v w : Fraction) → IsSame v w → v ≈ w
  unfolding at_most
  both-same v w s = record { same = both-at (v.num *ℤ pos w.den) (w.num *ℤ pos v.den) (holds_le _ _ s.0) (holds_le _ _ s.1) }

  abbrev Listed : Polynomial → Number → Type 0
  Listed p v = (ns : List Fraction) × (w : Number) × AreIn sorts p ns × (value_with (apart point at_centre) p ns ≡ w.value) × (w ≃ v)

  listed : (p : Polynomial) (v : Number) → Enc sorts differences p v → Listed p v
  listed [] v e = ([], nought, tt, refl, turned v nought e)
  listed ((m, i) ∷ p) v e = let M : Number = monomial_number sorts differences m in let x : Number = times_of e.1 M in let r = listed p (less v x) e.3 in (
    e.1.value ∷ r.0,
    plus_of x r.1,
    (e.0, e.1.good, e.2, r.2),
    (λ t. sum_of (product_of e.1.value (values-same m t)) (r.3 t)),
    then (plus_of x r.1) (plus_of x (less v x)) v (plus_same x x r.1 (less v x) (same_number x) r.4) (put_back v x),
  )

  pub to_encloses : (p : Polynomial) (v : Number) → Enc sorts differences p v → Encloses sorts (apart point at_centre) p v.value
  to_encloses p v e = let r = listed p v e in let same : value_with (apart point at_centre) p r.0 ≡ r.1.value = r.3 in record {
    numbers = r.0;
    are_in = r.2;
    value = subst (λ (x : Fraction). IsSame x v.value) (sym same) (same-both r.1.value v.value r.1.good v.good r.4, same-both v.value r.1.value v.good r.1.good (turned r.1 v r.4));
  }

  unlisted : (p : Polynomial) (ns : List Fraction) → AreIn sorts p ns → (w : Number) × (value_with (apart point at_centre) p ns ≡ w.value) × Enc sorts differences p w
  unlisted [] [] h = (nought, refl, same_number nought)
  unlisted [] (a ∷ ns) h = elim h [ ]
  unlisted ((m, i) ∷ p) [] h = elim h [ ]
  unlisted ((m, i) ∷ p) (a ∷ ns) h =
      let y : Number = record { value = a; good = h.1 } in let x : Number = times_of y (monomial_number sorts differences m) in let r = unlisted p ns h.3 in
      (plus_of x r.0, (λ t. sum_of (product_of a (values-same m t)) (r.1 t)), (h.0, y, h.2, same_encloses sorts differences p r.0 (less (plus_of x r.0) x) (turned (less (plus_of x r.0) x) r.0 (taken_front r.0 x)) r.2))

  pub from_encloses : (p : Polynomial) (v : Number) → Encloses sorts (apart point at_centre) p v.value → Enc sorts differences p v
  from_encloses p v e = let r = unlisted p e.numbers e.are_in in let same : value_with (apart point at_centre) p e.numbers ≡ r.0.value = r.1 in
      same_encloses sorts differences p r.0 v (both-same r.0.value v.value (subst (λ (x : Fraction). IsSame x v.value) same e.value)) r.2

pub held_apart : (sorts : List Sort) (space centre : Space) (point at_centre : List Coordinate) (h : IsPointIn sorts space point) (c : IsPointIn sorts centre at_centre) (axis : ℕ) → HasSort real_sort sorts axis →
    Holds (apart_range space centre axis) (differences sorts point at_centre h.0 c.0 axis).value
held_apart sorts space centre point at_centre h c axis r = let x : Number = coordinate_number sorts point h.0 axis in let u : Number = coordinate_number sorts at_centre c.0 axis in
    sum_holds (axis_interval space axis) (interval_negated (axis_interval centre axis)) x.value (negated u.value) (coordinate_holds sorts space point h axis r)
    (negated_holds (axis_interval centre axis) u.value (coordinate_holds sorts centre at_centre c axis r))
