-- The range of a polynomial holds what it encloses.
use Rattle.std.proofs.Common.{◌≡◌, ℕ, List, [], ◌∷◌, Bool, true, false, cond, Option, Some, None, refl, subst, nat_eq, eqb→eq}
use Rattle.std.specs.Bool.{passes}
use Rattle.dyadic.specs.Fraction.{at_most, zero_fraction}
use Rattle.dyadic.specs.Point.{Sort, real_sort}
use Rattle.poly_graph.specs.Problem.{HasSort}
use Rattle.interval_model.specs.Interval.{Interval, interval_sum, interval_product, interval_square}
use Rattle.interval_model.proofs.Holds.{Holds, same_holds, sum_holds, product_holds, square_holds}
use Rattle.square_model.specs.Polynomial.{Monomial, Polynomial, nought_alone, one_alone}
use Rattle.square_model.specs.Range.{range_times, monomial_range, range_with, polynomial_range}
use Rattle.square_model.specs.Encloses.{AreReal}
use Rattle.square_model.proofs.Numbers.{Number, nought, one, plus_of, times_of, less, ◌≃◌, same_number, turned, then, plus_same, nought_left, nought_right, passed_on, times_one, one_times, regrouped, squared}
use Rattle.square_model.proofs.Enclosing.{monomial_number, Enc}

pub holds_same : (i : Interval) (x y : Number) → x ≃ y → Holds i x.value → Holds i y.value
holds_same i x y e h = same_holds i x.value y.value x.good y.good e h

pub nought_holds : Holds nought_alone zero_fraction
unfolding at_most
nought_holds = refl

one-holds : Holds one_alone one.value
unfolding at_most
one-holds = refl

module _ (sorts : List Sort) (d : ℕ → Number) (apart : ℕ → Interval) (held : (axis : ℕ) → HasSort real_sort sorts axis → Holds (apart axis) (d axis).value) where
  -- u times the axis that waits
  abbrev times_waiting : Number → Option ℕ → Number
  times_waiting u None = u
  times_waiting u (Some i) = times_of u (d i)

  abbrev IsRealWaiting : Option ℕ → Type 0
  IsRealWaiting None = Unit {0}
  IsRealWaiting (Some i) = HasSort real_sort sorts i

  times-holds : (m : Monomial) (o : Option ℕ) (v : Interval) (u : Number) → IsRealWaiting o → AreReal sorts m → Holds v u.value → Holds (range_times apart v o m) (times_of (times_waiting u o) (monomial_number sorts d m)).value
  times-holds [] None v u r k h = holds_same v u (times_of u one) (turned (times_of u one) u (times_one u)) h
  times-holds [] (Some i) v u r k h = let x : Number = times_of u (d i) in
      holds_same (interval_product v (apart i)) x (times_of x one) (turned (times_of x one) x (times_one x)) (product_holds v (apart i) u.value (d i).value u.good (d i).good h (held i r))
  times-holds (j ∷ m) None v u r k h = let M : Number = monomial_number sorts d m in
      holds_same (range_times apart v (Some j) m) (times_of (times_of u (d j)) M) (times_of u (times_of (d j) M)) (turned (times_of u (times_of (d j) M)) (times_of (times_of u (d j)) M) (regrouped M u (d j)))
      (times-holds m (Some j) v u k.0 k.1 h)
  times-holds (j ∷ m) (Some i) v u r k h = by (nat_eq i j) refl (times-holds m None) (times-holds m (Some j))
    where
      by : (t : Bool) → nat_eq i j ≡ t →
          ((v : Interval) (u : Number) → Unit {0} → AreReal sorts m → Holds v u.value → Holds (range_times apart v None m) (times_of u (monomial_number sorts d m)).value) →
          ((v : Interval) (u : Number) → HasSort real_sort sorts j → AreReal sorts m → Holds v u.value → Holds (range_times apart v (Some j) m) (times_of (times_of u (d j)) (monomial_number sorts d m)).value) →
          Holds (range_times apart (interval_product v (cond t (interval_square (apart i)) (apart i))) (cond t None (Some j)) m) (times_of (times_of u (d i)) (times_of (d j) (monomial_number sorts d m))).value
      by true e f g = let M : Number = monomial_number sorts d m in let x : Number = times_of (d i) (d i) in let same : i ≡ j = eqb→eq i j (passes _ e) in
          subst (λ (a : ℕ). Holds (range_times apart (interval_product v (interval_square (apart i))) None m) (times_of (times_of u (d i)) (times_of (d a) M)).value) same
          (holds_same (range_times apart (interval_product v (interval_square (apart i))) None m) (times_of (times_of u x) M) (times_of (times_of u (d i)) (times_of (d i) M)) (squared (d i) M u)
          (f (interval_product v (interval_square (apart i))) (times_of u x) tt k.1
          (product_holds v (interval_square (apart i)) u.value x.value u.good x.good h (square_holds (apart i) (d i).value (d i).good (held i r)))))
      by false e f g = let M : Number = monomial_number sorts d m in let x : Number = times_of u (d i) in
          holds_same (range_times apart (interval_product v (apart i)) (Some j) m) (times_of (times_of x (d j)) M) (times_of x (times_of (d j) M)) (turned (times_of x (times_of (d j) M)) (times_of (times_of x (d j)) M) (regrouped M x (d j)))
          (g (interval_product v (apart i)) x k.0 k.1 (product_holds v (apart i) u.value (d i).value u.good (d i).good h (held i r)))

  pub monomial_holds : (m : Monomial) → AreReal sorts m → Holds (monomial_range apart m) (monomial_number sorts d m).value
  monomial_holds m k = let M : Number = monomial_number sorts d m in holds_same (monomial_range apart m) (times_of one M) M (one_times M) (times-holds m None one_alone one tt k one-holds)

  with-holds : (p : Polynomial) (v : Interval) (u w : Number) → Holds v u.value → Enc sorts d p w → Holds (range_with apart v p) (plus_of u w).value
  with-holds [] v u w h e = let z : Number = plus_of u w in holds_same v u z (turned z u (then z (plus_of u nought) u (plus_same u u w nought (same_number u) e) (nought_right u))) h
  with-holds ((m, i) ∷ p) v u w h e = let M : Number = monomial_number sorts d m in let x : Number = times_of e.1 M in let next : Interval = interval_sum v (interval_product i (monomial_range apart m)) in
      holds_same (range_with apart next p) (plus_of (plus_of u x) (less w x)) (plus_of u w) (passed_on u w x)
      (with-holds p next (plus_of u x) (less w x)
      (sum_holds v (interval_product i (monomial_range apart m)) u.value x.value h (product_holds i (monomial_range apart m) e.1.value M.value e.1.good M.good e.2 (monomial_holds m e.0)))
      e.3)

  pub range_holds : (p : Polynomial) (v : Number) → Enc sorts d p v → Holds (polynomial_range apart p) v.value
  range_holds p v e = holds_same (polynomial_range apart p) (plus_of nought v) v (nought_left v) (with-holds p nought_alone nought v nought_holds e)
