-- Squares completed.
use Rattle.std.proofs.Common.{◌≡◌, ◌⊎◌, inl, inr, ℕ, ◌*◌, Bool, true, false, ◌||◌, IsTrue, refl, sym, subst, arith, true≢false, ℤ, pos, ◌+ℤ◌, ◌*ℤ◌}
use Rattle.dyadic.specs.Fraction.{Fraction, IsFraction, difference_of, sum_of, product_of, negated}
use Rattle.dyadic.specs.Rounding.{at, end_of, end_at_most}
use Rattle.interval_model.specs.Interval.{Interval, nothing, between, interval_negated, interval_sum, interval_square, inverse_product, IsKept, met, misses_nought, is_below, is_above}
use Rattle.dyadic.specs.End.{end_sign}
use Rattle.dyadic.proofs.Ring.{atom, natural, plus, times, same}
use Rattle.dyadic.proofs.Equal.{◌≈◌, ≈_refl, ≈_sym, ≈_trans, sum_same, product_same, both_true}
use Rattle.interval_model.proofs.Ends.{product_is_good, product_comm}
use Rattle.interval_model.proofs.EndsSums.{good_ext, sum_is_good}
use Rattle.interval_model.proofs.Holds.{Holds, met_holds, same_holds, sum_holds, negated_holds, product_holds, square_holds}
use Rattle.interval_model.proofs.HoldsGrid.{sum_kept, square_kept, met_kept}
use Rattle.interval_model.proofs.Inverses.{sum_less, product_back, inverse_product_holds}
use Rattle.interval_model.proofs.InversesEnds.{inverse_of, good_inverse, IsAbove, IsBelow, above_rises, below_falls}
use Rattle.interval_model.proofs.InversesSquares.{inverse_square_holds}
use Rattle.cover_model.specs.Combination.{interval_difference, half_quotient, completed, root_left, completed_left}
use Rattle.cover_model.specs.Laws.{SquaresAreCompleted}
use Rattle.cover_model.proofs.CombinationFractions.{over_sum, regrouped, taken_back, off_good, product_off}

pub root_holds : (own v : Interval) (x : Fraction) → IsKept v → IsFraction x → Holds own x → Holds v (product_of x x) → Holds (root_left own v) x
root_holds own v x k g h i =
    inverse_square_holds own (met v (interval_square own)) x (met_kept v (interval_square own) k (square_kept own)) g h
    (met_holds v (interval_square own) (product_of x x) (product_is_good x x g g) i (square_holds own x g h))

twice-at : (h x : ℤ) (h' x' : ℕ) → (((h *ℤ x) *ℤ pos (h' * x')) +ℤ ((h *ℤ x) *ℤ pos (h' * x'))) *ℤ pos ((h' * h') * x') ≡ (((h *ℤ pos h') +ℤ (h *ℤ pos h')) *ℤ x) *ℤ pos ((h' * x') * (h' * x'))
twice-at h x h' x' = same (times (plus (times (times (atom h) (atom x)) (natural (h' * x'))) (times (times (atom h) (atom x)) (natural (h' * x')))) (natural ((h' * h') * x'))) (times (times (plus (times (atom h) (natural h')) (times (atom h) (natural h'))) (atom x)) (natural ((h' * x') * (h' * x')))) (omega arith)

-- h x + h x is (h + h) x
pub twice : (h x : Fraction) → sum_of (product_of h x) (product_of h x) ≈ product_of (sum_of h h) x
unfolding sum_of product_of negated
twice h x = record { same = twice-at h.num x.num h.den x.den }

doubled-at : (h k : ℤ) (h' k' : ℕ) → (h *ℤ ((k *ℤ pos k') +ℤ (k *ℤ pos k'))) *ℤ pos (k' * (h' * h')) ≡ (k *ℤ ((h *ℤ pos h') +ℤ (h *ℤ pos h'))) *ℤ pos (h' * (k' * k'))
doubled-at h k h' k' = same (times (times (atom h) (plus (times (atom k) (natural k')) (times (atom k) (natural k')))) (natural (k' * (h' * h')))) (times (times (atom k) (plus (times (atom h) (natural h')) (times (atom h) (natural h')))) (natural (h' * (k' * k')))) (omega arith)

-- h (k + k) is k (h + h)
pub doubled : (h k : Fraction) → product_of h (sum_of k k) ≈ product_of k (sum_of h h)
unfolding sum_of product_of negated
doubled h k = record { same = doubled-at h.num k.num h.den k.den }

-- (x + h)^2 - h^2 is (h + h) x + x^2
squared : (h x : Fraction) → IsFraction h → IsFraction x → difference_of (product_of (sum_of x h) (sum_of x h)) (product_of h h) ≈ sum_of (product_of (sum_of h h) x) (product_of x x)
squared h x gh gx =
    let t : Fraction = sum_of x h in let gt : IsFraction t = sum_is_good x h gx gh in let d : Fraction = difference_of t h in let gd : IsFraction d = off_good t h gt gh in
    let e : d ≈ x = sum_less x h in
    let hd : Fraction = product_of h d in let ghd : IsFraction hd = product_is_good h d gh gd in let hx : Fraction = product_of h x in let ghx : IsFraction hx = product_is_good h x gh gx in
    let dd : Fraction = product_of d d in let xx : Fraction = product_of x x in let gxx : IsFraction xx = product_is_good x x gx gx in
    ≈_trans (sum_is_good (sum_of hd hd) dd (sum_is_good hd hd ghd ghd) (product_is_good d d gd gd)) (product_off h t h t gh gt gh gt)
    (≈_trans (sum_is_good (sum_of hx hx) xx (sum_is_good hx hx ghx ghx) gxx) (sum_same (sum_same (product_same (≈_refl h) e) (product_same (≈_refl h) e)) (product_same e e))
    (sum_same (twice h x) (≈_refl xx)))

either : (x y : Bool) → IsTrue (x || y) → IsTrue x ⊎ IsTrue y
either true y h = inl refl
either false y h = inr h

-- what lies where 0 does not is not 0
sign : (i : Interval) (y : Fraction) → IsFraction y → IsTrue (misses_nought i) → Holds i y → IsAbove (at y) ⊎ IsBelow (at y)
sign nothing y g m h = absurd (true≢false (sym h))
sign (between l u) y g m h = let e = both_true (end_at_most (end_of l) (at y)) (end_at_most (at y) (end_of u)) h in elim (either (is_below (end_sign (end_of u))) (is_above (end_sign (end_of l))) m) [
  | inl b ↦ inr (below_falls (at y) (end_of u) g (good_ext u) e.1 b)
  | inr b ↦ inl (above_rises (end_of l) (at y) (good_ext l) g e.0 b)
]

-- (a / y) y is a
over_times : (a y : Fraction) → IsFraction a → IsFraction y → IsAbove (at y) ⊎ IsBelow (at y) → product_of (product_of a (inverse_of y)) y ≈ a
over_times a y ga gy s = let i : Fraction = inverse_of y in let gi : IsFraction i = good_inverse (at y) in
    ≈_trans (product_is_good a (product_of i y) ga (product_is_good i y gi gy)) (≈_sym (regrouped a i y))
    (subst (λ (z : Fraction). product_of a z ≈ a) (product_comm y i)
    (≈_trans (product_is_good (product_of a y) i (product_is_good a y ga gy) gi) (regrouped a y i) (product_back a y s)))

module _ (w q d : Interval) (a k x : Fraction) (ga : IsFraction a) (gk : IsFraction k) (gx : IsFraction x) (m : IsTrue (misses_nought (interval_sum q q))) (ha : Holds w a) (hk : Holds q k) (hx : Holds d x) where
  abbrev y : Fraction
  y = sum_of k k

  abbrev h : Fraction
  h = product_of a (inverse_of (sum_of k k))

  abbrev value : Fraction
  value = sum_of (product_of a x) (product_of k (product_of x x))

  -- (x + h)^2 - h^2
  abbrev gap : Fraction
  gap = difference_of (product_of (sum_of x h) (sum_of x h)) (product_of h h)

  gy : IsFraction y
  gy = sum_is_good k k gk gk

  gh : IsFraction h
  gh = product_is_good a (inverse_of y) ga (good_inverse (at y))

  gs : IsFraction (sum_of x h)
  gs = sum_is_good x h gx gh

  gss : IsFraction (product_of (sum_of x h) (sum_of x h))
  gss = product_is_good (sum_of x h) (sum_of x h) gs gs

  ghh : IsFraction (product_of h h)
  ghh = product_is_good h h gh gh

  gg : IsFraction gap
  gg = off_good (product_of (sum_of x h) (sum_of x h)) (product_of h h) gss ghh

  gxx : IsFraction (product_of x x)
  gxx = product_is_good x x gx gx

  gv : IsFraction value
  gv = sum_is_good (product_of a x) (product_of k (product_of x x)) (product_is_good a x ga gx) (product_is_good k (product_of x x) gk gxx)

  whole : product_of h y ≈ a
  whole = over_times a y ga gy (sign (interval_sum q q) y gy m (sum_holds q q k k hk hk))

  half-holds : Holds (half_quotient w q) h
  half-holds = inverse_product_holds w (interval_sum q q) h y gh gy (same_holds w a (product_of h y) ga (product_is_good h y gh gy) (≈_sym whole) ha) (sum_holds q q k k hk hk)

  -- k ((x + h)^2 - h^2) is a x + k x^2
  is-completed : product_of k gap ≈ value
  is-completed = let hh : Fraction = sum_of h h in let ghh' : IsFraction hh = sum_is_good h h gh gh in let p : Fraction = product_of hh x in let gp : IsFraction p = product_is_good hh x ghh' gx in
      ≈_trans (product_is_good k (sum_of p (product_of x x)) gk (sum_is_good p (product_of x x) gp gxx)) (product_same (≈_refl k) (squared h x gh gx))
      (≈_trans (sum_is_good (product_of k p) (product_of k (product_of x x)) (product_is_good k p gk gp) (product_is_good k (product_of x x) gk gxx)) (over_sum k p (product_of x x))
      (sum_same
      (≈_trans (product_is_good (product_of k hh) x (product_is_good k hh gk ghh') gx) (regrouped k hh x)
      (product_same (≈_trans (product_is_good h y gh gy) (≈_sym (doubled h k)) whole) (≈_refl x)))
      (≈_refl (product_of k (product_of x x)))))

  pub completed_holds : Holds (completed w q d) value
  completed_holds = let hs = sum_holds d (half_quotient w q) x h hx half-holds in
      same_holds (completed w q d) (product_of k gap) value (product_is_good k gap gk gg) gv is-completed
      (product_holds q (interval_difference (interval_square (interval_sum d (half_quotient w q))) (interval_square (half_quotient w q))) k gap gk gg hk
      (sum_holds (interval_square (interval_sum d (half_quotient w q))) (interval_negated (interval_square (half_quotient w q))) (product_of (sum_of x h) (sum_of x h)) (negated (product_of h h))
      (square_holds (interval_sum d (half_quotient w q)) (sum_of x h) gs hs) (negated_holds (interval_square (half_quotient w q)) (product_of h h) (square_holds (half_quotient w q) h gh half-holds))))

  pub left_holds : (s : Interval) → Holds s value → Holds (completed_left s w q d) x
  left_holds s hv = let half : Interval = half_quotient w q in let own : Interval = interval_sum d half in let v : Interval = interval_sum (inverse_product s q) (interval_square half) in
      let in_quotient : Holds (inverse_product s q) gap = inverse_product_holds s q gap k gg gk
      (same_holds s value (product_of gap k) gv (product_is_good gap k gg gk) (≈_sym (subst (λ (z : Fraction). z ≈ value) (product_comm k gap) is-completed)) hv) hk in
      let in_v : Holds v (product_of (sum_of x h) (sum_of x h)) = same_holds v (sum_of gap (product_of h h)) (product_of (sum_of x h) (sum_of x h)) (sum_is_good gap (product_of h h) gg ghh) gss (taken_back (product_of (sum_of x h) (sum_of x h)) (product_of h h))
      (sum_holds (inverse_product s q) (interval_square half) gap (product_of h h) in_quotient (square_holds half h gh half-holds)) in
      let in_root : Holds (root_left own v) (sum_of x h) = root_holds own v (sum_of x h) (sum_kept (inverse_product s q) (interval_square half)) gs (sum_holds d half x h hx half-holds) in_v in
      same_holds (completed_left s w q d) (difference_of (sum_of x h) h) x (off_good (sum_of x h) h gs gh) gx (sum_less x h)
      (sum_holds (root_left own v) (interval_negated half) (sum_of x h) (negated h) in_root (negated_holds half h half-holds))

pub squares_are_completed : SquaresAreCompleted
squares_are_completed w q d s a k x ga gk gx m ha hk hx = (completed_holds w q d a k x ga gk gx m ha hk hx, left_holds w q d a k x ga gk gx m ha hk hx s)
