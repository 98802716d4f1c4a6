-- Coordinates near what is declared.
use Rattle.std.proofs.Common.{◌≡◌, ℕ, ◌+◌, ◌-◌, ◌*◌, ◌^◌, ◌<◌, ◌≤◌, List, ◌∷◌, length, map, drop, get_or, Bool, true, false, ◌&&◌, pos, ap, ap₂, sym, ◌∙◌, arith}
use Rattle.std.proofs.lemmas.List.{drop_more, drop_all, get_or-map, length-map}
use Rattle.std.proofs.lemmas.Nat.{pow-add, pow_pos}
use Rattle.dyadic.specs.Fraction.{Fraction, IsFraction, power_below, negated}
use Rattle.dyadic.specs.Rounding.{Dyadic, exact, two_to_minus}
use Rattle.dyadic.specs.Calls as calls
use Rattle.dyadic.specs.Point.{at_fraction}
use Rattle.interval_model.specs.Space.{Domain, Space}
use Rattle.dyadic.proofs.Equal.{◌≈◌, ≈_refl, sum_same, negated_same, at_most_same, at_least_same}
use Rattle.interval_model.proofs.EndsSums.{sum_is_good}
use Rattle.poly_graph.specs.declared.axis.Axis as code
use Rattle.poly_graph.specs.Problem.{Axis, real_between}
use Rattle.poly_graph.specs.ProblemViews.{axis_of, declared_of}
use Rattle.cert_model.specs.Due.{is_near, are_near, coordinate_of, coordinates}

same-power : (k : ℕ) → k ≤ 120 → power_below k ≈ exact (two_to_minus k)
same-power k h =
    let places : 120 ≡ 120 - k + k = omega (arith, h) in
    let e : 1 * 2 ^ 120 ≡ 2 ^ (120 - k) * 2 ^ k = ap (λ (n : ℕ). 2 ^ n) places ∙ pow-add 2 (120 - k) k in
    record { same = ap (λ (n : ℕ). pos n) e }

negated-is-fraction : (q : Fraction) → IsFraction q → IsFraction (negated q)
unfolding negated
negated-is-fraction q h = h

pub near_same : (v : Dyadic) (k : ℕ) (l h : Fraction) → k ≤ 60 → IsFraction l → IsFraction h → calls.is_near v k l h ≡ is_near (exact (two_to_minus k)) (real_between l h) (at_fraction (exact v))
near_same v k l h few gl gh =
    let e : power_below k ≈ exact (two_to_minus k) = same-power k (omega (arith, few)) in
    let below : IsFraction (power_below k) = pow_pos k in
    let at : IsFraction (exact (two_to_minus k)) = pow_pos 120 in
    ap₂ (λ (x : Bool) (y : Bool). x && y)
    (at_most_same (exact v) (sum_is_good l (negated (power_below k)) gl (negated-is-fraction (power_below k) below)) (sum_is_good l (negated (exact (two_to_minus k))) gl (negated-is-fraction (exact (two_to_minus k)) at))
    (sum_same (≈_refl l) (negated_same e)))
    (at_least_same (exact v) (sum_is_good h (power_below k) gh below) (sum_is_good h (exact (two_to_minus k)) gh at) (sum_same (≈_refl h) e))

-- ---- axis by axis

module _ (m : Fraction) (axes : List code.Axis) (space : Space) (n : ℕ) (r a : code.Axis) (d : Domain) (h : n < length axes) (k : n < length space) (e : a ≡ get_or axes n r) (f : d ≡ get_or space n d) where
  near-here : are_near m (drop n (map axis_of axes)) (coordinates (drop n space)) ≡
      (is_near m (declared_of a.declared) (coordinate_of d) && are_near m (drop (n + 1) (map axis_of axes)) (coordinates (drop (n + 1) space)))
  near-here = ap₂ (λ (xs : List Axis) (sp : Space). are_near m xs (coordinates sp))
      (drop_more (map axis_of axes) n (axis_of r) (omega (arith, h, length-map axes axis_of))
      ∙ ap (λ (x : Axis). x ∷ drop (n + 1) (map axis_of axes)) (get_or-map axis_of axes n r (axis_of r) h ∙ ap axis_of (sym e)))
      (drop_more space n d k ∙ ap (λ (x : Domain). x ∷ drop (n + 1) space) (sym f))

  pub near_fails : (b : Bool) → b ≡ is_near m (declared_of a.declared) (coordinate_of d) → b ≡ false → are_near m (drop n (map axis_of axes)) (coordinates (drop n space)) ≡ false
  near_fails b g i = near-here ∙ ap (λ (t : Bool). t && are_near m (drop (n + 1) (map axis_of axes)) (coordinates (drop (n + 1) space))) (sym g ∙ i)

  pub near_next : (b : Bool) → b ≡ is_near m (declared_of a.declared) (coordinate_of d) → b ≡ true →
      are_near m (drop n (map axis_of axes)) (coordinates (drop n space)) ≡ are_near m (drop (n + 1) (map axis_of axes)) (coordinates (drop (n + 1) space))
  near_next b g i = near-here ∙ ap (λ (t : Bool). t && are_near m (drop (n + 1) (map axis_of axes)) (coordinates (drop (n + 1) space))) (sym g ∙ i)

pub near_done : (m : Fraction) (axes : List code.Axis) (space : Space) (n : ℕ) → length axes ≤ n → length space ≤ n → are_near m (drop n (map axis_of axes)) (coordinates (drop n space)) ≡ true
near_done m axes space n h k = ap₂ (λ (xs : List Axis) (sp : Space). are_near m xs (coordinates sp)) (drop_all n (map axis_of axes) (omega (arith, h, length-map axes axis_of))) (drop_all n space k)
