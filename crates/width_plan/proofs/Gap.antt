-- Delta minus margin is a number that is kept.
use Rattle.std.proofs.Common.{◌≡◌, ℕ, ◌+◌, ◌-◌, ◌*◌, ◌^◌, ◌<◌, ◌≤◌, arith, refl, sym, ap, ◌∙◌, subst, IsTrue, lit<, pos, neg_ℤ, ◌+ℤ◌, ◌*ℤ◌}
use Rattle.std.proofs.lemmas.Nat.{pow_pos}
use Rattle.dyadic.specs.Fraction.{Fraction, IsFraction, at_most, sum_of}
use Rattle.dyadic.specs.Rounding.{Dyadic, exact, IsOnGrid, at, Ext, below_all, finite, above_all, end_of, end_at_most, ext_at_most, down, two_to_minus}
use Rattle.dyadic.specs.End.{negated_dyadic}
use Rattle.dyadic.proofs.Equal.{same_test}
use Rattle.dyadic.proofs.Nearest.{pow_split, pow_le}
use Rattle.dyadic.proofs.Ring
use Rattle.dyadic.proofs.Ring.{natural, plus, minus, times}
use Rattle.dyadic.proofs.Rounds.{at_most_from, at_most_trans}
use Rattle.dyadic.proofs.RoundsMove.{down_of_equal}
use Rattle.interval_model.proofs.EndsSums.{exact_negated}
use Rattle.width_plan.specs.Plan.{gap}
use Rattle.width_plan.specs.Search.{IsGap}
use Rattle.width_plan.proofs.Ends.{fine, fine_is_fraction, sum_is_fine}

record IsSame (q : Fraction) : Type 0 where
  number : Dyadic
  on_grid : IsOnGrid number
  below : IsTrue (at_most (exact number) q)
  above : IsTrue (at_most q (exact number))

-- 2^s * (k + 1) - 2^s
same-number : (k s wide : ℕ) → k ≤ 2 ^ 62 → s ≤ 120 → wide ≡ (k + 1) * 2 ^ s → IsSame (fine ((pos wide *ℤ pos (2 ^ 120)) +ℤ (neg_ℤ (pos (2 ^ s)) *ℤ pos (2 ^ 120))))
same-number k s wide few short e = record {
  number = record { units = pos (k * 2 ^ s) };
  on_grid = record { whole = k; power = s; few_bits = few; in_range = omega arith; value = refl };
  below = at_most_from (exact (record { units = pos (k * 2 ^ s) })) (fine ((pos wide *ℤ pos (2 ^ 120)) +ℤ (neg_ℤ (pos (2 ^ s)) *ℤ pos (2 ^ 120))))
      (Ring.below (times (natural (k * 2 ^ s)) (natural (2 ^ 120 * 2 ^ 120))) (times (plus (times (natural wide) (natural (2 ^ 120))) (times (minus (natural (2 ^ s))) (natural (2 ^ 120)))) (natural (2 ^ 120))) (omega (arith, e)));
  above = at_most_from (fine ((pos wide *ℤ pos (2 ^ 120)) +ℤ (neg_ℤ (pos (2 ^ s)) *ℤ pos (2 ^ 120)))) (exact (record { units = pos (k * 2 ^ s) }))
      (Ring.below (times (plus (times (natural wide) (natural (2 ^ 120))) (times (minus (natural (2 ^ s))) (natural (2 ^ 120)))) (natural (2 ^ 120))) (times (natural (k * 2 ^ s)) (natural (2 ^ 120 * 2 ^ 120))) (omega (arith, e)));
}

gap-is : (d m : ℕ) → gap d m ≡ fine ((pos (2 ^ (120 - d)) *ℤ pos (2 ^ 120)) +ℤ (neg_ℤ (pos (2 ^ (120 - m))) *ℤ pos (2 ^ 120)))
gap-is d m = ap (sum_of (exact (two_to_minus d))) (exact_negated (two_to_minus m)) ∙ sum_is_fine (two_to_minus d) (negated_dyadic (two_to_minus m))

gap-same : (d m : ℕ) → d < m → m ≤ 60 → IsSame (gap d m)
gap-same d m o few =
    let some = pow_pos (m - d) in
    let small : 2 ^ (m - d) ≤ 2 ^ 60 = pow_le (m - d) 60 (omega arith) in
    let k : ℕ = 2 ^ (m - d) - 1 in
    let place : 120 - m ≡ 120 - d - (m - d) = omega arith in
    let split = pow_split (m - d) (120 - d) (omega arith) in
    let whole : k + 1 ≡ 2 ^ (m - d) = omega arith in
    subst IsSame (sym (gap-is d m)) (same-number k (120 - m) (2 ^ (120 - d)) (omega arith) (omega arith)
    (split ∙ ap (λ (n : ℕ). 2 ^ n * 2 ^ (m - d)) (sym place) ∙ turned (2 ^ (120 - m)) (2 ^ (m - d)) (k + 1) whole))
  where
    turned : (a b c : ℕ) → c ≡ b → a * b ≡ c * a
    turned a b c e = omega (arith, ap (λ n. n * a) e)

-- rounding leaves it as it is
pub gap_is : (d m : ℕ) → d < m → m ≤ 60 → (e : Ext) → e ≡ down (sum_of (exact (two_to_minus d)) (exact (negated_dyadic (two_to_minus m)))) → IsGap d m e
gap_is d m o few e f w = go w
  where
    s : IsSame (gap d m)
    s = gap-same d m o few

    good : IsFraction (gap d m)
    good = subst (λ (q : Fraction). IsFraction q) (sym (gap-is d m)) (fine_is_fraction ((pos (2 ^ (120 - d)) *ℤ pos (2 ^ 120)) +ℤ (neg_ℤ (pos (2 ^ (120 - m))) *ℤ pos (2 ^ 120))))

    is : e ≡ finite s.number
    is = f ∙ ap down (ap (sum_of (exact (two_to_minus d))) (sym (exact_negated (two_to_minus m)))) ∙ down_of_equal (gap d m) s.number good s.on_grid s.below s.above

    at-number : (v : Dyadic) → at_most (exact s.number) (exact v) ≡ at_most (gap d m) (exact v)
    at-number v = same_test (at_most (exact s.number) (exact v)) (at_most (gap d m) (exact v))
        (λ h. at_most_trans (gap d m) (exact s.number) (exact v) (lit< tt) s.above h) (λ h. at_most_trans (exact s.number) (gap d m) (exact v) good s.below h)

    go : (w : Ext) → ext_at_most e w ≡ end_at_most (at (gap d m)) (end_of w)
    go below_all = ap (λ (x : Ext). ext_at_most x below_all) is
    go (finite v) = ap (λ (x : Ext). ext_at_most x (finite v)) is ∙ at-number v
    go above_all = ap (λ (x : Ext). ext_at_most x above_all) is
