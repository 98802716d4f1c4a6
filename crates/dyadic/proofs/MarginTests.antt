-- The tests of a fraction against a number and a margin are those of the definitions.
use Rattle.std.proofs.Common.{◌≡◌, ℕ, ◌-◌, ◌*◌, ◌^◌, ◌≤◌, ◌↔◌, arith, refl, sym, ap, ◌∙◌, subst, Bool, true, false, not, IsTrue}
use Rattle.dyadic.specs.Fraction.{Fraction, at_most, power_below, negated, sum_of, difference_of}
use Rattle.dyadic.specs.Rounding.{Dyadic, exact}
use Rattle.dyadic.specs.Signed.{signed_of}
use Rattle.dyadic.specs.Near.{IsUnder}
use Rattle.std.specs.Int.RustNames.{unsigned_abs}
use Rattle.dyadic.specs.declared.parts.Parts.{Parts}
use Rattle.dyadic.specs.declared.frac.Frac.{Frac}
use Rattle.dyadic.specs.Size.{units}
use Rattle.dyadic.specs.Views.{parts_dyadic, fraction_of_frac}
use Rattle.dyadic.proofs.Margins.{scaled_plus, scaled_mixed, scaled_minus}
use Rattle.dyadic.proofs.Ring.{natural, plus, minus, times, below, read_below}
use Rattle.dyadic.proofs.Rounds.{at_most_from, at_most_read}

module _ (n d v b : ℕ) (h : b ≤ 60) where
  abbrev fraction : Bool → Fraction
  fraction s = record { num = signed_of s n; den = d }

  abbrev number : Bool → Dyadic
  number s = record { units = signed_of s v }

  -- the fraction is at most the number and the margin
  pub under_low : (s q : Bool) → IsUnder s q n d v (2 ^ (120 - b)) ↔ IsTrue (at_most (difference_of (fraction s) (power_below b)) (exact (number q)))
  unfolding sum_of negated
  under_low false false =
      let l = times (plus (times (natural n) (natural (2 ^ b))) (times (minus (natural 1)) (natural d))) (natural (2 ^ 120)) in
      let r = times (natural v) (natural (d * 2 ^ b)) in (
        λ k. at_most_from (difference_of (fraction false) (power_below b)) (exact (number false)) (below l r (omega (arith, (scaled_plus n d v b h).0 k))),
        λ k. (scaled_plus n d v b h).1 (omega (arith, read_below l r (at_most_read (difference_of (fraction false) (power_below b)) (exact (number false)) k))),
      )
  under_low false true =
      let l = times (plus (times (natural n) (natural (2 ^ b))) (times (minus (natural 1)) (natural d))) (natural (2 ^ 120)) in
      let r = times (minus (natural v)) (natural (d * 2 ^ b)) in (
        λ k. at_most_from (difference_of (fraction false) (power_below b)) (exact (number true)) (below l r (omega (arith, (scaled_mixed n d v b h).0 k))),
        λ k. (scaled_mixed n d v b h).1 (omega (arith, read_below l r (at_most_read (difference_of (fraction false) (power_below b)) (exact (number true)) k))),
      )
  under_low true false =
      let l = times (plus (times (minus (natural n)) (natural (2 ^ b))) (times (minus (natural 1)) (natural d))) (natural (2 ^ 120)) in
      let r = times (natural v) (natural (d * 2 ^ b)) in
      (λ _. at_most_from (difference_of (fraction true) (power_below b)) (exact (number false)) (below l r (omega arith)), λ _. tt)
  under_low true true =
      let l = times (plus (times (minus (natural n)) (natural (2 ^ b))) (times (minus (natural 1)) (natural d))) (natural (2 ^ 120)) in
      let r = times (minus (natural v)) (natural (d * 2 ^ b)) in (
        λ k. at_most_from (difference_of (fraction true) (power_below b)) (exact (number true)) (below l r (omega (arith, (scaled_minus n d v b h).0 k))),
        λ k. (scaled_minus n d v b h).1 (omega (arith, read_below l r (at_most_read (difference_of (fraction true) (power_below b)) (exact (number true)) k))),
      )

  -- the number is at most the fraction and the margin
  pub under_high : (s q : Bool) → IsUnder (not s) (not q) n d v (2 ^ (120 - b)) ↔ IsTrue (at_most (exact (number q)) (sum_of (fraction s) (power_below b)))
  unfolding sum_of
  under_high false false =
      let l = times (natural v) (natural (d * 2 ^ b)) in
      let r = times (plus (times (natural n) (natural (2 ^ b))) (times (natural 1) (natural d))) (natural (2 ^ 120)) in (
        λ k. at_most_from (exact (number false)) (sum_of (fraction false) (power_below b)) (below l r (omega (arith, (scaled_minus n d v b h).0 k))),
        λ k. (scaled_minus n d v b h).1 (omega (arith, read_below l r (at_most_read (exact (number false)) (sum_of (fraction false) (power_below b)) k))),
      )
  under_high false true =
      let l = times (minus (natural v)) (natural (d * 2 ^ b)) in
      let r = times (plus (times (natural n) (natural (2 ^ b))) (times (natural 1) (natural d))) (natural (2 ^ 120)) in
      (λ _. at_most_from (exact (number true)) (sum_of (fraction false) (power_below b)) (below l r (omega arith)), λ _. tt)
  under_high true false =
      let l = times (natural v) (natural (d * 2 ^ b)) in
      let r = times (plus (times (minus (natural n)) (natural (2 ^ b))) (times (natural 1) (natural d))) (natural (2 ^ 120)) in (
        λ k. at_most_from (exact (number false)) (sum_of (fraction true) (power_below b)) (below l r (omega (arith, (scaled_mixed n d v b h).0 k))),
        λ k. (scaled_mixed n d v b h).1 (omega (arith, read_below l r (at_most_read (exact (number false)) (sum_of (fraction true) (power_below b)) k))),
      )
  under_high true true =
      let l = times (minus (natural v)) (natural (d * 2 ^ b)) in
      let r = times (plus (times (minus (natural n)) (natural (2 ^ b))) (times (natural 1) (natural d))) (natural (2 ^ 120)) in (
        λ k. at_most_from (exact (number true)) (sum_of (fraction true) (power_below b)) (below l r (omega (arith, (scaled_plus n d v b h).0 k))),
        λ k. (scaled_plus n d v b h).1 (omega (arith, read_below l r (at_most_read (exact (number true)) (sum_of (fraction true) (power_below b)) k))),
      )

-- two tests that say the same are one
pub same_test : (x y : Bool) {P : Type 0} → IsTrue x ↔ P → P ↔ IsTrue y → x ≡ y
same_test true y f g = sym (g.0 (f.0 refl))
same_test false true f g = f.1 (g.1 refl)
same_test false false f g = refl

-- from the test on sizes to that on the code's fraction and number
pub low_from : (f : Frac) (v : Parts) (b : ℕ) → b ≤ 60 → (m : Bool) (n d : ℕ) (r : Bool) → n ≡ unsigned_abs f.n → d ≡ unsigned_abs f.d → signed_of m (unsigned_abs f.n) ≡ f.n
    → IsTrue r ↔ IsUnder m v.negative n d (units v.size) (2 ^ (120 - b)) → r ≡ at_most (difference_of (fraction_of_frac f) (power_below b)) (exact (parts_dyadic v))
low_from f v b h m n d r above below sign t =
    let q = fraction n d (units v.size) b h m in
    let same : q ≡ fraction_of_frac f = ap (λ x. record { num = signed_of m x; den = d }) above ∙ ap (λ z. record { num = z; den = d }) sign ∙ ap (λ x. record { num = f.n; den = x }) below in
    subst (λ p. r ≡ at_most (difference_of p (power_below b)) (exact (parts_dyadic v))) same (same_test r (at_most (difference_of q (power_below b)) (exact (parts_dyadic v))) t (under_low n d (units v.size) b h m v.negative))

pub high_from : (f : Frac) (v : Parts) (b : ℕ) → b ≤ 60 → (m : Bool) (n d : ℕ) (r : Bool) → n ≡ unsigned_abs f.n → d ≡ unsigned_abs f.d → signed_of m (unsigned_abs f.n) ≡ f.n
    → IsTrue r ↔ IsUnder (not m) (not v.negative) n d (units v.size) (2 ^ (120 - b)) → r ≡ at_most (exact (parts_dyadic v)) (sum_of (fraction_of_frac f) (power_below b))
high_from f v b h m n d r above below sign t =
    let q = fraction n d (units v.size) b h m in
    let same : q ≡ fraction_of_frac f = ap (λ x. record { num = signed_of m x; den = d }) above ∙ ap (λ z. record { num = z; den = d }) sign ∙ ap (λ x. record { num = f.n; den = x }) below in
    subst (λ p. r ≡ at_most (exact (parts_dyadic v)) (sum_of p (power_below b))) same (same_test r (at_most (exact (parts_dyadic v)) (sum_of q (power_below b))) t (under_high n d (units v.size) b h m v.negative))
