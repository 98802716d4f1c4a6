-- The number 0, and powers of 2.
use Rattle.std.proofs.Common.{◌≡◌, ℕ, suc, ◌+◌, ◌-◌, ◌*◌, ◌^◌, ◌≤◌, arith, refl, ap, ℤ, pos, negsuc, ◌+ℤ◌}
use Rattle.std.proofs.lemmas.Int.{ints}
use Rattle.dyadic.specs.Rounding.{Dyadic}
use Rattle.dyadic.specs.Grid.{IsSpelling}
use Rattle.dyadic.specs.Calls.{power_of_two}
use Rattle.dyadic.proofs.Nearest.{pow_le}

pub one_spelling : (k : ℕ) → k ≤ 242 → IsSpelling 1 k
one_spelling k h = record {
  few_bits = omega arith;
  short = h;
  in_range = let p = pow_le k 242 h in omega (arith, p);
  is_odd = refl;
  zero = λ e. absurd (omega (arith, e));
}

pub power_view : (e : ℤ) (k : ℕ) → pos k ≡ e +ℤ pos 120 → (let d : Dyadic = record { units = pos (1 * 2 ^ k) } in d) ≡ power_of_two e
power_view (pos n) k h = (let e : 1 * 2 ^ k ≡ 2 ^ (120 + n) = (let f : k ≡ 120 + n = omega (arith, ints, h) in omega (arith, ap (λ i. 2 ^ i) f)) in ap (λ m. record { units = pos m }) e)
power_view (negsuc n) k h = (let e : 1 * 2 ^ k ≡ 2 ^ (120 - suc n) = (let f : k ≡ 120 - suc n = omega (arith, ints, h) in omega (arith, ap (λ i. 2 ^ i) f)) in ap (λ m. record { units = pos m }) e)
