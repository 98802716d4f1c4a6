-- What is true of mantissas in normal form.
use Rattle.std.proofs.Common.{◌≡◌, ℕ, zero, suc, ◌+◌, ◌*◌, ◌-◌, ◌^◌, ◌<◌, ◌≤◌, arith, refl, sym, ap, ◌∙◌, subst, ⊎_elim, mul-le-mul_right, mul-lt-mul_of_pos_right, mul-pos, Bool, true, false, ℤ, pos, negsuc, neg_ℤ, ◌*ℤ◌, ◌≤ℤ◌, ◌<ℤ◌, nat_abs}
use Rattle.std.proofs.Math.Nat.{mul-le-mul}
use Rattle.std.proofs.lemmas.Int.{ints}
use Rattle.std.proofs.lemmas.Nat.{pow_pos, pow-add}
use Rattle.std.proofs.lemmas.Bool.{cases_lt}
use Rattle.dyadic.specs.Mantissa.{IsNormal}
use Rattle.dyadic.specs.Signed.{signed_of}
use Rattle.dyadic.proofs.Ints.{neg-*ℤ}
use Rattle.dyadic.proofs.Nearest.{pow_le, pow_split}
use Rattle.dyadic.proofs.StepBounds.{regroup}
use Rattle.dyadic.proofs.Unique.{size_in_steps}

pub normal_short : (m : ℤ) (s : ℕ) → IsNormal m s → s ≤ 181
normal_short m s n = ⊎_elim
    (λ (low : s < 182). let l : s ≤ 181 = omega arith in l)
    (λ (high : 182 ≤ s). absurd
    (let many : 2 ^ 61 * 2 ^ 182 ≤ nat_abs m * 2 ^ s = mul-le-mul (n.many_bits (omega arith)) (pow_le 182 s high) in
    omega (arith, many, n.in_range)))
    (cases_lt s 182)

-- ---- by sign and size

pub signed_size : (s : Bool) (n : ℕ) → nat_abs (signed_of s n) ≡ n
signed_size true n = omega (arith, ints)
signed_size false n = refl

pub signed_times : (s : Bool) (n k : ℕ) → signed_of s n *ℤ pos k ≡ signed_of s (n * k)
signed_times true n k = neg-*ℤ (pos n) (pos k)
signed_times false n k = refl

-- an odd part that is moved up
pub raised_normal : (s : Bool) (odd shift up : ℕ) → up ≤ shift → odd * 2 ^ up < 2 ^ 62 → (up < shift → 2 ^ 61 ≤ odd * 2 ^ up) → odd * 2 ^ shift ≤ 2 ^ 242 → IsNormal (signed_of s (odd * 2 ^ up)) (shift - up)
raised_normal s odd shift up within few many range =
    let size = signed_size s (odd * 2 ^ up) in
    record {
      few_bits = omega (arith, size, few);
      many_bits = λ some. let m = many (omega (arith, some)) in omega (arith, size, m);
      in_range = omega (arith, ap (λ n. n * 2 ^ (shift - up)) size, ap (λ n. odd * n) (pow_split up shift within), range);
    }

pub raised_value : (s : Bool) (odd shift up : ℕ) → up ≤ shift → signed_of s (odd * 2 ^ up) *ℤ pos (2 ^ (shift - up)) ≡ signed_of s (odd * 2 ^ shift)
raised_value s odd shift up within =
    signed_times s (odd * 2 ^ up) (2 ^ (shift - up))
    ∙ (let e : odd * 2 ^ up * 2 ^ (shift - up) ≡ odd * 2 ^ shift = omega (arith, ap (λ n. odd * n) (pow_split up shift within)) in ap (signed_of s) e)

-- ---- 0, the sign and the size of a number, from its mantissa

pub zero_units : (m : ℤ) (k : ℕ) → 0 < k → m *ℤ pos k ≡ pos 0 → m ≡ pos 0
zero_units (pos zero) k p e = refl
zero_units (pos (suc n)) k p e = absurd (let some : 0 < suc n * k = mul-pos (omega arith) p in omega (arith, ints, e, some))
zero_units (negsuc n) k p e = absurd (let some : 0 < suc n * k = mul-pos (omega arith) p in omega (arith, ints, e, some))

pub units_zero : (m : ℤ) (k : ℕ) → m ≡ pos 0 → m *ℤ pos k ≡ pos 0
units_zero m k e = ap (λ z. z *ℤ pos k) e ∙ (let z : pos 0 *ℤ pos k ≡ pos 0 = omega (arith, ints) in z)

pub below_units : (m : ℤ) (k : ℕ) → 0 < k → m <ℤ pos 0 → (m *ℤ pos k) <ℤ pos 0
below_units (pos n) k p h = absurd (omega (arith, ints, h))
below_units (negsuc n) k p h = let some : 0 < suc n * k = mul-pos (omega arith) p in omega (arith, ints, some)

pub units_below : (m : ℤ) (k : ℕ) → (m *ℤ pos k) <ℤ pos 0 → m <ℤ pos 0
units_below (pos n) k h = absurd (omega (arith, ints, h))
units_below (negsuc n) k h = omega (arith, ints)

-- ---- steps

pub moved_back : (m : ℤ) (shift up : ℕ) → up ≤ shift → (m *ℤ pos (2 ^ up)) *ℤ pos (2 ^ (shift - up)) ≡ m *ℤ pos (2 ^ shift)
moved_back m shift up within =
    regroup m (2 ^ up) (2 ^ (shift - up)) ∙ (let e : 2 ^ up * 2 ^ (shift - up) ≡ 2 ^ shift = omega (arith, pow_split up shift within) in ap (λ n. m *ℤ pos n) e)

-- many steps above the range
pub large_units : (m : ℤ) (s : ℕ) → pos 0 <ℤ m → 2 ^ 61 ≤ nat_abs m → 181 ≤ s → pos (2 ^ 242) ≤ℤ (m *ℤ pos (2 ^ s))
large_units m s p many high =
    let size = size_in_steps m s in
    let all : 2 ^ 61 * 2 ^ 181 ≤ nat_abs m * 2 ^ s = mul-le-mul many (pow_le 181 s high) in
    let sign = units_above m (2 ^ s) (pow_pos s) p in
    omega (arith, ints, size, all, sign)
  where
    units_above : (m : ℤ) (k : ℕ) → 0 < k → pos 0 <ℤ m → pos 0 <ℤ (m *ℤ pos k)
    units_above (pos n) k p h = let some : 0 < n * k = mul-pos (omega (arith, ints, h)) p in omega (arith, ints, some)
    units_above (negsuc n) k p h = absurd (omega (arith, ints, h))

pub low_units : (m : ℤ) (s : ℕ) → m ≤ℤ pos 0 → 2 ^ 61 ≤ nat_abs m → 181 ≤ s → (s ≡ 181 → 2 ^ 61 < nat_abs m) → (m *ℤ pos (2 ^ s)) <ℤ neg_ℤ (pos (2 ^ 242))
low_units m s p many high other =
    let size = size_in_steps m s in
    let sign = below_units m (2 ^ s) (pow_pos s) (omega (arith, ints, p, many)) in
    let more : 2 ^ 242 < nat_abs m * 2 ^ s = ⊎_elim
    (λ (same : s < 182).
    let e : 181 ≡ s = omega arith in
    let k = other (sym e) in
    subst (λ x. 2 ^ 242 < nat_abs m * 2 ^ x) e (omega (arith, k)))
    (λ (above : 182 ≤ s). let all : 2 ^ 61 * 2 ^ 182 ≤ nat_abs m * 2 ^ s = mul-le-mul many (pow_le 182 s above) in omega (arith, all))
    (cases_lt s 182) in
    omega (arith, ints, size, more, sign)

-- ---- the order

-- a number of a greater shift has a greater size
pub smaller : (m n : ℤ) (i j : ℕ) → IsNormal m i → IsNormal n j → i < j → nat_abs (m *ℤ pos (2 ^ i)) < nat_abs (n *ℤ pos (2 ^ j))
smaller m n i j a b h =
    let few = mul-lt-mul_of_pos_right a.few_bits (pow_pos i) in
    let many = mul-le-mul_right (2 ^ j) (b.many_bits (omega (arith, h))) in
    let power : 2 ^ (i + 1) ≤ 2 ^ j = pow_le (i + 1) j (omega (arith, h)) in
    omega (arith, size_in_steps m i, size_in_steps n j, few, many, power, pow-add 2 i 1)
