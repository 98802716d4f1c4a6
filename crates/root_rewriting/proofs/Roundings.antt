-- Sizes in 2^20ths, rounded down and up.
use Rattle.std.proofs.Common.{◌≡◌, ℕ, zero, suc, ◌+◌, ◌-◌, ◌*◌, ◌/◌, ◌%◌, ◌^◌, ◌<◌, ◌≤◌, Bool, true, false, cond, ℤ, pos, negsuc, refl, ap, sym, ◌∙◌, subst, arith}
use Rattle.std.proofs.Math.Nat.{div-mul-le_self, lt-div-mul-add, mul_assoc, mul-le-mul_right, mul-le-mul}
use Rattle.std.proofs.lemmas.Nat.{pow-add, pow_pos}
use Rattle.dyadic.specs.Grid.{IsSpelling}
use Rattle.dyadic.specs.Rounding.{ceiling}
use Rattle.dyadic.specs.Signed.{signed_of}
use Rattle.script_model.specs.Sexp.{Place, Sexp}
use Rattle.script_roots.specs.Rewritten.{negative_parts_at, parts_above, parts_at, parts_below}
use Rattle.root_rewriting.specs.Short.{IsShort}

-- ---- of many binary zeros

module _ (odd shift : ℕ) (long : 100 ≤ shift) where
  apart : odd * 2 ^ shift ≡ odd * 2 ^ (shift - 100) * 2 ^ 100
  apart = ap (λ (k : ℕ). odd * 2 ^ k) (let e : shift ≡ (shift - 100) + 100 = omega (arith, long) in e) ∙ ap (λ (k : ℕ). odd * k) (pow-add 2 (shift - 100) 100) ∙ sym (mul_assoc odd (2 ^ (shift - 100)) (2 ^ 100))

  pub long_below : odd * 2 ^ (shift - 100) ≡ odd * 2 ^ shift / 2 ^ 100
  long_below = let e = apart in let m : ℕ = odd * 2 ^ (shift - 100) in let n : ℕ = odd * 2 ^ shift in let h : n ≡ m * 2 ^ 100 = e in omega (arith, h)

  pub long_above : odd * 2 ^ (shift - 100) ≡ ceiling (odd * 2 ^ shift) (2 ^ 100)
  long_above = let m : ℕ = odd * 2 ^ (shift - 100) in let n : ℕ = odd * 2 ^ shift in let h : n ≡ m * 2 ^ 100 = apart in omega (arith, h)

  pub long_short : IsSpelling odd shift → IsShort odd (shift - 100)
  long_short s = record {
    short = omega (arith, s.short);
    in_range = let m : ℕ = odd * 2 ^ (shift - 100) in let n : ℕ = odd * 2 ^ shift in let h : n ≡ m * 2 ^ 100 = apart in let k : n ≤ 2 ^ 242 = s.in_range in omega (arith, h, k);
    zero = λ e. omega (arith, s.zero e);
  }

-- ---- of few

module _ (odd shift : ℕ) (few : shift < 100) where
  abbrev bits : ℕ
  bits = 2 ^ (100 - shift)

  abbrev scale : ℕ
  scale = 2 ^ shift

  whole : bits * scale ≡ 2 ^ 100
  whole = sym (pow-add 2 (100 - shift) shift) ∙ ap (λ (n : ℕ). 2 ^ n) (let e : (100 - shift) + shift ≡ 100 = omega (arith, few) in e)

  scaled : (m n : ℕ) → m * bits ≤ n → m * 2 ^ 100 ≤ n * scale
  scaled m n h = subst (λ (k : ℕ). k ≤ n * scale) (mul_assoc m bits scale ∙ ap (λ (k : ℕ). m * k) whole) (mul-le-mul_right {m = m * bits} {n = n} scale h)

  scaled-above : (m n : ℕ) → n ≤ m * bits → n * scale ≤ m * 2 ^ 100
  scaled-above m n h = subst (λ (k : ℕ). n * scale ≤ k) (mul_assoc m bits scale ∙ ap (λ (k : ℕ). m * k) whole) (mul-le-mul_right {m = n} {n = m * bits} scale h)

  pub short_below : odd / bits ≡ odd * 2 ^ shift / 2 ^ 100
  short_below =
      let w : ℕ = odd / bits in
      let low : w * 2 ^ 100 ≤ odd * scale = scaled w odd (div-mul-le_self odd bits) in
      let over : (odd + 1) * scale ≤ (w + 1) * 2 ^ 100 = scaled-above (w + 1) (odd + 1) (omega (arith, lt-div-mul-add {a = odd} {b = bits} (pow_pos (100 - shift)))) in
      let some = pow_pos shift in
      omega (arith, low, over, some)

  pub short_above : ceiling odd bits ≡ ceiling (odd * 2 ^ shift) (2 ^ 100)
  short_above =
      let top : ℕ = odd + (bits - 1) in
      let w : ℕ = top / bits in
      let some = pow_pos (100 - shift) in
      let up : odd ≤ w * bits = omega (arith, lt-div-mul-add {a = top} {b = bits} some) in
      let high : odd * scale ≤ w * 2 ^ 100 = scaled-above w odd up in
      high-enough w high (div-mul-le_self top bits)
    where
      high-enough : (w : ℕ) → odd * scale ≤ w * 2 ^ 100 → w * bits ≤ odd + (bits - 1) → w ≡ ceiling (odd * scale) (2 ^ 100)
      high-enough zero high low = omega (arith, high)
      high-enough (suc v) high low =
          let some = pow_pos (100 - shift) in
          let under : v * bits + 1 ≤ odd = omega (arith, low) in
          let scale-some = pow_pos shift in
          let less : (v * bits + 1) * scale ≤ odd * scale = mul-le-mul_right {m = v * bits + 1} {n = odd} scale under in
          let all : v * bits * scale ≡ v * 2 ^ 100 = mul_assoc v bits scale ∙ ap (λ (k : ℕ). v * k) whole in
          omega (arith, high, less, all, scale-some)

pub short_short : (n : ℕ) → n < 2 ^ 64 → IsShort n 0
short_short n h = record { short = omega arith; in_range = omega (arith, h); zero = λ e. refl }

-- ---- by sign

pub some_size : (odd shift : ℕ) → 0 < odd → 0 < odd * 2 ^ shift
some_size odd shift h = let more : 1 * 1 ≤ odd * 2 ^ shift = mul-le-mul {n₁ = 1} {m₁ = 1} {n₂ = odd} {m₂ = 2 ^ shift} h (pow_pos shift) in omega (arith, more)

pub below_is : (negative : Bool) (size count : ℕ) (units : ℤ) → signed_of negative size ≡ units → (negative ≡ true → 0 < size) → count ≡ cond negative (ceiling size (2 ^ 100)) (size / 2 ^ 100) → (at : Place) →
    cond negative (negative_parts_at at count) (parts_at at count) ≡ parts_below at units
below_is false size count units e some h at = ap (parts_at at) h ∙ ap (parts_below at) e
below_is true zero count units e some h at = absurd (omega (arith, some refl))
below_is true (suc m) count units e some h at = ap (negative_parts_at at) h ∙ ap (parts_below at) e

pub above_is : (negative : Bool) (size count : ℕ) (units : ℤ) → signed_of negative size ≡ units → (negative ≡ true → 0 < size) → count ≡ cond negative (size / 2 ^ 100) (ceiling size (2 ^ 100)) → (at : Place) →
    cond negative (negative_parts_at at count) (parts_at at count) ≡ parts_above at units
above_is false size count units e some h at = ap (parts_at at) h ∙ ap (parts_above at) e
above_is true zero count units e some h at = absurd (omega (arith, some refl))
above_is true (suc m) count units e some h at = ap (negative_parts_at at) h ∙ ap (parts_above at) e
