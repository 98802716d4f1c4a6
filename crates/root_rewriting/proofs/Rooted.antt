-- Roots of ends, and the least whole numbers that are not below them.
use Rattle.std.proofs.Common.{◌≡◌, ℕ, zero, suc, ◌+◌, ◌-◌, ◌*◌, ◌/◌, ◌%◌, ◌^◌, ◌≤◌, ◌<◌, Bool, true, false, ℤ, pos, Option, Some, None, IsTrue, refl, ap, sym, ◌∙◌, subst, arith, inl, inr}
use Rattle.std.proofs.Math.Nat.{div-mul-le_self, lt-div-mul-add, mul_assoc, mul-le-mul_right, pow-le-pow_right}
use Rattle.std.proofs.lemmas.Bool.{cases_lt}
use Rattle.dyadic.specs.Grid.{IsSpelling}
use Rattle.std.proofs.lemmas.Nat.{pow-add, pow_pos}
use Rattle.dyadic.specs.Rounding.{Ext as KeptEnd, IsExtOnGrid, below_all, finite, above_all, ceiling, ext_at_most}
use Rattle.dyadic.specs.Signed.{signed_of}
use Rattle.dyadic.specs.Size.{units}
use Rattle.dyadic.specs.declared.dy.Ext.{Ext}
use Rattle.dyadic.specs.declared.dy.Ext.TheVariants.{NegInf, Fin, PosInf}
use Rattle.ival.proofs.Facts.{number_on_grid}
use Rattle.dyadic.specs.Views.{ext_of, dyadic_of, parts_units, units_of}
use Rattle.dyadic.specs.declared.dy.Dy.{Dy}
use Rattle.dyadic.specs.declared.parts.Parts.{Parts}
use Rattle.script_roots.specs.Ranges.{root_above, root_bound, whole_above, whole_ext}
use Rattle.script_roots.proofs.Operations.{IsFew, root_bound_few, rounded_root}
use Rattle.std.proofs.lemmas.Int.{ints}
use Rattle.dyadic.proofs.Equal.{both_pass}
use Rattle.dyadic.proofs.Rounds.{exact_from}
use Rattle.interval_model.specs.Interval.{IsKept}
use Rattle.ival.specs.Proper.{are_ends}
use Rattle.ival.specs.Views.{interval_of}
use Rattle.ival.specs.declared.ends.Ival.{Ival}
use Rattle.ival.specs.declared.ends.Ival.TheVariants.{Empty, Between}

-- ---- quotients rounded up

ceiling-is : (n w : ℕ) → n ≤ w * 2 ^ 120 → w * 2 ^ 120 < n + 2 ^ 120 → ceiling n (2 ^ 120) ≡ w
ceiling-is n w h k = omega (arith, h, k)

-- of a number of whole units
pub ceiling_high : (odd shift : ℕ) → 120 ≤ shift → odd * 2 ^ shift ≤ 2 ^ 181 → (odd * 2 ^ (shift - 120) ≤ 2 ^ 61) × (ceiling (odd * 2 ^ shift) (2 ^ 120) ≡ odd * 2 ^ (shift - 120))
ceiling_high odd shift h few =
    let k : ℕ = shift - 120 in
    let e : shift ≡ k + 120 = omega (arith, h) in
    let m : ℕ = odd * 2 ^ k in
    let is : odd * 2 ^ shift ≡ m * 2 ^ 120 = ap (λ (n : ℕ). odd * 2 ^ n) e ∙ ap (λ (n : ℕ). odd * n) (pow-add 2 k 120) ∙ omega arith in
    (omega (arith, few, is), ceiling-is (odd * 2 ^ shift) m (omega (arith, is)) (omega (arith, is)))

pub shift_few : (odd shift : ℕ) → IsSpelling odd shift → 120 ≤ shift → odd * 2 ^ shift ≤ 2 ^ 181 → shift - 120 < 64
shift_few zero shift s h few = absurd (omega (arith, h, s.zero refl))
shift_few (suc n) shift s h few = elim (cases_lt 181 shift) [
  | inl l ↦ let wide : 2 ^ 182 ≤ 2 ^ shift = pow-le-pow_right {n = 2} (omega arith) {i = 182} {j = shift} (omega (arith, l)) in
      let more : 1 * 2 ^ shift ≤ suc n * 2 ^ shift = mul-le-mul_right {m = 1} {n = suc n} (2 ^ shift) (omega arith) in absurd (omega (arith, wide, more, few))
  | inr l ↦ omega (arith, l)
]

-- of one of 2^-120 units, by the quotient of its odd part
module _ (odd shift : ℕ) (short : shift < 120) where
  abbrev below : ℕ
  below = 2 ^ (120 - shift)

  parts-of : below * 2 ^ shift ≡ 2 ^ 120
  parts-of = sym (pow-add 2 (120 - shift) shift) ∙ ap (λ (n : ℕ). 2 ^ n) (let e : (120 - shift) + shift ≡ 120 = omega (arith, short) in e)

  scaled : (m n : ℕ) → m ≤ n → m * 2 ^ shift ≤ n * 2 ^ shift
  scaled m n h = mul-le-mul_right (2 ^ shift) h

  whole-units : (w : ℕ) → (w * below) * 2 ^ shift ≡ w * 2 ^ 120
  whole-units w = mul_assoc w below (2 ^ shift) ∙ ap (λ (n : ℕ). w * n) parts-of

  pub ceiling_exact : odd / below * below ≡ odd → ceiling (odd * 2 ^ shift) (2 ^ 120) ≡ odd / below
  ceiling_exact e =
      let is : odd * 2 ^ shift ≡ odd / below * 2 ^ 120 = ap (λ (n : ℕ). n * 2 ^ shift) (sym e) ∙ whole-units (odd / below) in
      ceiling-is (odd * 2 ^ shift) (odd / below) (omega (arith, is)) (omega (arith, is))

  pub ceiling_more : ¬ (odd / below * below ≡ odd) → ceiling (odd * 2 ^ shift) (2 ^ 120) ≡ odd / below + 1
  ceiling_more other =
      let w : ℕ = odd / below in
      let more : w * below + 1 ≤ odd = omega (arith, other, div-mul-le_self odd below) in
      let less : odd ≤ (w + 1) * below = omega (arith, lt-div-mul-add {a = odd} {b = below} (pow_pos (120 - shift))) in
      let low : (w * below + 1) * 2 ^ shift ≤ odd * 2 ^ shift = scaled (w * below + 1) odd more in
      let high : odd * 2 ^ shift ≤ (w + 1) * 2 ^ 120 = subst (λ (n : ℕ). odd * 2 ^ shift ≤ n) (whole-units (w + 1)) (scaled odd ((w + 1) * below) less) in
      ceiling-is (odd * 2 ^ shift) (w + 1) high (omega (arith, low, whole-units w, pow_pos shift))

-- the same of numbers of 128 bits
unwrapped : (n b : ℕ) → n < 2 ^ 128 → (n / b * b) % 2 ^ 128 ≡ n / b * b
unwrapped n b l = let k = div-mul-le_self n b in omega (arith, l, k)

pub whole_exact : (odd shift n m : ℕ) → shift < 120 → n ≡ odd → m ≡ n / 2 ^ (120 - shift) → n < 2 ^ 128 → (m * 2 ^ (120 - shift)) % 2 ^ 128 ≡ n → n / 2 ^ (120 - shift) ≡ ceiling (odd * 2 ^ shift) (2 ^ 120)
whole_exact odd shift n m short e f l h =
    let b : ℕ = 2 ^ (120 - shift) in
    let back : n / b * b ≡ n = sym (unwrapped n b l) ∙ ap (λ (k : ℕ). (k * b) % 2 ^ 128) (sym f) ∙ h in
    let exact : odd / b * b ≡ odd = subst (λ (k : ℕ). k / b * b ≡ k) e back in
    ap (λ (k : ℕ). k / b) e ∙ sym (ceiling_exact odd shift short exact)

pub whole_more : (odd shift n m : ℕ) → shift < 120 → n ≡ odd → m ≡ n / 2 ^ (120 - shift) → n < 2 ^ 128 → ((m * 2 ^ (120 - shift)) % 2 ^ 128 ≡ n → ⊥) → n / 2 ^ (120 - shift) + 1 ≡ ceiling (odd * 2 ^ shift) (2 ^ 120)
whole_more odd shift n m short e f l h =
    let b : ℕ = 2 ^ (120 - shift) in
    let other : odd / b * b ≡ odd → ⊥ = λ k. h (ap (λ (j : ℕ). (j * b) % 2 ^ 128) f ∙ unwrapped n b l ∙ subst (λ (j : ℕ). j / b * b ≡ j) (sym e) k) in
    ap (λ (k : ℕ). k / b + 1) e ∙ sym (ceiling_more odd shift short other)

-- ---- the root of an end

size-is : (negative : Bool) (m n : ℕ) → signed_of negative m ≡ pos n → m ≡ n
size-is false m n e = cc
size-is true zero n e = cc
size-is true (suc m) n e = cc

pub record IsWholeAbove (e : KeptEnd) (size : ℕ) : Type 0 where
  pub few : size ≤ 2 ^ 181
  pub whole : whole_above (root_above e) ≡ Some (ceiling size (2 ^ 120))

-- the size of a root, in the parts of the number that it is
pub root_size : (e : KeptEnd) → IsExtOnGrid e → (root : Dy) (parts : Parts) → finite (dyadic_of root) ≡ root_above e → parts_units parts ≡ units_of root → IsWholeAbove e (units parts.size)
root_size below_all g root parts h k = cc
root_size above_all g root parts h k = cc
root_size (finite d) g root parts h k =
    let up = rounded_root d g in
    let unit : units_of root ≡ pos up.units = ap (λ (e : KeptEnd). units-in e) (h ∙ up.is) in
    let same : units parts.size ≡ up.units = size-is parts.negative (units parts.size) up.units (k ∙ unit) in
    record {
      few = subst (λ (n : ℕ). n ≤ 2 ^ 181) (sym same) up.few;
      whole = ap whole_above up.is ∙ ap (λ (n : ℕ). Some (ceiling n (2 ^ 120))) (sym same);
    }
  where
    units-in : KeptEnd → ℤ
    units-in (finite r) = r.units
    units-in _ = pos 0

pub end_on_grid : (e : Ext) → IsExtOnGrid (ext_of e)
end_on_grid NegInf = tt
end_on_grid (Fin d) = number_on_grid d
end_on_grid PosInf = tt

pub ival_kept : (i : Ival) → IsKept (interval_of i)
ival_kept Empty = tt
ival_kept (Between e) = (end_on_grid e.low, end_on_grid e.high)

few-of : (o : Option ℕ) (n : ℕ) → o ≡ Some n → IsFew o → n ≤ 2 ^ 62
few-of (Some m) n e h = let same : m ≡ n = cc e in subst (λ (k : ℕ). k ≤ 2 ^ 62) same h
few-of None n e h = cc

pub bound_few : (i : Ival) (o : Option ℕ) (n : ℕ) → o ≡ root_bound (interval_of i) → o ≡ Some n → n ≤ 2 ^ 62
bound_few i o n e f = few-of o n f (subst IsFew (sym e) (root_bound_few (interval_of i) (ival_kept i)))

-- 0 is not above a whole number
pub proper_whole : (n : ℕ) (e : KeptEnd) → e ≡ whole_ext n → IsTrue (are_ends (whole_ext 0) e)
proper_whole n e h = subst (λ (x : KeptEnd). IsTrue (are_ends (whole_ext 0) x)) (sym h)
    (both_pass (ext_at_most (whole_ext 0) (whole_ext n)) true (exact_from (record { units = pos (0 * 2 ^ 120) }) (record { units = pos (n * 2 ^ 120) }) (omega (arith, ints))) refl)
