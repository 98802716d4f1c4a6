-- Units in two halves.
use Rattle.std.proofs.Common.{◌≡◌, ℕ, ◌+◌, ◌-◌, ◌*◌, ◌/◌, ◌%◌, ◌^◌, ◌<◌, ◌≤◌, ℤ, pos, ◌+ℤ◌, ◌*ℤ◌, ◌≤ℤ◌, neg_ℤ, Bool, true, false, cond, IsTrue, Some, None, refl, true≢false, lit<, arith, ap, sym, ◌∙◌, subst, div-add-mod', mod-lt}
use Rattle.std.specs.Prelude.{Option}
use Rattle.std.proofs.lemmas.Int.{ints}
use Rattle.std.proofs.lemmas.Nat.{pow-add, pow_pos}
use Rattle.std.proofs.Math.Nat.{mod-eq_of_lt, mul-lt-mul_of_pos_right}
use Rattle.dyadic.specs.Fraction.{Fraction, at_most, difference_of, sum_of, negated}
use Rattle.dyadic.specs.Rounding.{Dyadic, exact}
use Rattle.interval_model.specs.Space.{real_domain, can_be_halved, side, better}
use Rattle.dyadic.proofs.Ints.{*ℤ-le_right, le_of_*ℤ-le_right}
use Rattle.dyadic.proofs.Ring.{atom, natural, plus, minus, times, same, read}
use Rattle.dyadic.proofs.Rounds.{at_most_from, at_most_read, exact_read}
use Rattle.dyadic.specs.declared.parts.Parts.{Parts}
use Rattle.dyadic.specs.Views.{units_of, parts_units, dyadic_of}
use Rattle.ival.specs.declared.domain.Range.{Range}
use Rattle.ival.specs.WideViews.{side_of_units}

-- ---- at least 2^120 units

pub high_units : (odd shift : ℕ) → 120 ≤ shift → odd * 2 ^ (shift - 120) * 2 ^ 120 ≡ odd * 2 ^ shift
high_units odd shift h =
    let p : 2 ^ (shift - 120) * 2 ^ 120 ≡ 2 ^ shift = sym (pow-add 2 (shift - 120) 120) ∙ ap (λ n. 2 ^ n) (omega (arith, h)) in
    omega (arith, ap (λ x. odd * x) p)

pub high_fits : (odd shift : ℕ) → 120 ≤ shift → odd * 2 ^ shift ≤ 2 ^ 242 → odd * 2 ^ (shift - 120) < 2 ^ 124
high_fits odd shift h k = omega (arith, k, high_units odd shift h)

pub high_mod : (x odd shift : ℕ) → x ≡ odd → 120 ≤ shift → odd * 2 ^ shift ≤ 2 ^ 242 → x * 2 ^ (shift - 120) % 2 ^ 128 ≡ odd * 2 ^ (shift - 120)
high_mod x odd shift e h k = ap (λ n. n * 2 ^ (shift - 120) % 2 ^ 128) e ∙ mod-eq_of_lt (let f : odd * 2 ^ (shift - 120) < 2 ^ 128 = omega (arith, high_fits odd shift h k) in f)

-- ---- less

pub rest_is : (x b : ℕ) → x < 2 ^ 64 → x - x / 2 ^ b * 2 ^ b % 2 ^ 128 ≡ x % 2 ^ b
rest_is x b h =
    let d = div-add-mod' x (2 ^ b) in
    let m : x / 2 ^ b * 2 ^ b % 2 ^ 128 ≡ x / 2 ^ b * 2 ^ b = mod-eq_of_lt (let f : x / 2 ^ b * 2 ^ b < 2 ^ 128 = omega (arith, d, h) in f) in
    omega (arith, d, m)

pub rest_fits : (x b s : ℕ) → b + s ≡ 120 → x % 2 ^ b * 2 ^ s < 2 ^ 120
rest_fits x b s h =
    let p : 2 ^ b * 2 ^ s ≡ 2 ^ 120 = sym (pow-add 2 b s) ∙ ap (λ n. 2 ^ n) h in
    subst (λ n. x % 2 ^ b * 2 ^ s < n) p (mul-lt-mul_of_pos_right (mod-lt x (pow_pos b)) (pow_pos s))

pub low_is : (x b s : ℕ) → x < 2 ^ 64 → b + s ≡ 120 → (x - x / 2 ^ b * 2 ^ b % 2 ^ 128) * 2 ^ s % 2 ^ 128 ≡ x % 2 ^ b * 2 ^ s
low_is x b s h k = ap (λ n. n * 2 ^ s % 2 ^ 128) (rest_is x b h) ∙ mod-eq_of_lt (let f : x % 2 ^ b * 2 ^ s < 2 ^ 128 = omega (arith, rest_fits x b s k) in f)

pub split_units : (x b s : ℕ) → b + s ≡ 120 → x / 2 ^ b * 2 ^ 120 + x % 2 ^ b * 2 ^ s ≡ x * 2 ^ s
split_units x b s k =
    let p : 2 ^ b * 2 ^ s ≡ 2 ^ 120 = sym (pow-add 2 b s) ∙ ap (λ n. 2 ^ n) k in
    omega (arith, ap (λ n. n * 2 ^ s) (div-add-mod' x (2 ^ b)), ap (λ n. x / 2 ^ b * n) p)

-- ---- signs

pub both_plus : (x y : ℕ) → pos x ≤ℤ pos y → x ≤ y
both_plus x y h = omega (arith, ints, h)

pub both_minus : (x y : ℕ) → neg_ℤ (pos x) ≤ℤ neg_ℤ (pos y) → y ≤ x
both_minus x y h = omega (arith, ints, h)

pub no_minus : (x y : ℕ) → 0 < y → pos x ≤ℤ neg_ℤ (pos y) → ⊥
no_minus x y g h = omega (arith, ints, h, g)

pub plus_length : (x y n : ℕ) → x ≤ y → n ≡ y - x → pos n ≡ (pos y +ℤ neg_ℤ (pos x))
plus_length x y n h e = omega (arith, ints, h, e)

pub minus_length : (x y n : ℕ) → y ≤ x → n ≡ x - y → pos n ≡ (neg_ℤ (pos y) +ℤ neg_ℤ (neg_ℤ (pos x)))
minus_length x y n h e = omega (arith, ints, h, e)

-- ---- sides

side-at : (n : ℕ) (h l : ℤ) → pos n ≡ (h +ℤ neg_ℤ l) → pos (n * 2 ^ 120) ≡ ((h *ℤ pos (2 ^ 120)) +ℤ (neg_ℤ l *ℤ pos (2 ^ 120)))
side-at n h l e = same (natural (n * 2 ^ 120)) (plus (times (atom h) (natural (2 ^ 120))) (times (minus (atom l)) (natural (2 ^ 120))))
    (omega (arith, read (natural n) (plus (atom h) (minus (atom l))) e))

pub side_is : (n : ℕ) (h l : Dyadic) → pos n ≡ (h.units +ℤ neg_ℤ l.units) → side_of_units n ≡ difference_of (exact h) (exact l)
unfolding sum_of negated
side_is n h l e = ap (λ (z : ℤ). record { num = z; den = 2 ^ 120 * 2 ^ 120 }) (side-at n h.units l.units e)

pub side_order : (v w : ℕ) → w ≤ v → IsTrue (at_most (side_of_units w) (side_of_units v))
side_order v w h = at_most_from (side_of_units w) (side_of_units v) (*ℤ-le_right (pos (w * 2 ^ 120)) (pos (v * 2 ^ 120)) (2 ^ 120 * 2 ^ 120) (omega (arith, ints, h)))

pub side_read : (v w : ℕ) → IsTrue (at_most (side_of_units w) (side_of_units v)) → w ≤ v
side_read v w h = let k = le_of_*ℤ-le_right (pos (w * 2 ^ 120)) (pos (v * 2 ^ 120)) (2 ^ 120 * 2 ^ 120) (lit< tt) (at_most_read (side_of_units w) (side_of_units v) h) in omega (arith, ints, k)

-- the axis with its side of so many units
abbrev pub found : ℕ → ℕ → Option (ℕ × Fraction)
found axis n = Some (axis, side_of_units n)

pub better_keeps : (old axis v w : ℕ) → w ≤ v → found old v ≡ better (found old v) axis (Some (side_of_units w))
better_keeps old axis v w h = go (at_most (side_of_units w) (side_of_units v)) (side_order v w h)
  where
    go : (t : Bool) → IsTrue t → found old v ≡ cond t (found old v) (found axis w)
    go true k = refl
    go false k = absurd (true≢false (sym k))

pub better_takes : (old axis v w : ℕ) → (w ≤ v → ⊥) → found axis w ≡ better (found old v) axis (Some (side_of_units w))
better_takes old axis v w h = go (at_most (side_of_units w) (side_of_units v)) (side_read v w)
  where
    go : (t : Bool) → (IsTrue t → w ≤ v) → found axis w ≡ cond t (found old v) (found axis w)
    go true k = absurd (h (k refl))
    go false k = refl

pub side_of_real : (l h : Dyadic) (n : ℕ) → can_be_halved (real_domain l h) ≡ true → pos n ≡ (h.units +ℤ neg_ℤ l.units) → Some (side_of_units n) ≡ side (real_domain l h)
side_of_real l h n t e = go (can_be_halved (real_domain l h)) t
  where
    go : (u : Bool) → u ≡ true → Some (side_of_units n) ≡ cond u (Some (difference_of (exact h) (exact l))) None
    go true k = ap Some (side_is n h l e)
    go false k = absurd (true≢false (sym k))

pub mixed_length : (x y w : ℕ) → w ≡ x + y → pos w ≡ (pos y +ℤ neg_ℤ (neg_ℤ (pos x)))
mixed_length x y w e = omega (arith, ints, e)

-- ---- the ends of a range by their parts

pub upright_parts : (r : Range) (p q : Parts) → parts_units p ≡ units_of r.low → parts_units q ≡ units_of r.high → parts_units p ≤ℤ parts_units q
upright_parts r p q e f = subst (λ z. z ≤ℤ parts_units q) (sym e) (subst (λ z. units_of r.low ≤ℤ z) (sym f) (exact_read (dyadic_of r.low) (dyadic_of r.high) r.upright))
