-- `root_down` gives the greatest number of the grid whose square is not above a number, and `root_up` the least that is not below 0 and whose square is not below it.
use Rattle.std.proofs.Common.{◌≡◌, ℕ, ◌*◌, ◌^◌, ◌<◌, ◌≤◌, arith, refl, sym, subst, ⊎_elim, ℤ, pos, negsuc, nat_abs, ◌*ℤ◌, ◌≤ℤ◌, le_antisymm}
use Rattle.std.proofs.Math.Nat.{mul-le-mul}
use Rattle.std.proofs.lemmas.Int.{ints}
use Rattle.std.proofs.lemmas.Bool.{cases_lt}
use Rattle.dyadic.specs.Fraction.{product_of}
use Rattle.dyadic.specs.Rounding.{Dyadic, exact, IsRepresentable, finite, size_below, size_above, whole_root, root_above, root_down, root_up}
pub use Rattle.dyadic.specs.Laws.{squares_below, squares_above, IsRootBelow, IsRootAbove}
use Rattle.dyadic.specs.Grid.{IsRootDown, IsRootUp, IsRoundedDown, IsRoundedUp, IsTightRoot, IsAboveAll}
use Rattle.dyadic.proofs.Roots.{root_down as sizes_down, root_up as sizes_up}
use Rattle.dyadic.proofs.Sizes.{root_tight, size_below_is, size_above_is, above_representable}
use Rattle.dyadic.proofs.Rounds.{at_most_from, at_most_read, exact_from}

-- ---- sizes

root_range : (n : ℕ) → n ≤ 2 ^ 242 → n * 2 ^ 120 < 2 ^ 384
root_range n h = omega (arith, h)

square_le : (a b : ℕ) → a * a < b * b → a < b
square_le a b h = ⊎_elim (λ l. l) (λ (more : b ≤ a). absurd (let k : b * b ≤ a * a = mul-le-mul more more in omega (arith, k, h))) (cases_lt a b)

-- the least number that is not below the root is below 2^182
root_above_small : (n : ℕ) → n ≤ 2 ^ 242 → root_above (n * 2 ^ 120) (whole_root (n * 2 ^ 120)) ≤ 2 ^ 181
root_above_small n h =
    let t = root_tight (n * 2 ^ 120) (root_range n h) in
    let large : n * 2 ^ 120 ≤ 2 ^ 181 * 2 ^ 181 = omega (arith, h) in
    let low = t.least (2 ^ 181) (record { whole = 2; power = 180; few_bits = omega arith; in_range = omega arith; value = refl }) large in
    omega (arith, low)

pub root_down_sizes : (n : ℕ) → n ≤ 2 ^ 242 → IsRootDown (n * 2 ^ 120) (size_below (whole_root (n * 2 ^ 120))) × IsRepresentable (size_below (whole_root (n * 2 ^ 120)))
root_down_sizes n h =
    let v = whole_root (n * 2 ^ 120) in
    let s = size_below_is v in
    let one : v * 2 ^ 0 ≡ v = omega arith in
    (sizes_down (n * 2 ^ 120) v (root_above (n * 2 ^ 120) v) 0 (size_below v) (root_tight (n * 2 ^ 120) (root_range n h)) (subst (λ x. IsRoundedDown x (size_below v)) (sym one) s.0), s.1)

pub root_up_sizes : (n : ℕ) → n ≤ 2 ^ 242 → IsRootUp (n * 2 ^ 120) (size_above (root_above (n * 2 ^ 120) (whole_root (n * 2 ^ 120)))) × IsRepresentable (size_above (root_above (n * 2 ^ 120) (whole_root (n * 2 ^ 120))))
root_up_sizes n h =
    let v = whole_root (n * 2 ^ 120) in
    let a = root_above (n * 2 ^ 120) v in
    let few = root_above_small n h in
    let one : a * 2 ^ 0 ≡ a = omega arith in
    (sizes_up (n * 2 ^ 120) v a 0 (size_above a) (root_tight (n * 2 ^ 120) (root_range n h)) (subst (λ x. IsRoundedUp x (size_above a)) (sym one) (size_above_is a (omega (arith, few)))), above_representable a (omega (arith, few)))

pub root_down_unique : (n r s : ℕ) → IsRepresentable r → IsRepresentable s → IsRootDown n r → IsRootDown n s → r ≡ s
root_down_unique n r s g k d e = le_antisymm (e.greatest r g d.at_most) (d.greatest s k e.at_most)

pub root_up_unique : (n r s : ℕ) → IsRepresentable r → IsRepresentable s → IsRootUp n r → IsRootUp n s → r ≡ s
root_up_unique n r s g k d e = le_antisymm (d.least s k e.at_least) (e.least r g d.at_least)

-- the root of a size is in range
pub root_in_range : (n low high s : ℕ) → n ≤ 2 ^ 242 → IsTightRoot (n * 2 ^ 120) low high s → IsAboveAll (high * 2 ^ s) → ⊥
root_in_range n low high s h t a =
    let r : IsRepresentable (2 ^ 181) = record { whole = 2; power = 180; few_bits = omega arith; in_range = omega arith; value = refl } in
    let large : n * 2 ^ 120 ≤ 2 ^ 181 * 2 ^ 181 = omega (arith, h) in
    omega (arith, t.least (2 ^ 181) r large, a (2 ^ 181) r)

-- squares in units
square_in_units : (z : ℤ) → z *ℤ z ≡ pos (nat_abs z * nat_abs z)
square_in_units (pos k) = omega (arith, ints)
square_in_units (negsuc k) = omega (arith, ints)

below_from : (s : Dyadic) (n : ℕ) → nat_abs s.units * nat_abs s.units ≤ n * 2 ^ 120 → squares_below s (record { units = pos n })
unfolding product_of
below_from s n h = at_most_from (product_of (exact s) (exact s)) (exact (record { units = pos n }))
    (subst (λ z. (z *ℤ pos (2 ^ 120)) ≤ℤ (pos n *ℤ pos (2 ^ 120 * 2 ^ 120))) (sym (square_in_units s.units)) (omega (arith, ints, h)))

below_read : (s : Dyadic) (n : ℕ) → squares_below s (record { units = pos n }) → nat_abs s.units * nat_abs s.units ≤ n * 2 ^ 120
unfolding product_of
below_read s n h =
    let k = at_most_read (product_of (exact s) (exact s)) (exact (record { units = pos n })) h in
    let l : (pos (nat_abs s.units * nat_abs s.units) *ℤ pos (2 ^ 120)) ≤ℤ (pos n *ℤ pos (2 ^ 120 * 2 ^ 120)) = subst (λ z. (z *ℤ pos (2 ^ 120)) ≤ℤ (pos n *ℤ pos (2 ^ 120 * 2 ^ 120))) (square_in_units s.units) k in
    omega (arith, ints, l)

above_from : (s : Dyadic) (n : ℕ) → n * 2 ^ 120 ≤ nat_abs s.units * nat_abs s.units → squares_above s (record { units = pos n })
unfolding product_of
above_from s n h = at_most_from (exact (record { units = pos n })) (product_of (exact s) (exact s))
    (subst (λ z. (pos n *ℤ pos (2 ^ 120 * 2 ^ 120)) ≤ℤ (z *ℤ pos (2 ^ 120))) (sym (square_in_units s.units)) (omega (arith, ints, h)))

above_read : (s : Dyadic) (n : ℕ) → squares_above s (record { units = pos n }) → n * 2 ^ 120 ≤ nat_abs s.units * nat_abs s.units
unfolding product_of
above_read s n h =
    let k = at_most_read (exact (record { units = pos n })) (product_of (exact s) (exact s)) h in
    let l : (pos n *ℤ pos (2 ^ 120 * 2 ^ 120)) ≤ℤ (pos (nat_abs s.units * nat_abs s.units) *ℤ pos (2 ^ 120)) = subst (λ z. (pos n *ℤ pos (2 ^ 120 * 2 ^ 120)) ≤ℤ (z *ℤ pos (2 ^ 120))) (square_in_units s.units) k in
    omega (arith, ints, l)

-- z is at most its size
size_order : (z : ℤ) (r : ℕ) → nat_abs z ≤ r → z ≤ℤ pos r
size_order (pos k) r h = omega (arith, ints)
size_order (negsuc k) r h = omega (arith, ints)

size_order_above : (z : ℤ) (r : ℕ) → pos 0 ≤ℤ z → r ≤ nat_abs z → pos r ≤ℤ z
size_order_above (pos k) r p h = omega (arith, ints)
size_order_above (negsuc k) r p h = absurd (p.le)

pub root_down_is : (n : ℕ) → n ≤ 2 ^ 242 → (r : Dyadic) × (root_down (record { units = pos n }) ≡ finite r) × IsRootBelow (record { units = pos n }) r
root_down_is n h =
    let m = size_below (whole_root (n * 2 ^ 120)) in
    let k = root_down_sizes n h in (
      record { units = pos m },
      refl,
      record {
        on_grid = k.1;
        plus = omega (arith, ints);
        below = below_from (record { units = pos m }) n k.0.at_most;
        greatest = λ s g b. exact_from s (record { units = pos m }) (size_order s.units m (k.0.greatest (nat_abs s.units) g (below_read s n b)));
      },
    )

pub root_up_is : (n : ℕ) → n ≤ 2 ^ 242 → (r : Dyadic) × (root_up (record { units = pos n }) ≡ finite r) × IsRootAbove (record { units = pos n }) r
root_up_is n h =
    let m = size_above (root_above (n * 2 ^ 120) (whole_root (n * 2 ^ 120))) in
    let k = root_up_sizes n h in (
      record { units = pos m },
      refl,
      record {
        on_grid = k.1;
        plus = omega (arith, ints);
        above = above_from (record { units = pos m }) n k.0.at_least;
        least = λ s g p b. exact_from (record { units = pos m }) s (size_order_above s.units m p (k.0.least (nat_abs s.units) g (above_read s n b)));
      },
    )
