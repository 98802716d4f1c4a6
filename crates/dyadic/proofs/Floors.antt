-- Every number is on the grid, and rounding keeps the order.
use Rattle.std.proofs.Common.{ℕ, ◌*◌, ◌^◌, ◌<◌, arith, sym, subst, ℤ, pos, ◌*ℤ◌, nat_abs}
use Rattle.std.proofs.lemmas.Int.{ints}
use Rattle.std.specs.Prelude.{◌≤ℤ◌}
use Rattle.dyadic.proofs.Ints.{*ℤ-le_right, le_of_*ℤ-le_right, *ℤ_assoc}
use Rattle.dyadic.specs.declared.dy.Dy.{Dy}
use Rattle.dyadic.specs.Rounding.{IsRepresentable}
use Rattle.dyadic.specs.Grid.{IsSpelling}
use Rattle.dyadic.specs.Mantissa.{mantissa}
use Rattle.dyadic.specs.Signed.{IsKept, IsFloor}
use Rattle.dyadic.specs.Views.{units_of}
use Rattle.dyadic.proofs.Sizes.{representable_product}
use Rattle.dyadic.proofs.Unique.{size_in_steps}

pub representable_spelling : (odd shift : ℕ) → IsSpelling odd shift → IsRepresentable (odd * 2 ^ shift)
representable_spelling odd shift s = representable_product odd shift s.few_bits s.in_range

pub number_on_grid : (v : Dy) → IsKept (units_of v)
number_on_grid v =
    let m = mantissa v.high v.low in
    subst IsRepresentable (sym (size_in_steps m v.shift)) (representable_product (nat_abs m) v.shift (let h = v.normal.few_bits in omega (arith, h)) v.normal.in_range)

-- n / d ≤ m / e gives the same order of their floors
pub floor_isotone : (n m : ℤ) (d e : ℕ) (r q : ℤ) → 0 < d → IsKept r → (n *ℤ pos e) ≤ℤ (m *ℤ pos d) → IsFloor n d r → IsFloor m e q → r ≤ℤ q
floor_isotone n m d e r q p g h f k =
    let raised = *ℤ-le_right (r *ℤ pos d) n e f.at_most in
    let turned : ((r *ℤ pos e) *ℤ pos d) ≤ℤ (m *ℤ pos d) = omega (arith, ints, raised, h, *ℤ_assoc r (pos d) (pos e), *ℤ_assoc r (pos e) (pos d)) in
    k.greatest r g (le_of_*ℤ-le_right (r *ℤ pos e) m d p turned)
