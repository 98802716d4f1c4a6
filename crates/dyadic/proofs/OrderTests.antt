-- An order told by the two tests.
use Rattle.std.proofs.Common.{◌≡◌, ℕ, ◌<◌, ◌^◌, refl, sym, ap, ◌∙◌, arith, Bool, true, false, not, IsTrue, true≢false, ◌↔◌, nat_abs, ℤ, pos, ◌*ℤ◌, ◌≤ℤ◌, ◌<ℤ◌}
use Rattle.std.specs.Ordering.{int_cmp, is_le}
use Rattle.std.specs.Cmp.{int_cmp_is}
use Rattle.std.specs.declared.cmp.Ordering.{Ordering}
use Rattle.std.specs.declared.cmp.Ordering.TheVariants.{Less, Equal, Greater}
use Rattle.std.proofs.lemmas.Int.{ints, by_lt_z}
use lib.Signed.{le_z}
use Rattle.dyadic.specs.Fraction.{at_most}
use Rattle.dyadic.specs.Rounding.{Dyadic, exact}
use Rattle.dyadic.specs.Calls.{order_of}
use Rattle.dyadic.specs.declared.frac.Frac.{Frac}
use Rattle.std.specs.Int.RustNames.{unsigned_abs}
use Rattle.dyadic.specs.Views.{fraction_of_frac}
use Rattle.dyadic.proofs.Ints.{*ℤ-le_right, *ℤ-lt_right}
use Rattle.dyadic.proofs.FracSteps.{whole_size}

pub le_test : (a b : ℤ) → a ≤ℤ b → le_z a b ≡ true
le_test a b h = grind (arith, ints, h)

pub lt_test : (a b : ℤ) → b <ℤ a → le_z a b ≡ false
lt_test a b h = grind (arith, ints, h)

-- the order of two whole numbers
pub order_of_ints : (x y : ℤ) → int_cmp x y ≡ order_of (le_z x y) (le_z y x)
order_of_ints x y =
    by_lt_z x y
    (λ less. sym (int_cmp_is x y Less less) ∙ by (le_z x y) (le_z y x) Less (le_test x y (omega (arith, ints, less))) (lt_test y x less) refl)
    (λ le. by_lt_z y x
    (λ more. sym (int_cmp_is x y Greater more) ∙ by (le_z x y) (le_z y x) Greater (lt_test x y more) (le_test y x le) refl)
    (λ ge. sym (int_cmp_is x y Equal (omega (arith, ints, le, ge))) ∙ by (le_z x y) (le_z y x) Equal (le_test x y ge) (le_test y x le) refl))
  where
    by : (b c : Bool) {b' c' : Bool} (r : Ordering) → b ≡ b' → c ≡ c' → r ≡ order_of b' c' → r ≡ order_of b c
    by b c {b'} {c'} r e f g = g ∙ ap (λ z. order_of z c') (sym e) ∙ ap (λ z. order_of b z) (sym f)

scaled_test : (x y : ℤ) → le_z (x *ℤ pos (2 ^ 120)) (y *ℤ pos (2 ^ 120)) ≡ le_z x y
scaled_test x y =
    by_lt_z y x
    (λ less. lt_test (x *ℤ pos (2 ^ 120)) (y *ℤ pos (2 ^ 120)) (omega (arith, ints, less)) ∙ sym (lt_test x y less))
    (λ le. le_test (x *ℤ pos (2 ^ 120)) (y *ℤ pos (2 ^ 120)) (omega (arith, ints, le)) ∙ sym (le_test x y le))

-- the order of two numbers by a test of their units
pub test_of_units : (x y : Dyadic) (b : Bool) → b ≡ le_z x.units y.units → b ≡ at_most (exact x) (exact y)
unfolding at_most
test_of_units x y b e = e ∙ sym (scaled_test x.units y.units)

-- numbers of the same steps
pub same_steps_test : (m n : ℤ) (k : ℕ) → 0 < k → le_z m n ≡ le_z (m *ℤ pos k) (n *ℤ pos k)
same_steps_test m n k p =
    by_lt_z n m
    (λ less. lt_test m n less ∙ sym (lt_test (m *ℤ pos k) (n *ℤ pos k) (*ℤ-lt_right n m k p less)))
    (λ le. le_test m n le ∙ sym (le_test (m *ℤ pos k) (n *ℤ pos k) (*ℤ-le_right m n k le)))

-- numbers of different steps: the sign of the one that has the greater size tells
pub greater_test : (x y : ℤ) (b : Bool) → nat_abs x < nat_abs y → IsTrue b ↔ (y <ℤ pos 0) → not b ≡ le_z x y
greater_test x y true h e = let k = e.0 refl in sym (lt_test x y (omega (arith, ints, h, k)))
greater_test x y false h e = by_lt_z y (pos 0)
    (λ less. absurd (true≢false (sym (e.1 less))))
    (λ le. sym (le_test x y (omega (arith, ints, h, le))))

pub lesser_test : (x y : ℤ) (b : Bool) → nat_abs y < nat_abs x → IsTrue b ↔ (x <ℤ pos 0) → b ≡ le_z x y
lesser_test x y true h e = let k = e.0 refl in sym (le_test x y (omega (arith, ints, h, k)))
lesser_test x y false h e = by_lt_z x (pos 0)
    (λ less. absurd (true≢false (sym (e.1 less))))
    (λ le. sym (lt_test x y (omega (arith, ints, h, le))))

pub is_le_order : (x y : Bool) → is_le (order_of x y) ≡ x
is_le_order true true = refl
is_le_order true false = refl
is_le_order false y = refl

pub order_of_fractions : (a b : Frac) → int_cmp (a.n *ℤ b.d) (b.n *ℤ a.d) ≡ order_of (at_most (fraction_of_frac a) (fraction_of_frac b)) (at_most (fraction_of_frac b) (fraction_of_frac a))
unfolding at_most
order_of_fractions a b =
    let left = ap (λ z. a.n *ℤ z) (sym (whole_size b.d b.lowest.positive)) in
    let right = ap (λ z. b.n *ℤ z) (sym (whole_size a.d a.lowest.positive)) in
    ap (λ z. int_cmp z (b.n *ℤ a.d)) left ∙ ap (λ z. int_cmp (a.n *ℤ pos (unsigned_abs b.d)) z) right ∙ order_of_ints (a.n *ℤ pos (unsigned_abs b.d)) (b.n *ℤ pos (unsigned_abs a.d))
