-- What the rounded steps of a sum and of a product are, as the definitions say it.
use Rattle.std.proofs.Common.{◌≡◌, ℕ, ◌^◌, ◌<◌, arith, ap₂, ◌∙◌, subst, lit<, ℤ, pos, neg_ℤ, ◌+ℤ◌, ◌*ℤ◌}
use Rattle.std.proofs.lemmas.Int.{ints}
use Rattle.dyadic.specs.declared.dy.Ext.{Ext}
use Rattle.dyadic.specs.Fraction.{sum_of, product_of}
use Rattle.dyadic.specs.Rounding.{Dyadic, exact, down, up}
use Rattle.dyadic.specs.End.{negated_ext}
use Rattle.dyadic.specs.InUnits.{IsDownAt}
use Rattle.dyadic.specs.Mantissa.{IsWithinStep}
use Rattle.dyadic.specs.Views.{ext_of}
use Rattle.dyadic.proofs.Bridge.{down_over, up_over, sum_over, product_over}
use Rattle.dyadic.proofs.Flips.{up_from_flipped, flipped_from}
use Rattle.dyadic.proofs.Ints.{neg-*ℤ}
use Rattle.dyadic.proofs.WithinSteps.{floor_within, down_of_floor}

-- rounded steps are the exact result rounded
pub rounded_steps : (n : ℤ) (d : ℕ) (t : ℤ) (s : ℕ) (r : Ext) → 0 < d → IsWithinStep n d t s → IsDownAt (t *ℤ pos (2 ^ s)) 1 r → IsDownAt n d r
rounded_steps n d t s r p w k = down_of_floor n d (t *ℤ pos (2 ^ s)) r (floor_within n d t s p w) k

pub sum_down : (a b : Dyadic) (x y t : ℤ) (s : ℕ) (r : Ext) → x ≡ a.units → y ≡ b.units → IsWithinStep (x +ℤ y) 1 t s → IsDownAt (t *ℤ pos (2 ^ s)) 1 r → ext_of r ≡ down (sum_of (exact a) (exact b))
sum_down a b x y t s r e f w k = down_over (sum_of (exact a) (exact b)) (a.units +ℤ b.units) 1 (2 ^ 240) r (sum_over a b)
    (subst (λ z. IsDownAt z 1 r) (ap₂ (λ (p : ℤ) (q : ℤ). p +ℤ q) e f) (rounded_steps (x +ℤ y) 1 t s r (lit< tt) w k))

pub sum_up : (a b : Dyadic) (x y t : ℤ) (s : ℕ) (r u : Ext) → x ≡ neg_ℤ a.units → y ≡ neg_ℤ b.units → IsWithinStep (x +ℤ y) 1 t s → IsDownAt (t *ℤ pos (2 ^ s)) 1 r → ext_of u ≡ negated_ext (ext_of r)
    → ext_of u ≡ up (sum_of (exact a) (exact b))
sum_up a b x y t s r u e f w k o = up_over (sum_of (exact a) (exact b)) (a.units +ℤ b.units) 1 (2 ^ 240) u (sum_over a b)
    (up_from_flipped (a.units +ℤ b.units) 1 r u
    (subst (λ z. IsDownAt z 1 r) (opposite x y a.units b.units e f) (rounded_steps (x +ℤ y) 1 t s r (lit< tt) w k)) (flipped_from r u o))
  where
    opposite : (x y p q : ℤ) → x ≡ neg_ℤ p → y ≡ neg_ℤ q → x +ℤ y ≡ neg_ℤ (p +ℤ q)
    opposite x y p q e f = omega (arith, ints, e, f)

pub product_down : (a b : Dyadic) (x y t : ℤ) (s : ℕ) (r : Ext) → x ≡ a.units → y ≡ b.units → IsWithinStep (x *ℤ y) (2 ^ 120) t s → IsDownAt (t *ℤ pos (2 ^ s)) 1 r → ext_of r ≡ down (product_of (exact a) (exact b))
product_down a b x y t s r e f w k = down_over (product_of (exact a) (exact b)) (a.units *ℤ b.units) (2 ^ 120) (2 ^ 120) r (product_over a b)
    (subst (λ z. IsDownAt z (2 ^ 120) r) (ap₂ (λ (p : ℤ) (q : ℤ). p *ℤ q) e f) (rounded_steps (x *ℤ y) (2 ^ 120) t s r (lit< tt) w k))

pub product_up : (a b : Dyadic) (x y t : ℤ) (s : ℕ) (r u : Ext) → x ≡ neg_ℤ a.units → y ≡ b.units → IsWithinStep (x *ℤ y) (2 ^ 120) t s → IsDownAt (t *ℤ pos (2 ^ s)) 1 r → ext_of u ≡ negated_ext (ext_of r)
    → ext_of u ≡ up (product_of (exact a) (exact b))
product_up a b x y t s r u e f w k o = up_over (product_of (exact a) (exact b)) (a.units *ℤ b.units) (2 ^ 120) (2 ^ 120) u (product_over a b)
    (up_from_flipped (a.units *ℤ b.units) (2 ^ 120) r u
    (subst (λ z. IsDownAt z (2 ^ 120) r) (ap₂ (λ (p : ℤ) (q : ℤ). p *ℤ q) e f ∙ neg-*ℤ a.units b.units) (rounded_steps (x *ℤ y) (2 ^ 120) t s r (lit< tt) w k)) (flipped_from r u o))
