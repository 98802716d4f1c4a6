-- What upper layers use of the code's numbers and ends.
use Rattle.dyadic.specs.Mantissa.{IsNormal, mantissa}
use Rattle.dyadic.specs.Views.{units_of, dyadic_of, ext_of}
use Rattle.dyadic.proofs.Unique.{same_normal, IsNormal_prop}
use Rattle.std.proofs.Common.{◌≡◌, ℕ, ℤ, ◌^◌, ◌<◌, ◌∙◌, arith, refl, ap, subst}
use Rattle.std.proofs.Math.Bridge.{le_prop}
use Rattle.std.proofs.lemmas.Int.{ints}
use Rattle.dyadic.specs.declared.dy.Dy.{Dy}
use Rattle.dyadic.specs.declared.dy.Ext.{Ext}
use Rattle.dyadic.specs.declared.dy.Ext.TheVariants.{NegInf, Fin, PosInf}
use Rattle.dyadic.specs.Rounding.{Ext as KeptEnd, below_all, finite, above_all, IsOnGrid}
use Rattle.dyadic.specs.Calls.{AreAddable}
use Rattle.dyadic.proofs.Floors.{number_on_grid}
use Rattle.dyadic.proofs.Rounds.{IsExtOnGrid}

-- every number lies on the grid, and so does every end
pub dyadic_on_grid : (a : Dy) → IsOnGrid (dyadic_of a)
dyadic_on_grid a = number_on_grid a

pub ext_on_grid : (e : Ext) → IsExtOnGrid (ext_of e)
ext_on_grid NegInf = tt
ext_on_grid (Fin a) = number_on_grid a
ext_on_grid PosInf = tt

-- lower ends may be added, and so may upper ones
pub lower_addable : (e f : KeptEnd) → (e ≡ above_all → ⊥) → (f ≡ above_all → ⊥) → AreAddable e f
lower_addable below_all below_all h k = tt
lower_addable below_all (finite d) h k = tt
lower_addable below_all above_all h k = absurd (k refl)
lower_addable (finite d) f h k = tt
lower_addable above_all f h k = absurd (h refl)

pub upper_addable : (e f : KeptEnd) → (e ≡ below_all → ⊥) → (f ≡ below_all → ⊥) → AreAddable e f
upper_addable above_all above_all h k = tt
upper_addable above_all (finite d) h k = tt
upper_addable above_all below_all h k = absurd (k refl)
upper_addable (finite d) f h k = tt
upper_addable below_all f h k = absurd (h refl)

-- ---- numbers that stand for one are one

same_halves : (h h' : ℤ) (l l' : ℕ) → l < 2 ^ 32 → l' < 2 ^ 32 → mantissa h l ≡ mantissa h' l' → (h ≡ h') × (l ≡ l')
same_halves h h' l l' few few' e = (let p : h ≡ h' = omega (arith, ints, few, few', e) in p, let q : l ≡ l' = omega (arith, ints, few, few', e) in q)

low_prop : (x : ℕ) → IsProp (x < 2 ^ 32)
low_prop x = hlevel (le_prop)

dy_of : (l : ℕ) (h : ℤ) (k : ℕ) → IsNormal (mantissa h l) k → l < 2 ^ 32 → Dy
dy_of l h k w o = record { low = l; high = h; shift = k; normal = w; one_low = o }

-- what a number holds beside its fields is of no account
same_fields : (l : ℕ) (h : ℤ) (k : ℕ) (w w' : IsNormal (mantissa h l) k) (o o' : l < 2 ^ 32) → dy_of l h k w o ≡ dy_of l h k w' o'
same_fields l h k w w' o o' = ap (λ x. dy_of l h k x o) (IsNormal_prop (mantissa h l) k w w') ∙ ap (λ x. dy_of l h k w' x) (low_prop l o o')

same_dy : (l : ℕ) (h : ℤ) (k : ℕ) (w : IsNormal (mantissa h l) k) (o : l < 2 ^ 32) (l' : ℕ) (h' : ℤ) (k' : ℕ) (w' : IsNormal (mantissa h' l') k') (o' : l' < 2 ^ 32) →
    l ≡ l' → h ≡ h' → k ≡ k' → dy_of l h k w o ≡ dy_of l' h' k' w' o'
same_dy l h k w o l' h' k' w' o' el eh ek =
    subst (λ x. (w' : IsNormal (mantissa h' x) k') (o' : x < 2 ^ 32) → dy_of l h k w o ≡ dy_of x h' k' w' o') el
    (subst (λ x. (w' : IsNormal (mantissa x l) k') (o' : l < 2 ^ 32) → dy_of l h k w o ≡ dy_of l x k' w' o') eh
    (subst (λ x. (w' : IsNormal (mantissa h l) x) (o' : l < 2 ^ 32) → dy_of l h k w o ≡ dy_of l h x w' o') ek
    (λ w' o'. same_fields l h k w w' o o')))
    w' o'

pub dyadic_injective : (a b : Dy) → units_of a ≡ units_of b → a ≡ b
unfolding dy_of
dyadic_injective a b e =
    let p = same_normal (mantissa a.high a.low) (mantissa b.high b.low) a.shift b.shift a.normal b.normal e in
    let q = same_halves a.high b.high a.low b.low a.one_low b.one_low p.0 in
    same_dy a.low a.high a.shift a.normal a.one_low b.low b.high b.shift b.normal b.one_low q.1 q.0 p.1
