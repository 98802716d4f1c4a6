-- The root of a number of the code.
use Rattle.std.proofs.Common.{◌≡◌, ℕ, arith, refl, sym, ap, ◌∙◌, subst, Bool, true, false, pos, ◌≤ℤ◌}
use Rattle.std.proofs.lemmas.Int.{ints}
use Rattle.dyadic.specs.declared.dy.Dy.{Dy}
use Rattle.dyadic.specs.declared.dy.Ext.{Ext}
use Rattle.dyadic.specs.declared.dy.Ext.TheVariants.{Fin}
use Rattle.dyadic.specs.declared.parts.Parts.{Parts}
use Rattle.dyadic.specs.declared.size.Size.{Size}
use Rattle.dyadic.specs.Rounding.{Dyadic, Ext as KeptEnd, finite, not_negative}
use Rattle.dyadic.specs.Size.{units}
use Rattle.dyadic.specs.Signed.{signed_of}
use Rattle.dyadic.specs.Views.{units_of, parts_units, dyadic_of, ext_of}
use Rattle.dyadic.specs.Calls.{HasRoot, root_ext}

plain : (b : Bool) (x : ℕ) → pos 0 ≤ℤ signed_of b x → signed_of b x ≡ pos x
plain true x h = omega (arith, ints, h)
plain false x h = refl

size_is : (a : Dy) (p : Parts) (e : Ext) → e ≡ Fin a → HasRoot (ext_of e) → parts_units p ≡ units_of a → not_negative (units_of a) ≡ units p.size
size_is a p e same h value = ap not_negative (sym value) ∙ ap not_negative (plain p.negative (units p.size) (subst (λ z. pos 0 ≤ℤ z) (sym value) (subst (λ x. HasRoot (ext_of x)) same h)))

-- from a root of the size to the root of the number
pub root_of_size : (f : ℕ → ℕ) (root : Dyadic → KeptEnd) → ((d : Dyadic) → root d ≡ finite (record { units = pos (f (not_negative d.units)) })) →
    (a : Dy) (p : Parts) (e : Ext) (r : Dy) (s : Size) → e ≡ Fin a → HasRoot (ext_of e) → parts_units p ≡ units_of a → dyadic_of r ≡ record { units = pos (units s) } → units s ≡ f (units p.size) →
    finite (dyadic_of r) ≡ root_ext root (ext_of e)
root_of_size f root is a p e r s same h value view size =
    ap finite view ∙ ap (λ n. finite (record { units = pos n })) (size ∙ ap f (sym (size_is a p e same h value)))
    ∙ sym (is (dyadic_of a)) ∙ ap (λ x. root_ext root (ext_of x)) (sym same)
