-- Rounding up by rounding the opposite down.
use Rattle.std.proofs.Common.{◌≡◌, ℕ, refl, sym, ap, subst, ℤ, pos, neg_ℤ, Bool, true, false, not}
use Rattle.std.proofs.Math.IntN.{neg_ℤ-neg_ℤ}
use Rattle.dyadic.specs.declared.dy.Ext.{Ext}
use Rattle.dyadic.specs.declared.dy.Ext.TheVariants.{NegInf, Fin, PosInf}
use Rattle.dyadic.specs.Signed.{signed_of, IsCeiling}
use Rattle.dyadic.specs.Views.{units_of, dyadic_of, ext_of}
use Rattle.dyadic.specs.Rounding.{Dyadic, Ext as KeptEnd, finite}
use Rattle.dyadic.specs.End.{negated_dyadic, negated_ext}
use Rattle.dyadic.specs.InUnits.{IsDownAt, IsUpAt, IsFlipped}
use Rattle.dyadic.proofs.Signs.{ceiling_from_floor, above_from_below}

pub signed_of-not : (b : Bool) (n : ℕ) → signed_of (not b) n ≡ neg_ℤ (signed_of b n)
signed_of-not true n = sym (neg_ℤ-neg_ℤ (pos n))
signed_of-not false n = refl

pub up_from_flipped : (n : ℤ) (d : ℕ) (r u : Ext) → IsDownAt (neg_ℤ n) d r → IsFlipped r u → IsUpAt n d u
up_from_flipped n d NegInf u f e = subst (IsUpAt n d) (sym e) (above_from_below n d f)
up_from_flipped n d (Fin r) NegInf f e = absurd e
up_from_flipped n d (Fin r) (Fin u) f e = subst (IsCeiling n d) (sym e) (ceiling_from_floor n d (units_of r) f)
up_from_flipped n d (Fin r) PosInf f e = absurd e
up_from_flipped n d PosInf u f e = absurd f

pub up_from_down : (b : Bool) (n d : ℕ) (r u : Ext) → IsDownAt (signed_of (not b) n) d r → IsFlipped r u → IsUpAt (signed_of b n) d u
up_from_down b n d r u f e = up_from_flipped (signed_of b n) d r u (subst (λ z. IsDownAt z d r) (signed_of-not b n) f) e

kept_units : (d e : Dyadic) → finite d ≡ finite e → d.units ≡ e.units
kept_units d e h = ap units_in h
  where
    units_in : KeptEnd → ℤ
    units_in (finite x) = x.units
    units_in _ = d.units

-- the opposite end, as the definitions say it
pub flipped_from : (r u : Ext) → ext_of u ≡ negated_ext (ext_of r) → IsFlipped r u
flipped_from NegInf NegInf e = cc
flipped_from NegInf (Fin u) e = cc
flipped_from NegInf PosInf e = refl
flipped_from (Fin r) NegInf e = cc
flipped_from (Fin r) (Fin u) e = kept_units (dyadic_of u) (negated_dyadic (dyadic_of r)) e
flipped_from (Fin r) PosInf e = cc
flipped_from PosInf NegInf e = refl
flipped_from PosInf (Fin u) e = cc
flipped_from PosInf PosInf e = cc

pub up_from_opposite : (b : Bool) (n d : ℕ) (r u : Ext) → IsDownAt (signed_of (not b) n) d r → ext_of u ≡ negated_ext (ext_of r) → IsUpAt (signed_of b n) d u
up_from_opposite b n d r u f e = up_from_down b n d r u f (flipped_from r u e)
