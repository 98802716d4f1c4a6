-- The sign of a product, and of an infinity.
use Rattle.std.proofs.Common.{◌≡◌, ℕ, ◌*◌, sym, ap, ◌∙◌, pos, neg_ℤ, ◌*ℤ◌, Bool, true, false, not}
use Rattle.std.proofs.Math.IntN.{neg_ℤ-neg_ℤ, pos-*ℤ-pos}
use mathlib.Core.Bool.{beq}
use Rattle.dyadic.proofs.Ints.{neg-*ℤ, *ℤ-neg}
use Rattle.dyadic.specs.Signed.{signed_of}

pub signed_times : (a b : Bool) (x y : ℕ) → signed_of (not (beq a b)) (x * y) ≡ signed_of a x *ℤ signed_of b y
signed_times true true x y = sym (neg-*ℤ (pos x) (neg_ℤ (pos y)) ∙ ap neg_ℤ (*ℤ-neg (pos x) (pos y)) ∙ neg_ℤ-neg_ℤ (pos x *ℤ pos y) ∙ pos-*ℤ-pos x y)
signed_times true false x y = sym (neg-*ℤ (pos x) (pos y) ∙ ap neg_ℤ (pos-*ℤ-pos x y))
signed_times false true x y = sym (*ℤ-neg (pos x) (pos y) ∙ ap neg_ℤ (pos-*ℤ-pos x y))
signed_times false false x y = sym (pos-*ℤ-pos x y)

pub signed_by : (a : Bool) (x k : ℕ) → signed_of a (x * k) ≡ signed_of a x *ℤ pos k
signed_by true x k = sym (neg-*ℤ (pos x) (pos k) ∙ ap neg_ℤ (pos-*ℤ-pos x k))
signed_by false x k = sym (pos-*ℤ-pos x k)
