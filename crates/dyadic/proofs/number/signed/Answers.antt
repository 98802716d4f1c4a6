use Rattle.std.proofs.Common.{◌≡◌, ◌*◌, ◌%◌, ◌-◌, ◌^◌, ◌∙◌, ◌*ℤ◌, pos, arith, sym, subst, ap}
use Rattle.std.proofs.Math.Nat.{mod-eq_of_lt}
use Rattle.std.specs.Int.{w64}
use Rattle.std.proofs.lemmas.Int.{to_z-of_z}
use Rattle.dyadic.specs.Mantissa.{IsNormal}
use Rattle.dyadic.specs.Signed.{signed_of}
use Rattle.dyadic.proofs.Mantissas.{raised_normal, raised_value}
use Rattle.dyadic.proofs.number.signed.Goals as goal

pub number-requires : goal.number-requires
number-requires c =
    let a = c.args.size in
    let up = c.spare_bits-up.result in
    let few = c.spare_bits-up.ensures.few in
    let moved : a.odd * 2 ^ up % 2 ^ 64 ≡ a.odd * 2 ^ up = mod-eq_of_lt (omega (arith, few)) in
    let e = to_z-of_z w64 c.with_sign.result (record { sfits = c.with_sign.type_inv }) ∙ c.with_sign.ensures ∙ ap (signed_of c.args.negative) moved in
    subst (λ z. IsNormal z (a.shift - up)) (sym e)
    (raised_normal c.args.negative a.odd a.shift up c.spare_bits-up.ensures.within few c.spare_bits-up.ensures.many a.spelled.in_range)

pub returns : goal.returns
returns c =
    let a = c.args.size in
    let up = c.spare_bits-up.result in
    let few = c.spare_bits-up.ensures.few in
    let moved : a.odd * 2 ^ up % 2 ^ 64 ≡ a.odd * 2 ^ up = mod-eq_of_lt (omega (arith, few)) in
    let e = to_z-of_z w64 c.with_sign.result (record { sfits = c.with_sign.type_inv }) ∙ c.with_sign.ensures ∙ ap (signed_of c.args.negative) moved in
    c.number.ensures ∙ ap (λ z. z *ℤ pos (2 ^ (a.shift - up))) e ∙ raised_value c.args.negative a.odd a.shift up c.spare_bits-up.ensures.within
