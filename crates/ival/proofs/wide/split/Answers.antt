use Rattle.std.proofs.Common.{◌≡◌, ℕ, ◌+◌, ◌-◌, ◌*◌, ◌^◌, ◌<◌, arith, ap, sym, subst}
use Rattle.std.proofs.Math.Nat.{div-le_self}
use Rattle.ival.proofs.Wides.{rest_fits, low_is, split_units}
use Rattle.ival.proofs.wide.split.Goals as goal

pub invariant_of-result : goal.invariant_of-result
invariant_of-result c =
    let x = c.from-odd.result in let s = c.args.size.shift in let b : ℕ = 120 - s in
    let few : x < 2 ^ 64 = omega (arith, c.from-odd.ensures, c.args.size.spelled.few_bits) in
    let e : (120 - s) + s ≡ 120 = omega (arith, c.requires) in record {
      few = subst (λ (n : ℕ). n < 2 ^ 120) (sym (low_is x (120 - s) s few e)) (rest_fits x (120 - s) s e);
      small = omega (arith, div-le_self x (2 ^ (120 - s)), few);
    }

pub returns : goal.returns
returns c =
    let x = c.from-odd.result in let s = c.args.size.shift in
    let few : x < 2 ^ 64 = omega (arith, c.from-odd.ensures, c.args.size.spelled.few_bits) in
    let e : (120 - s) + s ≡ 120 = omega (arith, c.requires) in
    omega (arith, low_is x (120 - s) s few e, split_units x (120 - s) s e, ap (λ (n : ℕ). n * 2 ^ s) c.from-odd.ensures)
