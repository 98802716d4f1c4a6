use Rattle.std.proofs.Common.{◌∙◌}
use Rattle.dyadic.proofs.Reduced.{passed, reduced_parts}
use Rattle.dyadic.proofs.frac_steps.from_sizes.Goals as goal

pub invariant_of-result : goal.invariant_of-result
invariant_of-result c = record {
  lowest = (reduced_parts c.args.negative c.args.n c.args.d c.gcd-divisor.result _ _ c.requires.positive c.requires.few_digits c.requires.few_digits_below c.gcd-divisor.ensures
      (passed c.with_sign.result c.with_sign.type_inv ∙ c.with_sign.ensures) (passed c.with_sign-2.result c.with_sign-2.type_inv ∙ c.with_sign-2.ensures)).0;
}

pub returns : goal.returns
returns c =
    (reduced_parts c.args.negative c.args.n c.args.d c.gcd-divisor.result _ _ c.requires.positive c.requires.few_digits c.requires.few_digits_below c.gcd-divisor.ensures
    (passed c.with_sign.result c.with_sign.type_inv ∙ c.with_sign.ensures) (passed c.with_sign-2.result c.with_sign-2.type_inv ∙ c.with_sign-2.ensures)).1
