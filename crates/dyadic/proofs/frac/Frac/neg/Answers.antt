use Rattle.std.proofs.Common.{sym, ap, ◌∙◌, subst, pos, neg_ℤ, ◌-ℤ◌}
use Rattle.std.specs.Int.RustNames.{unsigned_abs}
use mir.Val.{to_z, of_z}
use mir.Syntax.{w128}
use Rattle.dyadic.specs.Fraction.{negated}
use Rattle.dyadic.specs.SmallSteps.{IsSmall}
use Rattle.dyadic.proofs.FracSteps.{n_passed, d_passed, small_passed, opposite_fraction, negated as minus_is, small_opposite}
use Rattle.dyadic.proofs.frac.Frac.neg.Goals as goal

pub invariant_of-result : goal.invariant_of-result
invariant_of-result c =
    let a = c.args.self in
    let n = ap (λ z. pos 0 -ℤ z) (n_passed a) ∙ minus_is a.n in
    record { lowest = opposite_fraction a.n a.d _ _ a.lowest (small_passed _ (subst IsSmall (sym n) (small_opposite a)) ∙ n) (d_passed a) }

pub returns : goal.returns
unfolding negated
returns c =
    let a = c.args.self in
    let n = ap (λ z. pos 0 -ℤ z) (n_passed a) ∙ minus_is a.n in
    ap (λ z. record { num = z; den = unsigned_abs (to_z w128 (of_z w128 a.d)) }) (small_passed _ (subst IsSmall (sym n) (small_opposite a)) ∙ n)
    ∙ ap (λ z. record { num = neg_ℤ a.n; den = unsigned_abs z }) (d_passed a)
