use Rattle.std.proofs.Common.{ap, sym, ◌∙◌, pos}
use lib.Signed.{lt_z}
use Rattle.dyadic.specs.Views.{fraction_of_frac}
use Rattle.dyadic.proofs.FracSteps.{n_passed}
use Rattle.declared_box.proofs.Widths.{size_below, below_from_test}
use Rattle.declared_box.proofs.kept.size.Goals as goal

pub returns-then-value-lt0 : goal.returns-then-value-lt0
returns-then-value-lt0 c = size_below (fraction_of_frac c.args.value) (fraction_of_frac c.neg.result) c.neg.ensures
    (below_from_test c.args.value.n (ap (λ z. lt_z z (pos 0)) (sym (n_passed c.args.value)) ∙ c.if-value-lt0.true))
