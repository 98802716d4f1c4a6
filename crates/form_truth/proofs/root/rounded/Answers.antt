use Rattle.std.proofs.Common.{◌∙◌, ap, sym}
use Rattle.dyadic.specs.Views.{dyadic_of, ext_of, fraction_of_frac}
use Rattle.form_truth.proofs.Roots.{upright_range}
use Rattle.form_truth.proofs.root.rounded.Goals as goal

pub invariant_of-result : goal.invariant_of-result
invariant_of-result c = record { upright = upright_range (fraction_of_frac c.args.low) (fraction_of_frac c.args.high) c.requires.bounds.0 c.requires.bounds.1 c.requires.upright (dyadic_of c.in-Fin-Fin.low) (dyadic_of c.in-Fin-Fin.high) (sym c.down_frac.ensures ∙ ap ext_of c.in-Fin-Fin.is-0) (sym c.up_frac.ensures ∙ ap ext_of c.in-Fin-Fin.is-1) }
