use Rattle.std.proofs.Common.{sym, ap, ◌∙◌, subst, ◌<◌, rules}
use Rattle.std.specs.Int.RustNames.{unsigned_abs}
use Rattle.dyadic.specs.Lowest.{reduced}
use Rattle.dyadic.specs.SmallSteps.{IsSmall}
use Rattle.dyadic.proofs.FracSteps.{n_passed, d_passed, small_passed}
use Rattle.dyadic.proofs.FracFits.{quotient_fits_yes, quotient_is, divisor_positive}
use Rattle.dyadic.proofs.frac.Frac.div.Goals as goal

pub from_sizes-requires-clause-positive : goal.from_sizes-requires-clause-positive
from_sizes-requires-clause-positive c =
    let d = simp (n_passed, d_passed) at c.in_ok-below.ensures in
    let below = small_passed c.in_ok-below.below (subst IsSmall (sym d.0) d.1) in
    subst (λ n. 0 < n) (sym (c.unsigned_abs-2.ensures.value ∙ ap unsigned_abs (below ∙ d.0))) (divisor_positive c.args.self c.args.other c.requires)

pub returns : goal.returns
returns c =
    let a = c.args.self in
    let b = c.args.other in
    let d = simp (n_passed, d_passed) at c.in_ok-below.ensures in
    let e = simp (n_passed, d_passed) at c.in_ok-above.ensures in
    let below = small_passed c.in_ok-below.below (subst IsSmall (sym d.0) d.1) in
    let above = small_passed c.in_ok-above.above (subst IsSmall (sym e.0) e.1) in (
      quotient_fits_yes a b (record { above = e.1; below = d.1 }),
      c.from_sizes.ensures ∙ ap reduced (quotient_is a b _ _ c.unsigned_abs.result c.unsigned_abs-2.result c.requires (above ∙ e.0) (below ∙ d.0) c.unsigned_abs.ensures.value c.unsigned_abs-2.ensures.value),
    )

pub returns-in_err-above : goal.returns-in_err-above
returns-in_err-above c = search rules

pub returns-in_err-below : goal.returns-in_err-below
returns-in_err-below c = search rules
