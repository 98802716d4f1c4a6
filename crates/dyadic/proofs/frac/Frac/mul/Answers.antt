use Rattle.std.proofs.Common.{sym, ap, ◌∙◌, subst, pos, ◌<ℤ◌, rules}
use Rattle.dyadic.specs.Lowest.{reduced}
use Rattle.dyadic.specs.SmallSteps.{IsSmall}
use Rattle.dyadic.proofs.FracSteps.{n_passed, d_passed, small_passed, positive_product}
use Rattle.dyadic.proofs.FracFits.{product_fits_yes, product_is}
use Rattle.dyadic.proofs.frac.Frac.mul.Goals as goal

pub new-requires-clause-positive : goal.new-requires-clause-positive
new-requires-clause-positive c =
    let d = simp (n_passed, d_passed) at c.in_ok-below.ensures in
    let same = small_passed c.in_ok-below.below (subst IsSmall (sym d.0) d.1) in
    subst (λ z. pos 0 <ℤ z) (sym (same ∙ d.0)) (positive_product _ _ c.args.self.lowest.positive c.args.other.lowest.positive)

pub returns : goal.returns
returns c =
    let a = c.args.self in
    let b = c.args.other in
    let d = simp (n_passed, d_passed) at c.in_ok-below.ensures in
    let e = simp (n_passed, d_passed) at c.in_ok-above.ensures in
    let below = small_passed c.in_ok-below.below (subst IsSmall (sym d.0) d.1) in
    let above = small_passed c.in_ok-above.above (subst IsSmall (sym e.0) e.1) in
    (product_fits_yes a b (record { above = e.1; below = d.1 }), c.new.ensures ∙ ap reduced (product_is a b _ _ (above ∙ e.0) (below ∙ d.0)))

pub returns-in_err-above : goal.returns-in_err-above
returns-in_err-above c = search rules

pub returns-in_err-below : goal.returns-in_err-below
returns-in_err-below c = search rules
