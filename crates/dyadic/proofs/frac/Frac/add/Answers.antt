use Rattle.std.proofs.Common.{sym, ap, ◌∙◌, subst, pos, ◌<ℤ◌, rules}
use Rattle.std.proofs.lemmas.Result.{err_from_is_err_and}
use Rattle.dyadic.specs.Lowest.{reduced}
use Rattle.dyadic.specs.SmallSteps.{IsSmall}
use Rattle.dyadic.proofs.FracSteps.{n_passed, d_passed, small_passed, positive_product}
use Rattle.dyadic.proofs.FracFits.{sum_fits_yes, sum_fits_total, sum_fits_below, sum_is}
use Rattle.dyadic.proofs.frac.Frac.add.Goals as goal

pub returns-in_err-total : goal.returns-in_err-total
returns-in_err-total c =
    let p = err_from_is_err_and c.from_residual-in_err-total.result c.from_residual-in_err-total.ensures.1 in
    let l = simp (n_passed, d_passed) at c.in_ok-left.ensures in
    let r = simp (n_passed, d_passed) at c.in_ok-right.ensures in
    let left = small_passed c.in_ok-left.left (subst IsSmall (sym l.0) l.1) ∙ l.0 in
    let right = small_passed c.in_ok-right.right (subst IsSmall (sym r.0) r.1) ∙ r.0 in
    let no = rw (left, right) at c.in_err-total.ensures in
    rw p.1 (sum_fits_total c.args.self c.args.other no)

pub returns-in_err-below : goal.returns-in_err-below
returns-in_err-below c =
    let p = err_from_is_err_and c.from_residual-in_err-below.result c.from_residual-in_err-below.ensures.1 in
    let no = simp (n_passed, d_passed) at c.in_err-below.ensures in
    rw p.1 (sum_fits_below c.args.self c.args.other no)

pub new-requires-clause-positive : goal.new-requires-clause-positive
new-requires-clause-positive c =
    let d = simp (n_passed, d_passed) at c.in_ok-below.ensures in
    let same = small_passed c.in_ok-below.below (subst IsSmall (sym d.0) d.1) in
    subst (λ z. pos 0 <ℤ z) (sym (same ∙ d.0)) (positive_product _ _ c.args.self.lowest.positive c.args.other.lowest.positive)

pub returns : goal.returns
returns c =
    let a = c.args.self in
    let b = c.args.other in
    let l = simp (n_passed, d_passed) at c.in_ok-left.ensures in
    let r = simp (n_passed, d_passed) at c.in_ok-right.ensures in
    let left = small_passed c.in_ok-left.left (subst IsSmall (sym l.0) l.1) ∙ l.0 in
    let right = small_passed c.in_ok-right.right (subst IsSmall (sym r.0) r.1) ∙ r.0 in
    let d = simp (n_passed, d_passed) at c.in_ok-below.ensures in
    let e = rw (left, right) at c.in_ok-total.ensures in
    let below = small_passed c.in_ok-below.below (subst IsSmall (sym d.0) d.1) in
    let total = small_passed c.in_ok-total.total (subst IsSmall (sym e.0) e.1) in
    (sum_fits_yes a b (record { left = l.1; right = r.1; total = e.1; below = d.1 }), c.new.ensures ∙ ap reduced (sum_is a b _ _ (total ∙ e.0) (below ∙ d.0)))

pub returns-in_err-left : goal.returns-in_err-left
returns-in_err-left c = search rules

pub returns-in_err-right : goal.returns-in_err-right
returns-in_err-right c = search rules
