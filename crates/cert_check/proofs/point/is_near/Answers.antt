use Rattle.std.proofs.Common.{ap₂, sym, ◌∙◌, arith}
use Rattle.dyadic.specs.Rounding.{exact}
use Rattle.dyadic.specs.Views.{dyadic_of, fraction_of_frac}
use Rattle.dyadic.proofs.SizePositive.{size_positive}
use Rattle.cover_model.specs.State.{delta_of}
use Rattle.poly_graph.specs.ProblemViews.{declared_of}
use Rattle.ival.specs.SpaceViews.{domain_of}
use Rattle.cert_model.specs.Due.{is_near, coordinate_of}
use Rattle.cert_check.specs.States.{loosenings_of}
use Rattle.cert_check.proofs.Near.{near_same}
use Rattle.cert_check.proofs.point.is_near.Goals as goal

pub returns-in-Real-domain : goal.returns-in-Real-domain
returns-in-Real-domain c =
    let low = c.in-Real.low in let high = c.in-Real.high in
    c.near.ensures
    ∙ near_same (dyadic_of c.in-Real-domain.range.low) c.args.s.delta (fraction_of_frac low) (fraction_of_frac high) (omega (arith, c.args.s.fine, c.args.s.few)) (size_positive low.d low.lowest.positive) (size_positive high.d high.lowest.positive)
    ∙ sym (ap₂ (λ a d. is_near (exact (delta_of (loosenings_of c.args.s))) (declared_of a) (coordinate_of (domain_of d))) c.in-Real.is c.in-Real-domain.is)
