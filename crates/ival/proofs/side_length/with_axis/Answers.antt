use Rattle.std.proofs.Common.{◌≡◌, sym, subst, ◌∙◌, ap}
use Rattle.ival.specs.declared.domain.Domain.{Domain}
use Rattle.interval_model.specs.Space.{better, side}
use Rattle.dyadic.specs.Views.{dyadic_of}
use Rattle.ival.specs.SpaceViews.{domain_of}
use Rattle.ival.specs.WideViews.{wide_value}
use Rattle.ival.specs.BestViews.{best_of}
use Rattle.ival.proofs.Wides.{side_of_real}
use Rattle.ival.proofs.side_length.with_axis.Goals as goal

pub returns-then-can_be_halved : goal.returns-then-can_be_halved
returns-then-can_be_halved c =
    let r = c.in-Real.range in
    subst (λ (d : Domain). best_of c.better.result ≡ better (best_of c.args.best) c.args.axis (side (domain_of d))) (sym c.in-Real.is)
    (c.better.ensures ∙ ap (better (best_of c.args.best) c.args.axis) (side_of_real (dyadic_of r.low) (dyadic_of r.high) (wide_value c.length_of.result) (sym c.can_be_halved.ensures ∙ c.if-can_be_halved.true) c.length_of.ensures))
