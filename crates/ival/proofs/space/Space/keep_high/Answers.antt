use Rattle.std.proofs.Common.{◌∙◌, ap, sym, subst, IsTrue, set}
use Rattle.interval_model.specs.Space.{Domain, holds_number, upper_part}
use Rattle.dyadic.specs.Views.{dyadic_of}
use Rattle.ival.specs.SpaceViews.{domain_of, space_of}
use Rattle.ival.proofs.Lists.{test_bound, test_at, changed_is}
use Rattle.ival.proofs.space.Space.keep_high.Goals as goal

pub get-domain-requires : goal.get-domain-requires
get-domain-requires c = test_bound (holds_number (dyadic_of c.args.cut)) c.args.axis (space_of c.args.self.now) c.requires

pub upper_part-requires : goal.upper_part-requires
upper_part-requires c = subst (λ (d : Domain). IsTrue ((holds_number (dyadic_of c.args.cut)) d)) (sym c.get-domain.ensures) (test_at (holds_number (dyadic_of c.args.cut)) c.args.axis (space_of c.args.self.now) (domain_of c.get-domain.result) c.requires)

pub set-requires : goal.set-requires
set-requires c = test_bound (holds_number (dyadic_of c.args.cut)) c.args.axis (space_of c.args.self.now) c.requires

pub returns-clause-axes : goal.returns-clause-axes
returns-clause-axes c =
    let d = domain_of c.get-domain.result in let space = space_of c.args.self.now in
    c.set.ensures.axes ∙ ap (set space c.args.axis) (c.upper_part.ensures ∙ ap (upper_part (dyadic_of c.args.cut)) c.get-domain.ensures) ∙ sym (changed_is (upper_part (dyadic_of c.args.cut)) c.args.axis space d)
