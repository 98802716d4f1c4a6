use Rattle.std.proofs.Common.{◌∙◌, ap, sym, subst, IsTrue, set}
use Rattle.interval_model.specs.Space.{Domain, allows, keep}
use Rattle.ival.specs.SpaceViews.{domain_of, space_of}
use Rattle.ival.proofs.Lists.{test_bound, test_at, changed_is}
use Rattle.ival.proofs.space.Space.keep_bool.Goals as goal

pub get-domain-requires : goal.get-domain-requires
get-domain-requires c = test_bound (λ (d : Domain). allows d c.args.value) c.args.axis (space_of c.args.self.now) c.requires

pub kept-requires : goal.kept-requires
kept-requires c = subst (λ (d : Domain). IsTrue ((λ (d : Domain). allows d c.args.value) d)) (sym c.get-domain.ensures) (test_at (λ (d : Domain). allows d c.args.value) c.args.axis (space_of c.args.self.now) (domain_of c.get-domain.result) c.requires)

pub set-requires : goal.set-requires
set-requires c = test_bound (λ (d : Domain). allows d c.args.value) c.args.axis (space_of c.args.self.now) c.requires

pub returns-clause-axes : goal.returns-clause-axes
returns-clause-axes c =
    let d = domain_of c.get-domain.result in let space = space_of c.args.self.now in
    c.set.ensures.axes ∙ ap (set space c.args.axis) (c.kept.ensures ∙ ap (keep c.args.value) c.get-domain.ensures) ∙ sym (changed_is (keep c.args.value) c.args.axis space d)
