use Rattle.std.proofs.Common.{◌∙◌, get_or, ap, sym}
use Rattle.interval_model.specs.Space.{Space}
use Rattle.cover_rule.specs.Refusals.{is_decided}
use Rattle.ival.specs.SpaceViews.{domain_of}
use Rattle.cover_rule.proofs.Axes.{test_is}
use Rattle.cover_rule.proofs.branches.is_decided_axis.Goals as goal

pub returns : goal.returns
returns c =
    let s = c.args.state.now.space in let i = c.args.axis in let d = domain_of c.get.result in
    c.has_one_value.ensures ∙ ap is_decided (c.get.ensures ∙ ap (λ (x : Space). get_or x i d) c.space.ensures) ∙ sym (test_is is_decided i s d c.requires)
