use Rattle.std.proofs.Common.{◌<◌, ◌≤◌, ◌∙◌, length, ap, sym, arith}
use Rattle.interval_model.specs.Space.{Domain, allows}
use Rattle.ival.specs.SpaceViews.{space_of, domain_of}
use Rattle.form_truth.proofs.Axes.{allowed_at, none_past}
use Rattle.cert_check.proofs.form.axis_allows.Goals as goal

pub returns-then-axis-len : goal.returns-then-axis-len
returns-then-axis-len c =
    let space = space_of c.args.space.now in let d = domain_of c.get.result in
    let inside : c.args.axis < length space = omega (arith, c.if-axis-len.true, c.len.ensures) in
    c.allows.ensures ∙ ap (λ (e : Domain). allows e c.args.value) c.get.ensures ∙ sym (allowed_at space c.args.axis c.args.value d inside)

pub returns-else-axis-len : goal.returns-else-axis-len
returns-else-axis-len c =
    let space = space_of c.args.space.now in
    let past : length space ≤ c.args.axis = omega (arith, c.if-axis-len.false, c.len.ensures) in sym (none_past space c.args.axis c.args.value past)
