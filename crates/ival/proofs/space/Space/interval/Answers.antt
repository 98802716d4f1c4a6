use Rattle.std.proofs.Common.{◌<◌, ◌≤◌, ◌∙◌, ap, sym, arith, length}
use Rattle.interval_model.specs.Space.{domain_interval}
use Rattle.ival.specs.SpaceViews.{space_of, domain_of}
use Rattle.ival.proofs.Lists.{interval_at, no_interval}
use Rattle.ival.proofs.space.Space.interval.Goals as goal

pub returns-then-axis-len : goal.returns-then-axis-len
returns-then-axis-len c =
    let space = space_of c.args.self.now in let d = domain_of c.get.result in
    let inside : c.args.axis < length space = omega (arith, c.if-axis-len.true, c.len.ensures) in
    c.domain_interval.ensures ∙ ap domain_interval c.get.ensures ∙ sym (interval_at space c.args.axis d inside)

pub returns-else-axis-len : goal.returns-else-axis-len
returns-else-axis-len c =
    let space = space_of c.args.self.now in
    let past : length space ≤ c.args.axis = omega (arith, c.if-axis-len.false, c.len.ensures) in sym (no_interval space c.args.axis past)
