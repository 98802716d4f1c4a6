use Rattle.std.proofs.Common.{◌<◌, length, ◌∙◌, ap, arith}
use Rattle.ival.specs.SpaceViews.{domain_of, space_of}
use Rattle.cert_check.specs.Changed.{placed}
use Rattle.cert_check.proofs.Placed.{same_step, other_step, last_step}
use Rattle.cert_check.proofs.changes.axes_apart.Goals.{then-not-is_same_domain+in_ok-push, else-not-is_same_domain}
use Rattle.cert_check.proofs.changes.axes_apart.Goals as goal

pub loop-axis-preserved : goal.loop-axis-preserved
loop-axis-preserved c =
    let from = space_of c.args.from.now in let to = space_of c.args.to.now in
    let inside : c.loop-axis.axis < length to = omega (arith, c.loop-axis-test.true, c.len-axis-end.ensures) in
    elim c.if-not-is_same_domain.branch [
      | then-not-is_same_domain+in_ok-push w ↦
          other_step domain_of c.loop-axis.apart.items c.if-not-is_same_domain.apart.items c.loop-axis.axis c.get-domain.result from to
          c.loop-axis.invariant inside c.requires c.get-domain.ensures (ap (λ v. v.items) w.apart-is ∙ w.in_ok-push.ensures.items)
      | else-not-is_same_domain w ↦
          ap (λ v. placed domain_of v.items from) w.apart-is ∙ same_step domain_of c.loop-axis.apart.items c.loop-axis.axis c.get.result c.get-domain.result from to
          c.loop-axis.invariant inside c.requires c.get.ensures c.get-domain.ensures (c.is_same_domain.ensures w.if-not-is_same_domain.false)
    ]

pub returns : goal.returns
returns c =
    last_step domain_of c.loop-axis.apart.items c.loop-axis.axis (space_of c.args.from.now) (space_of c.args.to.now)
    c.loop-axis.invariant (omega (arith, c.loop-axis-test.false, c.len-axis-end.ensures)) c.requires
