use Rattle.std.proofs.Common.{◌<◌, ◌∷◌, [], ◌++◌, ◌∙◌, length, arith, ap₂, sym}
use Rattle.interval_model.specs.Space.{Domain, Space}
use Rattle.form_truth.proofs.Roots.{upright_at, bound_at, domains_step}
use Rattle.form_truth.proofs.root.root_domains.Goals as goal

pub root_domain-requires-clause-bounds : goal.root_domain-requires-clause-bounds
root_domain-requires-clause-bounds c = bound_at c.loop-axis.axis c.args.axes.now c.index-axes-axis.result (omega (arith, c.loop-axis-test.true)) c.requires.bounds

pub root_domain-requires-clause-upright : goal.root_domain-requires-clause-upright
root_domain-requires-clause-upright c = upright_at 0 c.loop-axis.axis c.args.axes.now c.index-axes-axis.result (omega (arith, c.loop-axis-test.true)) c.requires.upright

pub loop-axis-preserved : goal.loop-axis-preserved
loop-axis-preserved c =
    let inside : c.loop-axis.axis < length c.args.axes.now = omega (arith, c.loop-axis-test.true) in record {
      axes = c.push.ensures.axes ∙ ap₂ (λ (s : Space) (d : Domain). s ++ (d ∷ [])) c.loop-axis.invariant.axes c.root_domain.ensures ∙ sym (domains_step c.loop-axis.axis c.args.axes.now c.index-axes-axis.result inside);
      room = omega (arith, c.loop-axis.invariant.room, c.push.ensures.room);
    }
