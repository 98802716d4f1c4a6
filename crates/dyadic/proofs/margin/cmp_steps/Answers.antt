use Rattle.std.proofs.Common.{◌∙◌}
use Rattle.dyadic.proofs.Margins.{cmp_scaled}
use Rattle.dyadic.proofs.margin.cmp_steps.Goals as goal

pub returns : goal.returns
returns c = c.cmp_quotients.ensures ∙ cmp_scaled c.args.n c.args.d c.args.size c.args.shift c.requires.fine
