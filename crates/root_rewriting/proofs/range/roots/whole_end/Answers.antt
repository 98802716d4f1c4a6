use Rattle.std.proofs.Common.{◌∙◌, ap}
use Rattle.dyadic.specs.Rounding.{down}
use Rattle.root_rewriting.proofs.RangeRoundings.{whole_kept}
use Rattle.root_rewriting.proofs.range.roots.whole_end.Goals as goal

pub returns : goal.returns
returns c = c.down_frac.ensures ∙ ap down c.whole.ensures ∙ whole_kept c.args.number c.requires
