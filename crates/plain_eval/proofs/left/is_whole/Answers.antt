use Rattle.std.proofs.Common.{sym, ◌∙◌}
use Rattle.ival.proofs.Equality.{same_interval}
use Rattle.plain_eval.proofs.left.is_whole.Goals as goal

pub returns-then-not-is_empty-clause-enclosure : goal.returns-then-not-is_empty-clause-enclosure
returns-then-not-is_empty-clause-enclosure c h = same_interval c.args.narrowed c.get.result (sym c.eq.ensures ∙ h) ∙ c.get.ensures
