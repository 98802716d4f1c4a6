use Rattle.std.proofs.Common.{ap, ◌∙◌}
use Rattle.std.specs.Prelude.{is_some}
use Rattle.sort_check.proofs.Nearest.{among_is}
use Rattle.sort_check.proofs.names.is_among.Goals as goal

pub returns : goal.returns
returns c = c.is_some.ensures ∙ ap is_some c.sort_of.ensures ∙ among_is c.args.name.now c.args.before.now
