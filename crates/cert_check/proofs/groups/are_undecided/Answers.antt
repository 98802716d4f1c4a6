use Rattle.std.proofs.Common.{◌∙◌}
use Rattle.cert_check.specs.States.{state_of}
use Rattle.cert_check.proofs.Grouped.{undecided_all}
use Rattle.cert_check.proofs.groups.are_undecided.Goals as goal

pub returns : goal.returns
returns c = c.all_unmarked.ensures ∙ undecided_all (state_of c.args.state.now) c.args.js.now c.requires
