use Rattle.std.proofs.Common.{List, subst}
use Rattle.smt_script.specs.declared.command.Parameter.{Parameter}
use Rattle.sort_check.specs.Calls.{wanted_sort}
use Rattle.sort_check.specs.Steps.{FindsFault}
use Rattle.sort_check.specs.Views.{around}
use Rattle.sort_check.proofs.commands.wanted_at_top.Goals as goal

pub returns : goal.returns
returns c = λ names knows. subst (λ (ps : List Parameter). FindsFault c.wanted.result (wanted_sort c.args.sexps.now c.args.at c.args.sort (around ps names))) c.new-locals.ensures (c.wanted.ensures names knows)
