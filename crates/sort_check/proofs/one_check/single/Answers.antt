use Rattle.smt_script.specs.Levels.{checks_of, no_levels}
use Rattle.smt_script.specs.Views.{steps_in}
use Rattle.sort_check.proofs.Following.{asked_sorted}
use Rattle.sort_check.proofs.Only.{only_sorted}
use Rattle.sort_check.proofs.one_check.single.Goals as goal

pub invariant_of-result : goal.invariant_of-result
invariant_of-result c = record {
  sorted = only_sorted (checks_of (steps_in c.args.typed.course)) _ (asked_sorted no_levels (steps_in c.args.typed.course) c.args.typed.sorted) c.in_ok-script.ensures;
}
