use Rattle.plain_eval.specs.Upward.{AreVariables}
use Rattle.plain_eval.proofs.upward.variables_of.Given as goal

abbrev pub invariant-loop-n : goal.invariant-loop-n
invariant-loop-n l = AreVariables l.graph l.n l.variables.items
