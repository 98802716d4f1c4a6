use Rattle.std.proofs.Common.{IsTrue}
use Rattle.contraction_rows.specs.TriedCnfBuild.{are_known}
use Rattle.contraction_rows.proofs.problems.add_all.Given as goal

abbrev pub invariant-loop-node : goal.invariant-loop-node
invariant-loop-node l = IsTrue (are_known l.forms)
