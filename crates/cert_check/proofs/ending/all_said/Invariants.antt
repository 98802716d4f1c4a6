use Rattle.std.proofs.Common.{◌≡◌, map, take}
use Rattle.cert_check.specs.Courses.{verdict_of}
use Rattle.cert_check.specs.States.{loosenings_of}
use Rattle.cert_check.specs.Works.{values_of}
use Rattle.cert_check.proofs.ending.all_said.Given as goal

abbrev pub invariant-loop-outcome : goal.invariant-loop-outcome
invariant-loop-outcome l = l.verdicts.items ≡ map (verdict_of (loosenings_of l.s)) (values_of (take l.outcome-index l.values))
