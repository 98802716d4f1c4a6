use Rattle.std.proofs.Common.{length}
use Rattle.cert_read.specs.Reading.{lines_ahead}
use Rattle.cert_least.proofs.Taking.{Taking}
use Rattle.cert_least.proofs.checker.GoalChecker.take.Given as goal

abbrev pub invariant-lines : goal.invariant-lines
invariant-lines l = Taking l.fn.self l.fn.reader l.self l.reader

abbrev pub decreases-lines : goal.decreases-lines
decreases-lines l = length (lines_ahead l.reader)
