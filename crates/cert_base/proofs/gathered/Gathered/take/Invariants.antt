use Rattle.std.proofs.Common.{length}
use Rattle.cert_read.specs.Reading.{lines_ahead}
use Rattle.cert_base.specs.Views.{gathered_of}
use Rattle.cert_base.proofs.Gathering.{Gathering}
use Rattle.cert_base.proofs.gathered.Gathered.take.Given as goal

abbrev pub invariant-lines : goal.invariant-lines
invariant-lines l = Gathering l.fn.problem l.fn.checker l.fn.reader (gathered_of l.fn.self) l.checker l.reader (gathered_of l.self)

abbrev pub decreases-lines : goal.decreases-lines
decreases-lines l = length (lines_ahead l.reader)
