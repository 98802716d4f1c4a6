use Rattle.std.proofs.Common.{◌≡◌, drop}
use Rattle.cert_read.specs.CertLine.{are_paired}
use Rattle.cert_read.specs.Lines.{words_of}
use Rattle.cert_read.proofs.Paired.{turned}
use Rattle.cert_read.proofs.number.are_paired.Given as goal

abbrev pub invariant-loop-b : goal.invariant-loop-b
invariant-loop-b l = turned l.even (are_paired (words_of (drop l.b-index l.text))) ≡ are_paired (words_of l.text)
