use Rattle.std.proofs.Common.{◌≡◌, ◌-◌, ◌≤◌, drop, length}
use Rattle.cert_read.specs.CertLine.{counts_of}
use Rattle.cert_read.specs.Lines.{words_of}
use Rattle.cert_read.proofs.Counts.{joined}
use Rattle.cert_read.proofs.number.counts.Given as goal

abbrev pub invariant-loop-number : goal.invariant-loop-number
invariant-loop-number l = record {
  within : l.at ≤ length l.text;
  joined : counts_of (words_of l.text) ≡ joined l.numbers.items (counts_of (words_of (drop l.at l.text)));
}

abbrev pub decreases-loop-number : goal.decreases-loop-number
decreases-loop-number l = length l.text - l.at
