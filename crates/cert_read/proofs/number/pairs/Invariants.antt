use Rattle.std.proofs.Common.{◌≡◌, length}
use Rattle.cert_read.specs.CertLine.{pairs_of}
use Rattle.cert_read.specs.Lines.{words_of}
use Rattle.cover_line.specs.Views.{multipliers_of}
use Rattle.cert_read.proofs.Paired.{joined_pairs}
use Rattle.cert_read.proofs.number.pairs.Given as goal

abbrev pub invariant-loop-behind : goal.invariant-loop-behind
invariant-loop-behind l = pairs_of (words_of l.text) ≡ joined_pairs (multipliers_of l.pairs.items) (pairs_of (words_of l.rest))

abbrev pub decreases-loop-behind : goal.decreases-loop-behind
decreases-loop-behind l = length l.rest
