use Rattle.std.proofs.Common.{length, ◌-◌}
use Rattle.smt_sexp.proofs.Strings.{StringSoFar}
use Rattle.smt_sexp.proofs.words.string_text.Given as goal

abbrev pub invariant-loop-at : goal.invariant-loop-at
invariant-loop-at l = StringSoFar l.bytes l.text.items l.at

abbrev pub decreases-loop-at : goal.decreases-loop-at
decreases-loop-at l = length l.bytes - l.at
