use Rattle.std.proofs.Common.{length, ◌-◌}
use Rattle.smt_sexp.specs.Classes.{is_in}
use Rattle.smt_sexp.proofs.Runs.{RunSoFar}
use Rattle.smt_sexp.proofs.bytes.run_len.Given as goal

abbrev pub invariant-loop-n : goal.invariant-loop-n
invariant-loop-n l = RunSoFar (is_in l.class) l.bytes l.n

abbrev pub decreases-loop-n : goal.decreases-loop-n
decreases-loop-n l = length l.bytes - l.n
