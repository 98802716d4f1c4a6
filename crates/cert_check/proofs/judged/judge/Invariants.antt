use Rattle.std.proofs.Common.{◌≡◌, ℕ, ◌<◌, ◌≤◌, length, false, get_or}
use Rattle.ival.specs.RowViews.{rows_of}
use Rattle.cert_check.specs.Judged.{row_misses}
use Rattle.cert_check.proofs.judged.judge.Given as goal

-- the atoms before this one are judged
abbrev pub invariant-loop-j : goal.invariant-loop-j
invariant-loop-j l = record {
  count : length l.misses ≡ length l.problem.atoms;
  done : (k : ℕ) → k < l.j → get_or l.misses k false ≡ row_misses l.problem l.margin (rows_of l.rows) k;
  ahead : (k : ℕ) → l.j ≤ k → get_or l.misses k false ≡ get_or l.initial.misses k false;
}
