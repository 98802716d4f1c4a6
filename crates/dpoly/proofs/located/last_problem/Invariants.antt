use Rattle.std.proofs.Common.{◌≡◌, ◌≤◌, ◌-◌, Some}
use Rattle.std.specs.Prelude.{slice_get}
use Rattle.dpoly.proofs.Planning.{parts_in}
use Rattle.dpoly.proofs.located.last_problem.Given as goal

-- the problem is that of the check before
abbrev pub invariant-loop-k : goal.invariant-loop-k
invariant-loop-k l = record {
  some : 1 ≤ l.k;
  at : slice_get (parts_in l.session) (l.k - 1) ≡ Some l.problem;
}
