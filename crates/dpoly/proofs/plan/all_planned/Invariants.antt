use Rattle.std.proofs.Common.{◌≤◌, ◌-◌}
use Rattle.dpoly.proofs.Planning.{PlannedSoFar}
use Rattle.dpoly.proofs.plan.all_planned.Given as goal

-- the problem of the check before, and the plans up to it
abbrev pub invariant-loop-k : goal.invariant-loop-k
invariant-loop-k l = record {
  some : 1 ≤ l.k;
  planned : PlannedSoFar l.session l.delta_bits l.margin_bits (l.k - 1) l.problem l.text.items;
}
