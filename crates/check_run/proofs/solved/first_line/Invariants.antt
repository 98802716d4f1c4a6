use Rattle.std.proofs.Common.{length, ◌-◌, ◌≡◌, ◌+◌, ◌≤◌, drop, not, nat_eq}
use Rattle.std.specs.List.{prefix_len}
use Rattle.check_run.proofs.solved.first_line.Given as goal

abbrev pub invariant-loop-end : goal.invariant-loop-end
invariant-loop-end l = record {
  within : l.end ≤ length l.text;
  passed : prefix_len (λ b. not (nat_eq b 10)) l.text ≡ l.end + prefix_len (λ b. not (nat_eq b 10)) (drop l.end l.text);
}

abbrev pub decreases-loop-end : goal.decreases-loop-end
decreases-loop-end l = length l.text - l.end
