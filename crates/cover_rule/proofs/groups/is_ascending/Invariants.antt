use Rattle.std.proofs.Common.{◌≡◌, ◌-◌, ◌≤◌, length, drop}
use Rattle.cover_model.specs.Rules.{is_ascending}
use Rattle.cover_rule.proofs.groups.is_ascending.Given as goal

abbrev pub invariant-loop-k : goal.invariant-loop-k
invariant-loop-k l = (1 ≤ l.k) × (is_ascending l.js ≡ is_ascending (drop (l.k - 1) l.js))

abbrev pub decreases-loop-k : goal.decreases-loop-k
decreases-loop-k l = length l.js - l.k
