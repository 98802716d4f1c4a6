use Rattle.std.proofs.Common.{◌≡◌, ◌-◌, ◌≤◌, length, drop}
use Rattle.cert_model.specs.Due.{ascends}
use Rattle.cert_check.proofs.lists.ascends.Given as goal

abbrev pub invariant-loop-k : goal.invariant-loop-k
invariant-loop-k l = (1 ≤ l.k) × (ascends l.js ≡ ascends (drop (l.k - 1) l.js))

abbrev pub decreases-loop-k : goal.decreases-loop-k
decreases-loop-k l = length l.js - l.k
