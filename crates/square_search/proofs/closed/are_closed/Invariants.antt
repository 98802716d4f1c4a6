use Rattle.std.proofs.Common.{ℕ, ◌<◌}
use Rattle.square_search.specs.Closed.{IsClosedAt}
use Rattle.square_search.proofs.closed.are_closed.Given as goal

abbrev pub invariant-loop-n : goal.invariant-loop-n
invariant-loop-n l = (k : ℕ) → k < l.n → IsClosedAt l.graph l.marks k
