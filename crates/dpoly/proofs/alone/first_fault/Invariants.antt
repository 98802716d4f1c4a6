use Rattle.std.proofs.Common.{◌-◌}
use Rattle.poly_graph.specs.ProblemViews.{problem_of}
use Rattle.dpoly.proofs.ReadAlone.{AcceptedSoFar}
use Rattle.dpoly.proofs.alone.first_fault.Given as goal

abbrev pub invariant-loop-number : goal.invariant-loop-number
invariant-loop-number g l = AcceptedSoFar (problem_of l.problem) l.fn.bound l.number l.fn.count (g.D.Desk.sight l.fn.desk) (g.D.Desk.sight l.desk)

abbrev pub decreases-loop-number : goal.decreases-loop-number
decreases-loop-number g l = l.count - l.number
