use Rattle.std.proofs.Common.{◌≡◌, drop}
use Rattle.cover_line.specs.Views.{blocks_of}
use Rattle.cert_model.specs.Due.{are_blocks_there}
use Rattle.poly_graph.specs.ProblemViews.{problem_of}
use Rattle.cert_check.proofs.names.are_blocks_there.Given as goal

-- what holds of the blocks from this one on holds of all
abbrev pub invariant-loop-i : goal.invariant-loop-i
invariant-loop-i l = are_blocks_there (problem_of l.problem) (blocks_of (drop l.i l.blocks)) ≡ are_blocks_there (problem_of l.problem) (blocks_of l.blocks)
