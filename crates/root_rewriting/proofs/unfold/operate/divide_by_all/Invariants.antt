use Rattle.std.proofs.Common.{length}
use Rattle.smt_sexp.specs.Views.{place_of}
use Rattle.root_rewriting.specs.Nodes.{parts_at, tree_at, trees_in}
use Rattle.root_rewriting.proofs.Dividing.{Divides}
use Rattle.root_rewriting.proofs.unfold.operate.divide_by_all.Given as goal

abbrev pub invariant-loop-rest : goal.invariant-loop-rest
invariant-loop-rest l = Divides l.initial.trees l.trees (place_of l.place) l.name (tree_at (trees_in l.initial.trees) l.dividend) (parts_at (trees_in l.initial.trees) l.divisors) l.made l.rest

abbrev pub decreases-loop-rest : goal.decreases-loop-rest
decreases-loop-rest l = length l.rest
