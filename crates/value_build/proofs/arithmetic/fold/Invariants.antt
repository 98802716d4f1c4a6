use Rattle.std.proofs.Common.{length}
use Rattle.smt_sexp.specs.Views.{place_of}
use Rattle.value_build.specs.Arithmetic.{IsFolding}
use Rattle.value_build.proofs.arithmetic.fold.Given as goal

abbrev pub invariant-loop-next : goal.invariant-loop-next
invariant-loop-next l = IsFolding l.step (place_of l.at) l.fn.builder l.builder l.first l.rest l.so_far l.left

abbrev pub decreases-loop-next : goal.decreases-loop-next
decreases-loop-next l = length l.left
