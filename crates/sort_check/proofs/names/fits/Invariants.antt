use Rattle.std.proofs.Common.{◌≡◌, map, length}
use Rattle.smt_script.specs.Views.{parameter_of}
use Rattle.sort_check.specs.Sorts.{fit}
use Rattle.sort_check.specs.Views.{sorts_seen}
use Rattle.sort_check.proofs.names.fits.Given as goal

abbrev pub invariant-loop-left : goal.invariant-loop-left
invariant-loop-left l = fit (map parameter_of l.parameters) (sorts_seen l.sorts) ≡ fit (map parameter_of l.left) (sorts_seen l.given)

abbrev pub decreases-loop-left : goal.decreases-loop-left
decreases-loop-left l = length l.left
