use Rattle.std.specs.Prelude.{◌≡◌}
use Rattle.box_worker.proofs.contraction.Contraction.narrow_axes.Given as goal

abbrev pub invariant-loop-axis : goal.invariant-loop-axis
invariant-loop-axis l = l.self.open ≡ l.fn.self.open
