use Rattle.std.specs.Prelude.{◌≡◌}
use Rattle.box_worker.proofs.contraction.Contraction.combine_all.Given as goal

abbrev pub invariant-loop-j : goal.invariant-loop-j
invariant-loop-j l = l.self.open ≡ l.fn.self.open
