use Rattle.std.specs.Prelude.{◌≡◌}
use Rattle.box_worker.proofs.contraction.Contraction.go_on_while_due.Given as goal

abbrev pub invariant-loop : goal.invariant-loop
invariant-loop l = l.self.open ≡ l.fn.self.open
