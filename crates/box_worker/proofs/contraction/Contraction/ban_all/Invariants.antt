use Rattle.std.specs.Prelude.{◌≡◌}
use Rattle.box_worker.proofs.contraction.Contraction.ban_all.Given as goal

abbrev pub invariant-loop-place : goal.invariant-loop-place
invariant-loop-place l = l.self.open ≡ l.fn.self.open
