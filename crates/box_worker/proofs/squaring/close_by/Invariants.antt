use Rattle.std.specs.Prelude.{◌≡◌}
use Rattle.box_worker.proofs.squaring.close_by.Given as goal

-- refused proposals leave it as it was
abbrev pub invariant-loop : goal.invariant-loop
invariant-loop l = l.patch ≡ l.fn.patch
