use Rattle.std.proofs.Common.{◌≡◌, length}
use Rattle.box_worker.proofs.lessons.copy_marks.Given as goal

abbrev pub invariant-loop-pair : goal.invariant-loop-pair
invariant-loop-pair l = length l.into ≡ length l.fn.into
