use Rattle.std.proofs.Common.{◌≡◌, drop}
use Rattle.declared_box.specs.Sweep.{marked_all}
use Rattle.declared_box.proofs.sweep.mark_all.Given as goal

-- what is left to mark leads to the same marks
abbrev pub invariant-loop-part : goal.invariant-loop-part
invariant-loop-part l = marked_all l.marks (drop l.part-index l.parts) ≡ marked_all l.initial.marks l.parts
