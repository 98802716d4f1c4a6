use Rattle.std.proofs.Common.{◌≡◌, take}
use Rattle.root_rewriting.specs.Keys.{classes_at}
use Rattle.root_rewriting.proofs.classes.part_classes.Given as goal

abbrev pub invariant-loop-part : goal.invariant-loop-part
invariant-loop-part l = l.found.items ≡ classes_at l.classes (take l.part-index l.parts)
