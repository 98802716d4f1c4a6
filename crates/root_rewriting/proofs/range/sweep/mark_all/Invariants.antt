use Rattle.std.proofs.Common.{◌≡◌, drop}
use Rattle.root_rewriting.specs.Sweep.{marked_all}
use Rattle.root_rewriting.proofs.range.sweep.mark_all.Given as goal

-- what is left to mark leads to the same marks
abbrev pub invariant-loop-place : goal.invariant-loop-place
invariant-loop-place l = marked_all l.marks.items (drop l.place-index l.places) ≡ marked_all l.initial.marks.items l.places
