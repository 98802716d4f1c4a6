use Rattle.std.proofs.Common.{◌≡◌, drop, false, length, replicate}
use Rattle.root_rewriting.specs.Sweep.{assertion_places, marked_all}
use Rattle.root_rewriting.proofs.range.sweep.assertion_marks.Given as goal

-- what is left to mark leads to the same marks
abbrev pub invariant-loop-assertion : goal.invariant-loop-assertion
invariant-loop-assertion l = (length l.marks.items ≡ length l.asserted.trees) ×
    (marked_all l.marks.items (assertion_places (drop l.assertion-index l.assertions)) ≡ marked_all (replicate (length l.asserted.trees) false) (assertion_places l.assertions))
