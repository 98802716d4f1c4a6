use Rattle.std.proofs.Common.{◌≡◌, take}
use Rattle.cert_join.specs.Gathered.{AllThere, AreNext, Meeting, going, leaving, parts_of}
use Rattle.cert_join.proofs.trees.sorted.Given as goal

abbrev pub invariant-loop-part : goal.invariant-loop-part
invariant-loop-part l = (place : Meeting) → parts_of place ≡ l.parts → AllThere l.parts l.cursors → AreNext l.cursors place →
    (l.grown.items ≡ parts_of (going (take l.part-index place))) × (l.left.items ≡ parts_of (leaving (take l.part-index place)))
