use Rattle.std.proofs.Common.{◌≡◌, ◌-◌, ◌++◌, replicate, take}
use Rattle.poly_graph.specs.Marks.{unmarked}
use Rattle.cover_book.proofs.carry.grown_marks.Given as goal

abbrev pub invariant-loop-j : goal.invariant-loop-j
invariant-loop-j l = l.grown ≡ take l.j l.marks ++ replicate (l.atoms - l.j) unmarked
