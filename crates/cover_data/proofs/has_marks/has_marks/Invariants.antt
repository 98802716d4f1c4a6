use Rattle.std.proofs.Common.{◌≡◌, map, drop}
use Rattle.poly_graph.specs.MarkViews.{mark_of}
use Rattle.poly_graph.specs.Marks.{marks_within}
use Rattle.cover_data.proofs.has_marks.has_marks.Given as goal

-- the marks that are left decide
abbrev pub invariant-loop-j : goal.invariant-loop-j
invariant-loop-j l = marks_within (map mark_of l.marks) (map mark_of l.others) ≡ marks_within (drop l.j (map mark_of l.marks)) (drop l.j (map mark_of l.others))
