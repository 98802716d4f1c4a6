use Rattle.std.proofs.Common.{◌≤◌, All, take}
use Rattle.solve_core.specs.Solved.{IsSolved, AreBooksInOneVersion}
use Rattle.solve_core.proofs.run.solve_each.Given as goal

-- the books of the first checks
abbrev pub invariant-loop-k : goal.invariant-loop-k
invariant-loop-k g l = record {
  some : 1 ≤ l.k;
  books : AreBooksInOneVersion l.options (take l.k l.session) l.books.items;
  solved : All IsSolved l.books.items;
}
