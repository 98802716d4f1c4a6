use Rattle.std.proofs.Common.{◌≡◌, ℕ, ◌<◌, true, false, get_or, vec_len}
use Rattle.poly_graph.specs.Problem.{atom_at}
use Rattle.poly_graph.specs.ProblemViews.{problem_of}
use Rattle.ival.specs.RowViews.{marks_of, is_marked}
use Rattle.cover_rule.proofs.narrowing.drop_reached.Given as goal

abbrev pub invariant-loop-j : goal.invariant-loop-j
invariant-loop-j l = record {
  count : vec_len l.leaves ≡ vec_len l.initial.leaves;
  kept : (k : ℕ) → get_or l.leaves.items k false ≡ true → get_or l.initial.leaves.items k false ≡ true;
  unmarked : (k : ℕ) → k < l.j → get_or l.leaves.items k false ≡ true → is_marked (marks_of l.rows) (atom_at (problem_of l.problem) k).0 ≡ false;
}
