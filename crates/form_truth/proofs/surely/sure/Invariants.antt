use Rattle.std.proofs.Common.{◌≡◌, ℕ, ◌<◌, length, vec_len}
use Rattle.dyadic.specs.Rounding.{two_to_minus}
use Rattle.poly_graph.specs.Form.{form_truth}
use Rattle.poly_graph.specs.FormGraph.{form_at, graph_forms}
use Rattle.cover_model.specs.State.{sure_at, domain_is}
use Rattle.poly_graph.specs.ProblemViews.{problem_of}
use Rattle.ival.specs.SpaceViews.{space_of}
use Rattle.form_truth.specs.Truth.{is_true, of_atoms}
use Rattle.form_truth.proofs.surely.sure.Given as goal

-- the truths so far are those of the nodes' forms
abbrev pub invariant-loop-n : goal.invariant-loop-n
invariant-loop-n l = record {
  count : vec_len l.marks.truths ≡ length l.problem.forms;
  filled : (k : ℕ) → k < l.n → is_true l.marks.truths.items k ≡
      form_truth (of_atoms l.problem (sure_at (problem_of l.problem) (two_to_minus l.delta) (space_of l.space))) (domain_is (space_of l.space)) (form_at (graph_forms l.problem.forms) k);
}
