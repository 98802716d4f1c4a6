use Rattle.std.proofs.Common.{◌≡◌, ℕ, ◌<◌, length, vec_len}
use Rattle.poly_graph.specs.Form.{form_truth}
use Rattle.poly_graph.specs.FormGraph.{form_at, graph_forms}
use Rattle.cover_model.specs.State.{may_atom, domain_allows, state_of}
use Rattle.poly_graph.specs.ProblemViews.{problem_of}
use Rattle.ival.specs.SpaceViews.{space_of}
use Rattle.form_truth.specs.Truth.{is_true, of_atoms, pruning}
use Rattle.form_truth.proofs.marks.may.Given as goal

-- the truths so far are those of the nodes' forms
abbrev pub invariant-loop-n : goal.invariant-loop-n
invariant-loop-n l = record {
  count : vec_len l.marks.truths ≡ length l.problem.forms;
  filled : (k : ℕ) → k < l.n → is_true l.marks.truths.items k ≡
      form_truth (of_atoms l.problem (may_atom (problem_of l.problem) (pruning l.margin) (state_of (space_of l.space) l.lits))) (domain_allows (space_of l.space)) (form_at (graph_forms l.problem.forms) k);
}
