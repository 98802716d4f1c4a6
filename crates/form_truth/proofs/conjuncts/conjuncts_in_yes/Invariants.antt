use Rattle.std.proofs.Common.{◌≡◌, ℕ, ◌<◌, length, vec_len}
use Rattle.poly_graph.specs.FormGraph.{form_at, graph_forms}
use Rattle.interval_model.specs.Space.{Space}
use Rattle.cover_model.specs.Honest.{all_in_yes, conjuncts}
use Rattle.form_truth.specs.Truth.{is_true}
use Rattle.cover_model.specs.State.{state_of}
use Rattle.form_truth.proofs.conjuncts.conjuncts_in_yes.Given as goal

-- the truths so far are those of the nodes' conjuncts
abbrev pub invariant-loop-n : goal.invariant-loop-n
invariant-loop-n l = record {
  count : vec_len l.marks.truths ≡ length l.problem.forms;
  filled : (space : Space) (k : ℕ) → k < l.n → is_true l.marks.truths.items k ≡ all_in_yes (state_of space l.lits) (conjuncts (form_at (graph_forms l.problem.forms) k));
}
