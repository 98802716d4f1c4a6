use Rattle.std.proofs.Common.{ℕ, ap, ◌∙◌}
use Rattle.cover_model.specs.State.{may}
use Rattle.poly_graph.specs.ProblemViews.{problem_of}
use Rattle.ival.specs.RowViews.{rows_of}
use Rattle.ival.specs.SpaceViews.{space_of}
use Rattle.form_truth.specs.Truth.{pruning}
use Rattle.cert_check.specs.States.{state_of}
use Rattle.cert_check.proofs.Rows.{judged_over}
use Rattle.cert_check.proofs.tools.Tools.may.Goals as goal

pub may_hold-requires-clause-judged : goal.may_hold-requires-clause-judged
may_hold-requires-clause-judged c =
    judged_over c.args.problem.now (space_of c.args.state.now.space) (rows_of c.follow.new.self.rows) c.judge_at.new.self c.follow.ensures.rows c.judge_at.ensures.judged

pub returns-clause-truth : goal.returns-clause-truth
returns-clause-truth c =
    c.may_hold.ensures.truth ∙ ap (λ (m : ℕ). may (problem_of c.args.problem.now) (pruning m) (state_of c.args.state.now)) c.judge_at.ensures.margin
