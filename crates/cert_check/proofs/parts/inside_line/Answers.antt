use Rattle.std.proofs.Common.{ap, sym, ◌∙◌}
use Rattle.cert_read.specs.Views.{line_of}
use Rattle.poly_graph.specs.ProblemViews.{Parts, problem_of}
use Rattle.cert_model.specs.Due.{on}
use Rattle.cert_model.specs.Accepted.{next}
use Rattle.cert_check.specs.Dues.{due_of}
use Rattle.cert_check.specs.Works.{spent_part_of}
use Rattle.cert_check.proofs.PartLines.{part_goes, part_refused, same_checks, spent_again, tooled_checks, tooled_spent}
use Rattle.cert_check.proofs.parts.inside_line.Goals as goal

pub returns-in_ok-inside-in-Ok-clause-comes : goal.returns-in_ok-inside-in-Ok-clause-comes
returns-in_ok-inside-in-Ok-clause-comes c =
    let t = c.args.part.now in let mid = c.next.new.self in let x = next (problem_of t.problem) c.args.bound (due_of t.problem c.args.due) (line_of c.args.line.now) in
    part_goes (spent_part_of t) mid c.inside.new.part x c.in-Ok.due c.in_ok-inside-in-Ok.field-0 (spent_again t ∙ sym (tooled_spent t mid c.in-Ok.ensures.same))
    (c.in-Ok.ensures.comes ∙ ap (λ (p : Parts). on (due_of p c.in-Ok.due)) (sym c.in-Ok.ensures.same.problem)) c.in_ok-inside-in-Ok.ensures.comes

pub returns-in_ok-inside-in-Ok-clause-checks : goal.returns-in_ok-inside-in-Ok-clause-checks
returns-in_ok-inside-in-Ok-clause-checks c = same_checks c.args.part.now c.next.new.self c.inside.new.part (tooled_checks c.args.part.now c.next.new.self c.in-Ok.ensures.same) c.in_ok-inside-in-Ok.ensures.checks

pub returns-in_err-inside-in-Ok-clause-checks : goal.returns-in_err-inside-in-Ok-clause-checks
returns-in_err-inside-in-Ok-clause-checks c = same_checks c.args.part.now c.next.new.self c.inside.new.part (tooled_checks c.args.part.now c.next.new.self c.in-Ok.ensures.same) c.inside.ensures.checks

pub returns-in-Err-clause-comes : goal.returns-in-Err-clause-comes
returns-in-Err-clause-comes c =
    let t = c.args.part.now in
    part_refused (spent_part_of t) c.in-Err.refusal (next (problem_of t.problem) c.args.bound (due_of t.problem c.args.due) (line_of c.args.line.now)) c.in-Err.ensures.comes
