use Rattle.std.proofs.Common.{ap, sym, subst, ◌∙◌}
use Rattle.cert_read.specs.CertLine.{point_word}
use Rattle.poly_graph.specs.ProblemViews.{Parts, problem_of}
use Rattle.cert_model.specs.Due.{kind_due}
use Rattle.cert_model.specs.Accepted.{next}
use Rattle.cert_check.specs.States.{loosenings_of}
use Rattle.cert_check.specs.Dues.{lean_next}
use Rattle.cert_check.specs.Faults.{IsRefused}
use Rattle.cert_check.specs.Works.{part_of}
use Rattle.cert_check.proofs.PartLines.{part_goes, part_refused, same_checks, spent_checks, spent_part, spent_spent}
use Rattle.cert_check.proofs.parts.point_line.Goals as goal

pub returns-in_ok-inside-in-Ok-clause-checks : goal.returns-in_ok-inside-in-Ok-clause-checks
returns-in_ok-inside-in-Ok-clause-checks c = same_checks c.args.part.now c.take_lemmas.new.self c.inside.new.part (spent_checks c.args.part.now c.take_lemmas.new.self c.take_lemmas.ensures.same) c.in_ok-inside-in-Ok.ensures.checks

pub returns-in_err-inside-in-Ok-clause-checks : goal.returns-in_err-inside-in-Ok-clause-checks
returns-in_err-inside-in-Ok-clause-checks c = same_checks c.args.part.now c.take_lemmas.new.self c.inside.new.part (spent_checks c.args.part.now c.take_lemmas.new.self c.take_lemmas.ensures.same) c.inside.ensures.checks

pub returns-in_ok-inside-in-Ok-clause-comes : goal.returns-in_ok-inside-in-Ok-clause-comes
returns-in_ok-inside-in-Ok-clause-comes c b =
    let t = c.args.part.now in let mid = c.take_lemmas.new.self in let x = next (problem_of t.problem) b (kind_due (loosenings_of c.args.s)) point_word in let same = c.take_lemmas.ensures.same in
    part_goes (part_of t) mid c.inside.new.part x c.in-Ok.due c.in_ok-inside-in-Ok.field-0 (spent_part t ∙ sym (spent_spent t mid same))
    (ap (λ (p : Parts). lean_next (next (problem_of p) b (kind_due (loosenings_of c.args.s)) point_word)) (sym same.problem) ∙ c.in-Ok.ensures.comes b) c.in_ok-inside-in-Ok.ensures.comes

pub returns-in-Err-clause-comes : goal.returns-in-Err-clause-comes
returns-in-Err-clause-comes c b =
    let t = c.args.part.now in let same = c.take_lemmas.ensures.same in
    part_refused (part_of t) c.in-Err.refusal (next (problem_of t.problem) b (kind_due (loosenings_of c.args.s)) point_word)
    (subst (λ (p : Parts). IsRefused c.in-Err.refusal (next (problem_of p) b (kind_due (loosenings_of c.args.s)) point_word)) same.problem (c.in-Err.ensures.comes b))
