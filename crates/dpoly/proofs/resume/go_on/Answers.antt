use Rattle.std.proofs.Common.{rules, refl, sym, subst, ap, ◌∙◌}
use Rattle.command_line.specs.Seen.{seen_resume}
use Rattle.poly_graph.specs.ProblemViews.{problem_of}
use Rattle.cover_book.specs.Limits.{IsWithinLimits}
use Rattle.cert_model.specs.AnswerText.{delta_sat_text}
use Rattle.cert_resume.specs.Answer.{IsResumedCover, IsResumedFrom}
use Rattle.cert_resume.specs.Request.{options_of}
use Rattle.cert_resume.specs.declared.answer.Resumed.{Resumed}
use Rattle.cert_resume.specs.declared.request.Request.{Request}
use Rattle.dpoly.proofs.Resuming.{base-limits, covered-more, found-more}
use Rattle.dpoly.proofs.resume.go_on.Goals as goal

pub resume-requires-clause-limits : goal.resume-requires-clause-limits
resume-requires-clause-limits g c =
    let h : IsWithinLimits c.args.problem.now (options_of c.args.base c.request_of.result) =
    subst (λ (r : Request). IsWithinLimits c.args.problem.now (options_of c.args.base r)) (sym c.request_of.ensures)
    (base-limits c.args.problem.now (seen_resume c.args.asked.now) c.args.base c.requires.asked c.requires.within c.requires.base.0 c.requires.base.1) in
    search (rules, h)

pub returns-in_ok-text-in-Point : goal.returns-in_ok-text-in-Point
returns-in_ok-text-in-Point g c = λ cert is.
    let p = problem_of c.args.problem.now in
    let found = subst (λ (x : Resumed). IsResumedFrom p c.args.base c.request_of.result x) c.in-Point.is c.in_ok-cert.ensures cert is in
    found-more p (seen_resume c.args.asked.now) cert c.args.base c.in-Point.cert.items c.in_ok-text-in-Point.text.items c.in-Point.point _ refl refl is found
    (λ s e. c.in_ok-text-in-Point.ensures s e ∙ ap (λ x. delta_sat_text p s x) c.space.ensures)

pub returns-in_ok-text-in-Cover : goal.returns-in_ok-text-in-Cover
returns-in_ok-text-in-Cover g c = λ cert is.
    let p = problem_of c.args.problem.now in
    let so = subst (λ (x : Resumed). IsResumedFrom p c.args.base c.request_of.result x) c.in-Cover.is c.in_ok-cert.ensures cert is in
    covered-more p (seen_resume c.args.asked.now) cert c.args.base c.in-Cover.cover c.in_ok-text-in-Cover.text.items _ refl refl is
    (subst (λ (r : Request). IsResumedCover p c.args.base.bound r cert c.in-Cover.cover) c.request_of.ensures so) c.in_ok-text-in-Cover.ensures
