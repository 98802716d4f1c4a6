use Rattle.std.proofs.Common.{ℕ, Vec, Global, ap, ◌∙◌}
use Rattle.std.proofs.lemmas.Result.{IfOk-weaker}
use Rattle.interval_model.specs.Space.{Space}
use Rattle.command_line.specs.Seen.{seen_resume}
use Rattle.poly_graph.specs.ProblemViews.{problem_of}
use Rattle.cert_model.specs.AnswerText.{width_text}
use Rattle.dpoly.proofs.Resuming.{nothing-said, part-said, stuck-said}
use Rattle.dpoly.proofs.resume.share_text.Goals as goal

pub returns-then-cover-eq0 : goal.returns-then-cover-eq0
returns-then-cover-eq0 c = IfOk-weaker _ _ _ (λ (text : Vec ℕ Global) h. nothing-said (problem_of c.args.problem.now) (seen_resume c.args.asked.now) c.args.margin_bits c.args.cover.now c.in-Nothing.is c.if-cover-eq0.true text.items h) c.unsat.ensures

pub returns-else-cover-eq0 : goal.returns-else-cover-eq0
returns-else-cover-eq0 c = IfOk-weaker _ _ _ (λ (text : Vec ℕ Global) h. part-said (problem_of c.args.problem.now) (seen_resume c.args.asked.now) c.args.margin_bits c.args.cover.now c.in-Nothing.is c.if-cover-eq0.false text.items h) c.part.ensures

pub returns-in-Stuck : goal.returns-in-Stuck
returns-in-Stuck c = IfOk-weaker _ _ _ (λ (text : Vec ℕ Global) h. stuck-said (problem_of c.args.problem.now) (seen_resume c.args.asked.now) c.args.margin_bits c.args.cover.now c.in-Stuck.atom c.in-Stuck.state c.in-Stuck.is text.items
    (h c.in-Stuck.state.marks ∙ ap (λ (x : Space). width_text (problem_of c.args.problem.now) (record { space = x; marks = c.in-Stuck.state.marks }) c.in-Stuck.atom) c.space.ensures)) c.width.ensures
