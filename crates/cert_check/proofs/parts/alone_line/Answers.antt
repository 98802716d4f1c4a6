use Rattle.std.proofs.Common.{ap, sym, subst, ◌∙◌}
use Rattle.cert_read.specs.Views.{line_of}
use Rattle.poly_graph.specs.ProblemViews.{Parts}
use Rattle.cert_model.specs.Due.{NextOf, on}
use Rattle.cert_check.specs.Dues.{due_of, next_map}
use Rattle.cert_check.specs.Faults.{IsRefused}
use Rattle.cert_check.specs.Work.{Work, alone, lean_work}
use Rattle.cert_check.proofs.PartLines.{alone_goes, alone_here, alone_refused, here}
use Rattle.cert_check.proofs.parts.alone_line.Goals as goal

pub returns-in-Ok-clause-comes : goal.returns-in-Ok-clause-comes
returns-in-Ok-clause-comes c =
    let t = c.args.part.now in let l = line_of c.args.line.now in let b = c.args.bound in
    ap (next_map lean_work) (alone_here t c.requires.part c.requires.sound.0 b l c.args.due)
    ∙ alone_goes (here t c.requires.part c.requires.sound.0 b l c.args.due) (due_of t.problem c.in-Ok.due) c.in-Ok.ensures.comes
    ∙ ap (λ (p : Parts). on (alone (due_of p c.in-Ok.due))) (sym c.in-Ok.ensures.same.problem)

pub returns-in-Err-clause-comes : goal.returns-in-Err-clause-comes
returns-in-Err-clause-comes c =
    let t = c.args.part.now in let l = line_of c.args.line.now in let b = c.args.bound in
    subst (λ (x : NextOf Work). IsRefused c.in-Err.refusal x) (sym (alone_here t c.requires.part c.requires.sound.0 b l c.args.due))
    (alone_refused c.in-Err.refusal (here t c.requires.part c.requires.sound.0 b l c.args.due) c.in-Err.ensures.comes)
