use Rattle.std.proofs.Common.{ap, sym, subst, ◌∙◌}
use Rattle.cert_read.specs.Views.{line_of}
use Rattle.poly_graph.specs.ProblemViews.{Parts}
use Rattle.cert_model.specs.Due.{NextOf, on}
use Rattle.cert_check.specs.Dues.{IsSound, due_of, next_map}
use Rattle.cert_check.specs.Faults.{IsRefused}
use Rattle.cert_check.specs.Work.{Work, lean_work}
use Rattle.cert_check.specs.Works.{work_of}
use Rattle.cert_check.proofs.PartLines.{header_goes, header_here, header_refused, held_work_lean, here, tooled_checks, tooled_first}
use Rattle.cert_check.proofs.parts.later_header_line.Goals as goal

pub returns-in-Ok : goal.returns-in-Ok
returns-in-Ok c =
    let t = c.args.part.now in let new = c.next.new.self in let l = line_of c.args.line.now in let b = c.args.bound in let is = c.requires.part in let n = c.requires.sound.0.number in
    let same = c.in-Ok.ensures.same in
    record {
      comes = ap (next_map lean_work) (header_here t is n b l c.args.due c.requires.later)
          ∙ header_goes (here t is n b l c.args.due) new.problem c.in-Ok.due (work_of new c.in_header.result) (c.in-Ok.ensures.comes ∙ ap (λ (p : Parts). on (due_of p c.in-Ok.due)) (sym same.problem)) (c.in_header.ensures.comes new)
          (held_work_lean new c.in_header.result);
      part = c.in-Ok.ensures.part;
      sound = c.in_header.ensures.sound new (tooled_first t new same c.requires.sound.0) (subst (λ (p : Parts). IsSound p c.in-Ok.due) (sym same.problem) c.in-Ok.ensures.sound);
      checks = tooled_checks t new same;
    }

pub returns-in-Err-clause-comes : goal.returns-in-Err-clause-comes
returns-in-Err-clause-comes c =
    let t = c.args.part.now in let l = line_of c.args.line.now in let b = c.args.bound in let is = c.requires.part in let n = c.requires.sound.0.number in
    subst (λ (x : NextOf Work). IsRefused c.in-Err.refusal x) (sym (header_here t is n b l c.args.due c.requires.later)) (header_refused c.in-Err.refusal (here t is n b l c.args.due) c.in-Err.ensures.comes)

pub returns-in-Err-clause-checks : goal.returns-in-Err-clause-checks
returns-in-Err-clause-checks c = tooled_checks c.args.part.now c.next.new.self c.in-Err.ensures.same
