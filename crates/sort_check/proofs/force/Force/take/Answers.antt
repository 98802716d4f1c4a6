use Rattle.std.proofs.Common.{◌∙◌, sym, subst}
use Rattle.std.proofs.lemmas.Result.{on_ok_weaker}
use Rattle.smt_script.specs.Levels.{after_step}
use Rattle.smt_script.specs.Views.{step_of}
use Rattle.smt_script.specs.declared.command.Step.{Step}
use Rattle.sort_check.specs.Single.{Stacks}
use Rattle.sort_check.proofs.force.Force.take.Goals as goal

pub returns-in-Command-clause-takes : goal.returns-in-Command-clause-takes
returns-in-Command-clause-takes c =
    let marks = c.args.self.now.marks.items in
    on_ok_weaker c.hold.result
    (λ held s l h. subst (λ (x : Step). Stacks s c.hold.new.force.items marks (after_step l (step_of s x))) (sym c.in-Command.is) (held s marks l h)) c.hold.ensures

pub returns-in-Push-clause-takes : goal.returns-in-Push-clause-takes
returns-in-Push-clause-takes c =
    let commands = c.args.self.now.script.commands.items in
    on_ok_weaker c.open.result
    (λ opened s l h. subst (λ (x : Step). Stacks s commands c.open.new.marks.items (after_step l (step_of s x))) (sym c.in-Push.is) (opened s l h))
    (c.open.ensures commands (c.len-before.ensures ∙ c.args.self.now.script.commands.ok.0))

pub returns-in-Pop-clause-takes : goal.returns-in-Pop-clause-takes
returns-in-Pop-clause-takes c = λ s l h.
    subst (λ (x : Step). Stacks s c.close.new.force.items c.close.new.marks.items (after_step l (step_of s x))) (sym c.in-Pop.is) (c.close.ensures s l h)
