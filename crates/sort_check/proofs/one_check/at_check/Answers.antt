use Rattle.std.proofs.Common.{Some, ap, map, sym, ◌∙◌}
use Rattle.std.specs.Prelude.{reverse}
use Rattle.std.proofs.lemmas.List.{reverse-reverse}
use Rattle.smt_script.specs.Levels.{checks_of, no_levels}
use Rattle.smt_script.specs.Views.{command_of, step_of}
use Rattle.sort_check.proofs.Lengths.{check_left, nothing_held}
use Rattle.sort_check.proofs.one_check.at_check.Goals as goal

pub loop-step-init : goal.loop-step-init
loop-step-init c = let s = c.args.sexps.now in (
  c.new-force.ensures.sexps,
  no_levels,
  nothing_held s c.new-force.result.script.commands.items c.new-force.result.marks.items c.new-force.ensures.nothing.commands c.new-force.ensures.nothing.marks,
  ap (λ xs. checks_of (map (step_of s) xs)) (sym (reverse-reverse c.args.steps.items) ∙ ap reverse (sym c.reverse.ensures.items)),
)

pub returns-in-Some-check_place : goal.returns-in-Some-check_place
returns-in-Some-check_place c =
    let s = c.args.sexps.now in
    let i = c.loop-step.invariant in
    let force = c.loop-step.force in
    ap (λ x. Some (map (command_of x) c.push.new.self.items)) i.0 ∙
    check_left s c.args.steps.items c.loop-step.left.items c.pop.new.self.items c.in-Some.step c.in-Some-check_place.place force.script.commands.items c.push.new.self.items force.marks.items i.1
    c.in-Some.ensures.items (sym (c.in-Some-check_place.ensures s)) c.in_ok-push.ensures.items i.2 i.3
