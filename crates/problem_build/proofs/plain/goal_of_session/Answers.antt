use Rattle.std.proofs.Common.{◌≡◌, ap, sym, ◌∙◌, arith, length, List}
use Rattle.smt_script.specs.Levels.{Step}
use Rattle.smt_script.specs.Views.{commands_in, steps_in}
use Rattle.problem_build.proofs.NoGoals.{only_built, only_goal, same_steps}
use Rattle.problem_build.proofs.plain.goal_of_session.Goals as goal

pub goal_of-requires : goal.goal_of-requires
goal_of-requires c =
    let x = c.requires in
    let one : length c.args.session.now ≡ 1 = grind (arith, c.if-len-ne1.false, c.len.ensures) in
    let same : steps_in c.in_ok-typed.typed.course ≡ x.told = ap steps_in c.in_ok-typed.ensures.0 ∙ same_steps _ (steps_in c.in_ok-course.course) x.told c.in_ok-course.ensures.1 x.are in
    (x.bound, only_built x.bound x.told (steps_in c.in_ok-typed.typed.course) c.args.session.now x.built one same (commands_in c.in_ok-only.only.script) c.in_ok-only.ensures c.in_ok-problem.problem c.in_ok-problem.ensures)

pub returns : goal.returns
returns c = λ told are.
    let x = c.requires in
    let one : length c.args.session.now ≡ 1 = grind (arith, c.if-len-ne1.false, c.len.ensures) in
    let same : steps_in c.in_ok-typed.typed.course ≡ x.told = ap steps_in c.in_ok-typed.ensures.0 ∙ same_steps _ (steps_in c.in_ok-course.course) x.told c.in_ok-course.ensures.1 x.are in
    c.goal_of.ensures ∙ sym (ap (λ (ss : List Step). Rattle.script_reading.specs.Goals.goal_of_checks (Rattle.smt_script.specs.Levels.checks_of ss)) (same_steps _ told x.told are x.are)
    ∙ only_goal x.bound x.told (steps_in c.in_ok-typed.typed.course) c.args.session.now x.built one same (commands_in c.in_ok-only.only.script) c.in_ok-only.ensures c.in_ok-problem.problem c.in_ok-problem.ensures)
