use Rattle.std.proofs.Common.{◌≡◌, ◌∙◌, Some, ap, map, sym}
use Rattle.smt_script.specs.Levels.{checks_of, only_script}
use Rattle.smt_script.specs.Views.{commands_in, step_of, steps_in}
use Rattle.sort_check.specs.Single.{second_place, seen_script}
use Rattle.sort_check.proofs.Only.{only_is, refuses_none, refuses_second}
use Rattle.sort_check.proofs.one_check.only_script.Goals as goal
use Rattle.sort_check.proofs.one_check.only_script.Goals.{In-Some-2}

pub returns-in-Some : goal.returns-in-Some
returns-in-Some c =
    let s = c.args.course.sexps.now in
    refuses_second (checks_of (steps_in c.args.course)) c.in-Some.place c.at.result c.at.ensures
    (c.in-Some.ensures s ∙ ap (λ xs. second_place (checks_of (map (step_of s) xs))) c.as_slice.ensures.value)

stands : (c : In-Some-2) → only_script (checks_of (steps_in c.args.course)) ≡ Some (commands_in c.in-Some-2.script)
stands c =
    let s = c.args.course.sexps.now in
    only_is (checks_of (steps_in c.args.course)) (commands_in c.in-Some-2.script)
    (c.in_default.ensures s ∙ ap (λ xs. second_place (checks_of (map (step_of s) xs))) c.as_slice.ensures.value)
    (ap seen_script (sym c.in-Some-2.is) ∙ c.in_ok-script.ensures)

pub returns-in-Some-2 : goal.returns-in-Some-2
returns-in-Some-2 c = stands (goal.at.returns-in-Some-2 c).In-Some-2

pub returns-in-None : goal.returns-in-None
returns-in-None c =
    refuses_none (checks_of (steps_in c.args.course)) c.at-in-None.result c.at-in-None.ensures (ap seen_script (sym c.in-None.is) ∙ c.in_ok-script.ensures)
