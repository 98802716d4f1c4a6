use Rattle.std.proofs.Common.{◌≡◌, Bool, true, cond, ap, sym, ◌∙◌, arith, ◌∷◌, map, length, ◌-◌, take, drop}
use Rattle.smt_script.specs.Views.{step_of}
use Rattle.sort_check.proofs.Lists.{split_first}
use Rattle.problem_build.specs.GoalStep.{has_goal}
use Rattle.problem_build.proofs.NoGoals.{first_counts}
use Rattle.problem_build.proofs.Standing.{none_left}
use Rattle.problem_build.proofs.goal_step.has_goal.Goals as goal

pub returns-then-is_goal : goal.returns-then-is_goal
returns-then-is_goal c = λ s.
    let rest = c.loop-rest.rest.now in
    let later = map (step_of s) (take (length rest - 1) (drop 1 rest)) in
    let is : map (step_of s) rest ≡ step_of s c.step-item.result ∷ later = ap (map (step_of s)) (split_first rest c.step-item.result (omega (arith, c.in-len1-up.len_at_least)) (grind (arith, c.step-item.is, c.in-len1-up.len_at_least))) in
    sym (c.loop-rest.invariant s ∙ ap has_goal is ∙ first_counts c.is_goal.result (step_of s c.step-item.result) later (c.is_goal.ensures s) ∙ ap (λ (b : Bool). cond b true (has_goal later)) c.if-is_goal.true)

pub loop-rest-preserved : goal.loop-rest-preserved
loop-rest-preserved c = λ s.
    let rest = c.loop-rest.rest.now in
    let later = map (step_of s) (take (length rest - 1) (drop 1 rest)) in
    let is : map (step_of s) rest ≡ step_of s c.step-item.result ∷ later = ap (map (step_of s)) (split_first rest c.step-item.result (omega (arith, c.in-len1-up.len_at_least)) (grind (arith, c.step-item.is, c.in-len1-up.len_at_least))) in
    c.loop-rest.invariant s ∙ ap has_goal is ∙ first_counts c.is_goal.result (step_of s c.step-item.result) later (c.is_goal.ensures s) ∙ ap (λ (b : Bool). cond b true (has_goal later)) c.if-is_goal.false

pub returns : goal.returns
returns c = λ s. sym (c.loop-rest.invariant s ∙ ap has_goal (none_left (step_of s) c.loop-rest.rest.now c.in_default.len_below))
