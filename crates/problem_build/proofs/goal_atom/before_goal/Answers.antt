use Rattle.std.proofs.Common.{◌≡◌, ap, sym, ◌∙◌, arith, ◌∷◌, map, length, ◌-◌, take, drop}
use Rattle.smt_script.specs.Views.{command_of}
use Rattle.sort_check.proofs.Lists.{split_first}
use Rattle.problem_build.specs.Goal.{before_goal}
use Rattle.problem_build.proofs.GoalAtom as atoms
use Rattle.problem_build.proofs.GoalAtom.{after_claims}
use Rattle.problem_build.proofs.Standing.{none_left}
use Rattle.problem_build.proofs.goal_atom.before_goal.Goals as goal

pub returns-in-Minimize : goal.returns-in-Minimize
returns-in-Minimize c = λ s.
    let seen = command_of s in
    let later = map seen (take (length c.loop-rest.rest.now - 1) (drop 1 c.loop-rest.rest.now)) in
    let rest_is : map seen c.loop-rest.rest.now ≡ seen c.command-item.result ∷ later = ap (map seen) (split_first c.loop-rest.rest.now c.command-item.result (omega (arith, c.in-len1-up.len_at_least)) (grind (arith, c.command-item.is, c.in-len1-up.len_at_least))) in
    sym (c.loop-rest.invariant.1 s ∙ ap (λ xs. after_claims c.loop-rest.before (before_goal xs)) rest_is ∙ atoms.goal_counts s c.loop-rest.before later c.command-item.result c.in-Minimize.field-0 c.in-Minimize.field-1 c.in-Minimize.is)

pub loop-rest-preserved-in-Assert : goal.loop-rest-preserved-in-Assert
loop-rest-preserved-in-Assert c =
    let rest = c.loop-rest.rest.now in
    let item = c.command-item.result in
    let first : rest ≡ item ∷ take (length rest - 1) (drop 1 rest) = split_first rest item (omega (arith, c.in-len1-up.len_at_least)) (grind (arith, c.command-item.is, c.in-len1-up.len_at_least)) in (
      omega (arith, c.loop-rest.invariant.0, ap (λ xs. length xs) first),
      λ s. c.loop-rest.invariant.1 s ∙ ap (λ xs. after_claims c.loop-rest.before (before_goal (map (command_of s) xs))) first ∙
          atoms.claim_counts s c.loop-rest.before (map (command_of s) (take (length rest - 1) (drop 1 rest))) item c.in-Assert.field-0 c.in-Assert.field-1 c.in-Assert.is,
    )

pub loop-rest-preserved : goal.loop-rest-preserved
loop-rest-preserved c =
    let rest = c.loop-rest.rest.now in
    let item = c.command-item.result in
    let first : rest ≡ item ∷ take (length rest - 1) (drop 1 rest) = split_first rest item (omega (arith, c.in-len1-up.len_at_least)) (grind (arith, c.command-item.is, c.in-len1-up.len_at_least)) in (
      omega (arith, c.loop-rest.invariant.0, ap (λ xs. length xs) first),
      λ s. c.loop-rest.invariant.1 s ∙ ap (λ xs. after_claims c.loop-rest.before (before_goal (map (command_of s) xs))) first ∙
          atoms.other_counts s c.loop-rest.before (map (command_of s) (take (length rest - 1) (drop 1 rest))) item c.in_default-command.not-Assert c.in_default-command.not-Minimize,
    )

pub returns : goal.returns
returns c = λ s. sym (c.loop-rest.invariant.1 s ∙ ap (λ xs. after_claims c.loop-rest.before (before_goal xs)) (none_left (command_of s) c.loop-rest.rest.now c.in_default.len_below))
