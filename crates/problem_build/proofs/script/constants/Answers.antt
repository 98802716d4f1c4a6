use Rattle.std.proofs.Common.{◌≡◌, ap, sym, ◌∙◌, arith, ◌∷◌, ◌++◌, append-nil, map, length, ◌-◌, take, drop}
use Rattle.smt_script.specs.Views.{command_of}
use Rattle.sort_check.proofs.Lists.{split_first}
use Rattle.script_model.specs.Script.{constants_of}
use Rattle.declared_box.specs.Axes.{constant_of}
use Rattle.problem_build.proofs.Finishing as finishing
use Rattle.problem_build.proofs.Standing.{none_left}
use Rattle.problem_build.proofs.script.constants.Goals as goal

pub loop-rest-preserved-in_ok-push : goal.loop-rest-preserved-in_ok-push
loop-rest-preserved-in_ok-push c = λ s.
    let seen = command_of s in
    let later = map seen (take (length c.loop-rest.rest.now - 1) (drop 1 c.loop-rest.rest.now)) in
    let rest_is : map seen c.loop-rest.rest.now ≡ seen c.command-item.result ∷ later = ap (map seen) (split_first c.loop-rest.rest.now c.command-item.result (omega (arith, c.in-len1-up.len_at_least)) (grind (arith, c.command-item.is, c.in-len1-up.len_at_least))) in
    let d = c.in-Declare in
    c.loop-rest.invariant s ∙ ap (λ xs. map constant_of c.loop-rest.constants.items ++ constants_of xs) rest_is ∙
    ap (λ x. map constant_of c.loop-rest.constants.items ++ constants_of (seen x ∷ later)) d.is ∙
    finishing.moved constant_of c.loop-rest.constants.items (record { place = d.place; name = d.name; sort = d.sort }) (constants_of later) ∙
    ap (λ xs. map constant_of xs ++ constants_of later) (sym c.in_ok-push.ensures.items)

pub loop-rest-preserved : goal.loop-rest-preserved
loop-rest-preserved c = λ s.
    let seen = command_of s in
    let later = map seen (take (length c.loop-rest.rest.now - 1) (drop 1 c.loop-rest.rest.now)) in
    let rest_is : map seen c.loop-rest.rest.now ≡ seen c.command-item.result ∷ later = ap (map seen) (split_first c.loop-rest.rest.now c.command-item.result (omega (arith, c.in-len1-up.len_at_least)) (grind (arith, c.command-item.is, c.in-len1-up.len_at_least))) in
    c.loop-rest.invariant s ∙ ap (λ xs. map constant_of c.loop-rest.constants.items ++ constants_of xs) rest_is ∙
    ap (λ xs. map constant_of c.loop-rest.constants.items ++ xs) (finishing.not_declared s c.command-item.result later c.in_default-command.not-Declare)

pub returns : goal.returns
returns c = λ s. sym (c.loop-rest.invariant s ∙ ap (λ xs. map constant_of c.loop-rest.constants.items ++ constants_of xs) (none_left (command_of s) c.loop-rest.rest.now c.in_default.len_below) ∙ append-nil (map constant_of c.loop-rest.constants.items))
