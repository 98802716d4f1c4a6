use Rattle.std.proofs.Common.{◌≡◌, ap, ◌∙◌, sym, arith, ◌∷◌, map, length, ◌-◌, take, drop}
use Rattle.std.proofs.lemmas.Result.{err_from_is_err_and}
use Rattle.smt_script.specs.Levels.{after_step, no_levels}
use Rattle.smt_script.specs.Views.{step_of}
use Rattle.sort_check.specs.Levels.{course_fault_from, course_fault_in}
use Rattle.sort_check.specs.Sorts.{then_on}
use Rattle.sort_check.specs.Views.{theory_names}
use Rattle.sort_check.proofs.Lists.{split_first}
use Rattle.sort_check.proofs.Following.{stops_first}
use Rattle.sort_check.proofs.commands.sorts.Goals as goal

pub loop-rest-init : goal.loop-rest-init
loop-rest-init c =
    let s = c.args.course.now.sexps.now in
    (no_levels, c.in_ok-scope.ensures s, ap (λ xs. course_fault_in (theory_names c.args.theory) (map (step_of s) xs)) (sym c.as_slice-rest.ensures.value))

pub loop-rest-preserved : goal.loop-rest-preserved
loop-rest-preserved c =
    let i = c.loop-rest.invariant in
    let theory = theory_names c.args.theory in
    let seen = step_of c.args.course.now.sexps.now in
    let later = map seen (take (length c.loop-rest.rest.now - 1) (drop 1 c.loop-rest.rest.now)) in
    let rest_is : map seen c.loop-rest.rest.now ≡ seen c.first-item.result ∷ later = ap (map seen) (split_first c.loop-rest.rest.now c.first-item.result (omega (arith, c.in-len1-up.len_at_least)) (grind (arith, c.first-item.is, c.in-len1-up.len_at_least))) in
    let f = c.in_ok-follow.ensures i.0 i.1 in
    let next = after_step i.0 (seen c.first-item.result) in
    (next, f.0, i.2 ∙ ap (course_fault_from theory i.0) rest_is ∙ ap (λ g. then_on g (course_fault_from theory next later)) f.1)

pub follow-requires : goal.follow-requires
follow-requires c = c.loop-rest.invariant.1.few

pub returns-in_err-follow : goal.returns-in_err-follow
returns-in_err-follow c =
    let i = c.loop-rest.invariant in
    let theory = theory_names c.args.theory in
    let seen = step_of c.args.course.now.sexps.now in
    let later = map seen (take (length c.loop-rest.rest.now - 1) (drop 1 c.loop-rest.rest.now)) in
    let rest_is : map seen c.loop-rest.rest.now ≡ seen c.first-item.result ∷ later = ap (map seen) (split_first c.loop-rest.rest.now c.first-item.result (omega (arith, c.in-len1-up.len_at_least)) (grind (arith, c.first-item.is, c.in-len1-up.len_at_least))) in
    let p = err_from_is_err_and c.from_residual-in_err-follow.result c.from_residual-in_err-follow.ensures.1 in
    rw (p.1, p.2) (stops_first theory c.args.course.now.sexps.now c.follow.new.scope i.0 (seen c.first-item.result) later c.in_err-follow.field-0.0 (i.2 ∙ ap (course_fault_from theory i.0) rest_is) (c.in_err-follow.ensures i.0 i.1))
