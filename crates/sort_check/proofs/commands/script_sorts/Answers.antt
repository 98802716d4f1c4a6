use Rattle.std.proofs.Common.{◌≡◌, ap, ◌∙◌, sym, arith, [], ◌∷◌, map, length, ◌-◌, take, drop}
use Rattle.std.proofs.lemmas.Result.{err_from_is_err_and}
use Rattle.smt_script.specs.Views.{command_of}
use Rattle.sort_check.specs.Sorts.{sort_fault, sort_fault_from}
use Rattle.sort_check.specs.Steps.{named_after}
use Rattle.sort_check.proofs.Following.{stops_here}
use Rattle.sort_check.proofs.Lists.{split_first}
use Rattle.sort_check.proofs.commands.script_sorts.Goals as goal

pub loop-rest-init : goal.loop-rest-init
loop-rest-init c =
    ([], c.in_ok-top.ensures, omega arith, ap (λ xs. sort_fault (map (command_of c.args.script.now.sexps.now) xs)) (sym c.as_slice-rest.ensures.value))

pub step-requires : goal.step-requires
step-requires c = c.loop-rest.invariant.2

pub loop-rest-preserved : goal.loop-rest-preserved
loop-rest-preserved c =
    let i = c.loop-rest.invariant in
    let seen = command_of c.args.script.now.sexps.now in
    let d = seen c.first-item.result in
    let later = map seen (take (length c.loop-rest.rest.now - 1) (drop 1 c.loop-rest.rest.now)) in
    let rest_is : map seen c.loop-rest.rest.now ≡ d ∷ later = ap (map seen) (split_first c.loop-rest.rest.now c.first-item.result (omega (arith, c.in-len1-up.len_at_least)) (grind (arith, c.first-item.is, c.in-len1-up.len_at_least))) in
    let next = named_after d i.0 in
    let f = c.in_ok-count.ensures i.0 i.1 in
    (next, f.0, f.3, i.3 ∙ ap (sort_fault_from c.loop-rest.count i.0) rest_is ∙ f.2 later ∙ ap (λ n. sort_fault_from n next later) (sym f.1))

pub returns-in_err-count : goal.returns-in_err-count
returns-in_err-count c =
    let i = c.loop-rest.invariant in
    let seen = command_of c.args.script.now.sexps.now in
    let d = seen c.first-item.result in
    let later = map seen (take (length c.loop-rest.rest.now - 1) (drop 1 c.loop-rest.rest.now)) in
    let rest_is : map seen c.loop-rest.rest.now ≡ d ∷ later = ap (map seen) (split_first c.loop-rest.rest.now c.first-item.result (omega (arith, c.in-len1-up.len_at_least)) (grind (arith, c.first-item.is, c.in-len1-up.len_at_least))) in
    let p = err_from_is_err_and c.from_residual-in_err-count.result c.from_residual-in_err-count.ensures.1 in
    rw (p.1, p.2) (stops_here c.step.new.top c.loop-rest.count i.0 d later c.in_err-count.field-0.0 (i.3 ∙ ap (sort_fault_from c.loop-rest.count i.0) rest_is) (c.in_err-count.ensures i.0 i.1))
