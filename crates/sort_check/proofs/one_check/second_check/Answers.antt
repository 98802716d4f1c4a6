use Rattle.std.proofs.Common.{◌≡◌, ap, sym, ◌∙◌, arith, ◌∷◌, map, length, ◌-◌, take, drop}
use Rattle.smt_sexp.specs.Views.{place_of}
use Rattle.smt_script.specs.Views.{step_of}
use Rattle.sort_check.proofs.Checks.{first_here, none_here, none_left, places_in, second_here, second_is, second_left}
use Rattle.sort_check.proofs.Lists.{split_first}
use Rattle.sort_check.proofs.Following.{no_steps}
use Rattle.sort_check.proofs.one_check.second_check.Goals as goal

pub loop-rest-init : goal.loop-rest-init
loop-rest-init c = λ s. second_is (map (step_of s) c.args.steps.now)

pub returns-then-checked : goal.returns-then-checked
returns-then-checked c = λ s.
    let seen = step_of s in
    let later = map seen (take (length c.loop-rest.rest.now - 1) (drop 1 c.loop-rest.rest.now)) in
    let rest_is : map seen c.loop-rest.rest.now ≡ seen c.first-item.result ∷ later = ap (map seen) (split_first c.loop-rest.rest.now c.first-item.result (omega (arith, c.in-len1-up.len_at_least)) (grind (arith, c.first-item.is, c.in-len1-up.len_at_least))) in
    let so_far = c.loop-rest.invariant s ∙ ap (λ xs. second_left c.loop-rest.checked (places_in xs)) rest_is in
    sym (so_far ∙ second_here c.loop-rest.checked (seen c.first-item.result) later (place_of c.in-Some.place) c.if-checked.true (sym (c.in-Some.ensures s)))

pub loop-rest-preserved-else-checked : goal.loop-rest-preserved-else-checked
loop-rest-preserved-else-checked c = λ s.
    let seen = step_of s in
    let later = map seen (take (length c.loop-rest.rest.now - 1) (drop 1 c.loop-rest.rest.now)) in
    let rest_is : map seen c.loop-rest.rest.now ≡ seen c.first-item.result ∷ later = ap (map seen) (split_first c.loop-rest.rest.now c.first-item.result (omega (arith, c.in-len1-up.len_at_least)) (grind (arith, c.first-item.is, c.in-len1-up.len_at_least))) in
    let so_far = c.loop-rest.invariant s ∙ ap (λ xs. second_left c.loop-rest.checked (places_in xs)) rest_is in
    so_far ∙ first_here c.loop-rest.checked (seen c.first-item.result) later (place_of c.in-Some.place) c.if-checked.false (sym (c.in-Some.ensures s))

pub loop-rest-preserved : goal.loop-rest-preserved
loop-rest-preserved c = λ s.
    let seen = step_of s in
    let later = map seen (take (length c.loop-rest.rest.now - 1) (drop 1 c.loop-rest.rest.now)) in
    let rest_is : map seen c.loop-rest.rest.now ≡ seen c.first-item.result ∷ later = ap (map seen) (split_first c.loop-rest.rest.now c.first-item.result (omega (arith, c.in-len1-up.len_at_least)) (grind (arith, c.first-item.is, c.in-len1-up.len_at_least))) in
    let so_far = c.loop-rest.invariant s ∙ ap (λ xs. second_left c.loop-rest.checked (places_in xs)) rest_is in
    so_far ∙ none_here c.loop-rest.checked (seen c.first-item.result) later (sym (c.in_default-check_place.ensures s))

pub returns : goal.returns
returns c = λ s.
    sym (c.loop-rest.invariant s ∙ ap (λ xs. second_left c.loop-rest.checked (places_in xs)) (no_steps s c.loop-rest.rest.now c.in_default.len_below) ∙ none_left c.loop-rest.checked)
