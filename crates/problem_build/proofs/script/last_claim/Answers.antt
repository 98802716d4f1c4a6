use Rattle.std.proofs.Common.{◌≡◌, ap, sym, ◌∙◌, arith, ◌∷◌, map, length, ◌-◌, take, drop}
use Rattle.smt_script.specs.Views.{command_of}
use Rattle.sort_check.proofs.Lists.{split_first}
use Rattle.script_forms.specs.Walk.{claim_places, last_place}
use Rattle.smt_sexp.specs.Views.{place_of}
use Rattle.problem_build.proofs.Finishing as finishing
use Rattle.problem_build.proofs.Standing.{none_left}
use Rattle.problem_build.proofs.script.last_claim.Goals as goal

pub loop-rest-preserved-in-Some : goal.loop-rest-preserved-in-Some
loop-rest-preserved-in-Some c = λ s.
    let seen = command_of s in
    let later = map seen (take (length c.loop-rest.rest.now - 1) (drop 1 c.loop-rest.rest.now)) in
    let rest_is : map seen c.loop-rest.rest.now ≡ seen c.command-item.result ∷ later = ap (map seen) (split_first c.loop-rest.rest.now c.command-item.result (omega (arith, c.in-len1-up.len_at_least)) (grind (arith, c.command-item.is, c.in-len1-up.len_at_least))) in
    c.loop-rest.invariant s ∙ ap (λ xs. last_place (place_of c.loop-rest.last) (claim_places xs)) rest_is ∙
    finishing.claimed_here s c.command-item.result later c.in-Some.place (c.in-Some.ensures s) (place_of c.loop-rest.last)

pub loop-rest-preserved : goal.loop-rest-preserved
loop-rest-preserved c = λ s.
    let seen = command_of s in
    let later = map seen (take (length c.loop-rest.rest.now - 1) (drop 1 c.loop-rest.rest.now)) in
    let rest_is : map seen c.loop-rest.rest.now ≡ seen c.command-item.result ∷ later = ap (map seen) (split_first c.loop-rest.rest.now c.command-item.result (omega (arith, c.in-len1-up.len_at_least)) (grind (arith, c.command-item.is, c.in-len1-up.len_at_least))) in
    c.loop-rest.invariant s ∙ ap (λ xs. last_place (place_of c.loop-rest.last) (claim_places xs)) rest_is ∙
    finishing.claimed_nowhere s c.command-item.result later (c.in_default-claim_place.ensures s) (place_of c.loop-rest.last)

pub returns : goal.returns
returns c = λ s. sym (c.loop-rest.invariant s ∙ ap (λ xs. last_place (place_of c.loop-rest.last) (claim_places xs)) (none_left (command_of s) c.loop-rest.rest.now c.in_default.len_below))
