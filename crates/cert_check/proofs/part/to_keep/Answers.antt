use Rattle.std.proofs.Common.{◌≡◌, ◌∙◌, true, rules}
use Rattle.cert_check.proofs.PartEnds.{keeps_all, may_keep, more_of_each, no_crossed_axis}
use Rattle.cert_check.proofs.Results.{if_ok}
use Rattle.cert_check.proofs.part.to_keep.Goals as goal

pub carried-requires-clause-box_stands : goal.carried-requires-clause-box_stands
carried-requires-clause-box_stands c =
    let test : may_keep c.args.extends c.args.before.now c.args.problem.now ≡ true = search rules in
    no_crossed_axis c.args.extends c.args.before.now c.args.problem.now test

pub carried-requires-clause-more : goal.carried-requires-clause-more
carried-requires-clause-more c =
    let test : may_keep c.args.extends c.args.before.now c.args.problem.now ≡ true = search rules in
    more_of_each c.args.extends c.args.before.now c.args.problem.now c.args.lemmas test c.requires.lemmas c.requires.goes_on

pub returns-then-not-is_crossed_box-2-clause-states : goal.returns-then-not-is_crossed_box-2-clause-states
returns-then-not-is_crossed_box-2-clause-states c =
    let test : may_keep c.args.extends c.args.before.now c.args.problem.now ≡ true = search rules in
    if_ok c.carried.result (λ v h. h ∙ keeps_all c.args.extends c.args.before.now c.args.problem.now c.args.lemmas test) c.carried.ensures.carried
