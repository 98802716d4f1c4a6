use Rattle.std.proofs.lemmas.Result.{err_from_is_err_and}
use Rattle.script_model.specs.Declared.{bounding}
use Rattle.script_forms.specs.Work.{as_work}
use Rattle.smt_sexp.specs.Views.{place_of}
use Rattle.problem_build.specs.Goal.{goal_meaning}
use Rattle.problem_build.specs.Names.{work_at, bounding_at}
use Rattle.problem_build.proofs.Standing as standing
use Rattle.problem_build.proofs.goal.goal_claim.Goals as goal

pub claim-requires : goal.claim-requires
claim-requires c =
    let at = place_of c.args.place in
    let w = goal_meaning as_work at (work_at c.args.sexps.now c.args.top.now c.args.body) in
    (w.outcome, goal_meaning bounding at (bounding_at c.args.sexps.now c.args.top.now c.args.body), c.in_ok-value.ensures.walks.1.1)

pub returns-clause-asserts : goal.returns-clause-asserts
returns-clause-asserts c =
    let at = place_of c.args.place in
    let w = goal_meaning as_work at (work_at c.args.sexps.now c.args.top.now c.args.body) in
    let b = goal_meaning bounding at (bounding_at c.args.sexps.now c.args.top.now c.args.body) in
    standing.asserts_claim c.args.maker.now c.disjunction.new.maker c.claim.new.self w b c.in_ok-value.value c.claim.result c.in_ok-value.ensures.walks c.claim.ensures.does

pub returns-in_err-value-clause-asserts : goal.returns-in_err-value-clause-asserts
returns-in_err-value-clause-asserts c =
    let at = place_of c.args.place in
    let w = goal_meaning as_work at (work_at c.args.sexps.now c.args.top.now c.args.body) in
    let b = goal_meaning bounding at (bounding_at c.args.sexps.now c.args.top.now c.args.body) in
    let p = err_from_is_err_and c.from_residual.result c.from_residual.ensures.1 in
    rw (p.1, p.2) (standing.asserts_fails c.args.maker.now c.disjunction.new.maker w b c.in_err-value.field-0.0 c.in_err-value.ensures.walks)
