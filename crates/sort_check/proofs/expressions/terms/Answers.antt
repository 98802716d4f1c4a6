use Rattle.std.proofs.Common.{◌≡◌, List, ◌∷◌, ◌++◌, Err, ap, sym, ◌∙◌, subst}
use Rattle.std.proofs.lemmas.Result.{err_from_is_err_and}
use Rattle.script_model.specs.Reading.{meaning, meanings}
use Rattle.smt_script.specs.Views.{sort_of}
use Rattle.smt_script.specs.declared.command.Parameter.{Parameter}
use Rattle.smt_sexp.specs.Arena.{expression_at, rest_of}
use Rattle.sort_check.specs.Sorts.{of_sort, sorting}
use Rattle.sort_check.specs.Views.{IsSortAnswer, around, sorts_seen}
use Rattle.sort_check.proofs.Calls as calls
use Rattle.sort_check.proofs.Failures as failures
use Rattle.sort_check.proofs.expressions.terms.Goals as goal

pub returns-in_err-sort : goal.returns-in_err-sort
returns-in_err-sort c = λ names knows.
    let s = c.args.sexps.now in
    let stop = c.in_err-sort.field-0.0 in
    let p = err_from_is_err_and c.from_residual.result c.from_residual.ensures.1 in
    let fails = subst (λ (ls : List Parameter). IsSortAnswer (Err stop) (meaning sorting (around ls names) (expression_at s c.loop-after.at))) c.new.ensures (c.in_err-sort.ensures names knows) in
    rw (p.1, p.2)
    (failures.argument_fails stop names (rest_of s c.args.start) (rest_of s c.loop-after.at) _ _ c.loop-after.sorts.items (c.loop-after.invariant names knows) c.in-Some.ensures.0 fails)

pub loop-after-preserved : goal.loop-after-preserved
loop-after-preserved c = λ names knows.
    let s = c.args.sexps.now in
    let sort = c.in_ok-sort.sort in
    let is = subst (λ (ls : List Parameter). meaning sorting (around ls names) (expression_at s c.loop-after.at) ≡ of_sort (sort_of sort)) c.new.ensures (c.in_ok-sort.ensures names knows) in
    c.loop-after.invariant names knows ∙
    ap (λ ms. sorts_seen c.loop-after.sorts.items ++ ms)
    (calls.meanings_are names (rest_of s c.loop-after.at) ∙ ap (calls.any_meanings names) c.in-Some.ensures.0 ∙ ap (λ m. m ∷ meanings sorting names (rest_of s c.in-Some.after)) is) ∙
    calls.seen_last c.loop-after.sorts.items sort _ ∙ ap (λ ss. sorts_seen ss ++ meanings sorting names (rest_of s c.in-Some.after)) (sym c.in_ok-push.ensures.items)
