use Rattle.std.proofs.lemmas.Result.{err_from_is_err_and}
use Rattle.sort_check.proofs.Following.{asked_fails, asked_ok}
use Rattle.sort_check.proofs.commands.asked.Goals as goal

pub returns : goal.returns
returns c = λ names knows. asked_ok _ c.in_ok-terms.field-0.items (c.in_ok-terms.ensures names knows)

pub returns-in_err-terms : goal.returns-in_err-terms
returns-in_err-terms c = λ names knows.
    let p = err_from_is_err_and c.from_residual.result c.from_residual.ensures.1 in
    rw (p.1, p.2) (asked_fails c.in_err-terms.field-0.0 _ (c.in_err-terms.ensures names knows))
