use Rattle.std.proofs.Common.{refl, ap, sym, ◌∙◌}
use Rattle.std.proofs.lemmas.Result.{IfOk-weaker}
use Rattle.cert_model.specs.AnswerText.{budget_text}
use Rattle.check_run.specs.Answer.{loosenings_of}
use Rattle.dpoly.proofs.SearchAnswers.{says_budget, says_unsat}
use Rattle.dpoly.proofs.answers.left_text.Goals as goal

pub returns-in-UnknownBudget : goal.returns-in-UnknownBudget
returns-in-UnknownBudget c =
    IfOk-weaker _ _ _ (λ text e. says_budget c.args.book.now c.args.options.now _ c.book_is_sound.ensures (sym c.verdict.ensures ∙ c.in-UnknownBudget.is) (e ∙ ap budget_text c.from.ensures)) c.budget.ensures

pub returns-in-Unsat : goal.returns-in-Unsat
returns-in-Unsat c =
    IfOk-weaker _ _ _ (λ text e. says_unsat c.args.book.now c.args.options.now _ c.book_is_sound.ensures (sym c.verdict.ensures ∙ c.in-Unsat.is) (e (loosenings_of c.args.options.now) refl)) c.unsat.ensures
